-- Words of private contracts, and of what a `Snapshot` is seen as, by those above it. No public clause names one.
pub mod Answers
pub mod Known
pub mod Parts
pub mod Places
pub mod Seams
