-- Words of private contracts, and of what `Tokens` are seen as, by their entries. No public clause names one.
pub mod Entries
pub mod Parts
pub mod Told
