pub mod Working
pub mod Kept
pub mod Nowhere
pub mod Gathering
pub mod Counting
