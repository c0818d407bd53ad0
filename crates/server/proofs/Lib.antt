pub mod Crossing
pub mod Going
pub mod Shuffling
pub mod Visiting
