pub mod Gaining
pub mod Going
pub mod Turning
pub mod Departing
pub mod Reading
