pub mod Below
pub mod Given
pub mod Kept
pub mod Errors
pub mod Ranges
pub mod Needed
pub mod Ordered
