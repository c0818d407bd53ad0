pub mod Looks
pub mod Places
pub mod Order
pub mod Replaced
