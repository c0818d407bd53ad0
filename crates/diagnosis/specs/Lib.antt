pub mod Written
pub mod Shown
pub mod Finding
