pub mod Served
pub mod Working
