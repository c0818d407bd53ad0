pub mod Tokens
pub mod Worked
pub mod Working
