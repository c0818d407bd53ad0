pub mod Header
pub mod Lines
pub mod Said
pub mod Ends
pub mod Working
