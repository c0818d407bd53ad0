pub mod Path
pub mod Name
pub mod Pattern
pub mod Captures
pub mod Write
pub mod Working
