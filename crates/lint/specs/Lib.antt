pub mod Literal
pub mod Demands
pub mod Captures
pub mod Finding
pub mod Working
