pub mod Begun
pub mod Prefixes
pub mod Serving
