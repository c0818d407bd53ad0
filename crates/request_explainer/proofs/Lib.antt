pub mod Existing
pub mod Touching
pub mod Deeper
pub mod Prefixes
pub mod Asking
