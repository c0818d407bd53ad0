pub mod Signs
pub mod Segments
pub mod Prefixes
pub mod Parts
pub mod Rewinding
pub mod Drafted
