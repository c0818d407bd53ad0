pub mod Described
pub mod Found
pub mod Named
pub mod Reading
pub mod Walked
