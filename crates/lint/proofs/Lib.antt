pub mod Lists
pub mod Nodes
pub mod Climbing
pub mod Asked
pub mod Prefixes
pub mod Places
pub mod Unused
pub mod Reasons
