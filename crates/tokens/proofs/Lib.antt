pub mod Ahead
pub mod Halves
pub mod Named
pub mod Secrets
pub mod Texts
