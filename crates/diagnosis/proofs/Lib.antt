pub mod Paths
pub mod Faulty
pub mod Stopped
