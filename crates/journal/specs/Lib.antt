pub mod Format
pub mod Found
pub mod Recovering
pub mod Recovery
pub mod Keeping
pub mod Sinks
