pub mod Message
pub mod Ask
pub mod Working
