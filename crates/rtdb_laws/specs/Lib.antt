pub mod Runs
pub mod Subscriptions
pub mod Presence
pub mod Writes
pub mod Stored
pub mod Effects
pub mod Worked
