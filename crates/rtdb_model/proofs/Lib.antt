pub mod Slots
pub mod Sameness
pub mod Histories
pub mod Outcomes
pub mod Answers
pub mod Paths
pub mod Filling
