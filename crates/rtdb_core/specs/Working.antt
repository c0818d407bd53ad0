-- Words of private contracts, and of what holds of each `Core`. No public clause names one.
pub mod Fates
pub mod Plans
pub mod Passages
pub mod Heard
pub mod Moved
pub mod Selections
