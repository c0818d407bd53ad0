-- Words of private contracts, and of what holds of each `RuleNode` and of `Rules`. No public clause names one.
pub mod Inner
pub mod NodeFalls
pub mod Stepped
pub mod Rules
pub mod Front
pub mod Read
pub mod Kept
