-- Words of private contracts, and of what a `View` is seen as, the changes over a node. No public clause names one.
pub mod Change
pub mod Changing
pub mod Patches
pub mod Layer
pub mod Leaving
pub mod Left
pub mod ViewFalls
pub mod Standing
