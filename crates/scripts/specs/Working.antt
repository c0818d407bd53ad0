-- Words of private contracts. No public clause stands on them.
pub mod Parts
pub mod Sent
pub mod Follow
pub mod Opening
