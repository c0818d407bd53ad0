-- Words of private contracts. No public clause stands on them.
pub mod Standing
pub mod Locations
pub mod Refused
pub mod Found
pub mod Watched
