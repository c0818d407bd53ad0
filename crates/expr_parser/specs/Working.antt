-- Words of private contracts. No public clause stands on them.
pub mod Printing
pub mod Reading
pub mod Gives
