-- Words of private contracts. No public clause stands on them.
pub mod Asking
