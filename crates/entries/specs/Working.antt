-- Words of private contracts. No public clause stands on them.
pub mod Answers
pub mod Parts
pub mod Telling
pub mod Written
