mod Adding
pub mod Growing
pub mod Appending
pub mod Gathered
pub mod Left
