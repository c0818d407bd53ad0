pub mod Names
pub mod HasSort
pub mod Faults
pub mod Wanted
pub mod Scope
pub mod Checked
pub mod Working
