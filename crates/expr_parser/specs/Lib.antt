pub mod Tree
pub mod View
pub mod Grammar
pub mod Stopping
pub mod Text
pub mod Working
pub mod TreeCode
pub mod Worked
