pub mod Query
pub mod Order
pub mod Selection
pub mod Table
pub mod Listener
pub mod Worked
pub mod Working
