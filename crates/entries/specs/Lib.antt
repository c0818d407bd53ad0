pub mod Items
pub mod Identity
pub mod Writes
pub mod Entry
pub mod Working
