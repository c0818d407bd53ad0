pub mod Leaf
pub mod Node
pub mod Json
pub mod Draft
pub mod Undo
pub mod Working
