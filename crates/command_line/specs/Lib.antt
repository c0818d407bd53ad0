pub mod Order
pub mod Working
