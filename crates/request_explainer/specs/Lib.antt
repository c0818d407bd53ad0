pub mod Asked
pub mod Working
