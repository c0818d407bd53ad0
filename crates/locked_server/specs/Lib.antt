pub mod History
pub mod Known
pub mod Working
