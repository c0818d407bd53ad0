pub mod Messages
pub mod MemberNames
pub mod Outlines
pub mod Plain
