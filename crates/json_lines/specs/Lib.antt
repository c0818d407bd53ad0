pub mod Lines
pub mod MemberName
pub mod DraftMembers
pub mod Outline
pub mod Tokens
pub mod Working
