pub mod Texts
pub mod Behind
pub mod Escaping
pub mod Items
pub mod Notices
pub mod Denials
