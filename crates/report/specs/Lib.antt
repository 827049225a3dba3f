pub mod Texts
pub mod Unrun
