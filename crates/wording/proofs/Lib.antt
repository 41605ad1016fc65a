pub mod Texts
pub mod Worded
