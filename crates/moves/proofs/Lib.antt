pub mod Deciding
pub mod Reading
