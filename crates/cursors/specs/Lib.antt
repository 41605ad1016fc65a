pub mod Taken
pub mod Keeps
