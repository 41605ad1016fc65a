pub mod Turns
pub mod Stands
