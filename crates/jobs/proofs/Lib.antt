pub mod Held
pub mod Gathering
