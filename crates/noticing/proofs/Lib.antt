pub mod Seen
pub mod Tools
pub mod Begun
pub mod Witness
