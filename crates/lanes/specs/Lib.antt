pub mod Walks
pub mod Words
pub mod LookUp
