pub mod Tables
pub mod Wholes
