pub mod Tallying
pub mod Latest
pub mod Sums
pub mod Places
