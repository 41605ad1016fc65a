pub mod Places
pub mod Seen
pub mod Guest
pub mod Windows
pub mod Unnoticed
pub mod Alone
pub mod Witness
