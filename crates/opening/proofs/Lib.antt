pub mod Octets
pub mod Going
pub mod Sending
