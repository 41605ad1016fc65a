pub mod Accepted
pub mod Looking
