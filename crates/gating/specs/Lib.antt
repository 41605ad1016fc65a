pub mod Listed
pub mod Claim
