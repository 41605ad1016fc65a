pub mod Blocks
pub mod Claim
pub mod Cases
