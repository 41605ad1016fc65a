pub mod Modes
pub mod Claim
pub mod Cases
