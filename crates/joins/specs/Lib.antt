pub mod Joins
pub mod Claim
pub mod Cases
