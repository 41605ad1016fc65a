pub mod Arrivals
pub mod Claim
pub mod Cases
