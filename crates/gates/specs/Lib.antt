pub mod Gates
pub mod Claim
pub mod Walks
pub mod Cases
