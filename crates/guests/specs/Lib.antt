pub mod Guests
pub mod Claim
pub mod Cases
