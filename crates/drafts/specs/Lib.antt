pub mod Drafts
pub mod Edits
pub mod Claim
pub mod Cases
