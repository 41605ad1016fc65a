pub mod Joining
pub mod Verdict
