pub mod Matching
pub mod Walking
pub mod Own
pub mod Witness
