pub mod Stores
pub mod Widths
pub mod Back
pub mod Calls
pub mod Through
pub mod Witness
