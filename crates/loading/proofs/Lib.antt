pub mod States
pub mod Runs
pub mod Loads
pub mod Stepping
pub mod Calls
pub mod Witness
