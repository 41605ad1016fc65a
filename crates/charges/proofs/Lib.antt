pub mod Charging
pub mod Keeping
