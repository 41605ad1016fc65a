pub mod Cycles
pub mod Tabled
pub mod Changes
pub mod Keeping
pub mod Waiting
pub mod Holding
pub mod Shifts
pub mod Witness
