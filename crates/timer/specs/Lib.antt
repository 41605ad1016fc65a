pub mod Registers
pub mod Ticks
pub mod Driving
pub mod Cases
