pub mod Writing
pub mod Counting
pub mod Fitting
