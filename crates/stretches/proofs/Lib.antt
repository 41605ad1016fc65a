pub mod Small
pub mod Stretches
