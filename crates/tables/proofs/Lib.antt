pub mod Shapes
pub mod Parts
