pub mod Moving
pub mod Asked
pub mod Parts
pub mod Adding
pub mod Removing
