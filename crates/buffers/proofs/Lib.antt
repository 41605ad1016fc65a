pub mod Merging
pub mod Rising
pub mod Sides
pub mod Asked
