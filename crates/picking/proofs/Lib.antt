pub mod Merging
pub mod Picks
pub mod Finding
pub mod Sorted
pub mod Merged
