pub mod Blocks
pub mod Stepping
pub mod Answers
