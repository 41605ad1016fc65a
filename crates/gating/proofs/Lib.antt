pub mod Answers
pub mod Copying
pub mod Reading
