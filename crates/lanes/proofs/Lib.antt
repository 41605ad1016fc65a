pub mod Accepted
pub mod Walking
pub mod Writing
pub mod Building
pub mod Reading
