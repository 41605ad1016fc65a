pub mod Storing
pub mod Numbers
