pub mod Clashes
