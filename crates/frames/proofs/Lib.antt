pub mod Placing
pub mod Gathering
pub mod Once
pub mod Reading
