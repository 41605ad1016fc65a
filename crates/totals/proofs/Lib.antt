pub mod OnePass
pub mod Ranks
pub mod Gathering
pub mod Climbing
pub mod Passing
