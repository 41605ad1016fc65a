pub mod Headed
pub mod Stores
