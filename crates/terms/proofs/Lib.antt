pub mod Naming
pub mod Products
pub mod Charges
