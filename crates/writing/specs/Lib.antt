pub mod Stored
pub mod AllTables
