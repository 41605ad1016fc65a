pub mod Storing
pub mod Tables
pub mod AllTables
pub mod Fitting
pub mod Reading
