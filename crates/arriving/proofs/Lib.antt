pub mod Asking
pub mod Lending
