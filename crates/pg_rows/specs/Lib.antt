pub mod Places
pub mod Lookups
pub mod Rows
pub mod Values
