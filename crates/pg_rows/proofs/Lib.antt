pub mod Found
pub mod LookupLaws
pub mod Walked
pub mod Got
