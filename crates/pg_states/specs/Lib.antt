pub mod Clearing
pub mod States
pub mod Closing
pub mod Texts
pub mod Paired
