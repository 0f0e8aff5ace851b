pub mod Answers
pub mod Clearing
pub mod Levels
