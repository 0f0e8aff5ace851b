pub mod Answers
pub mod Aheads
pub mod Streams
pub mod Tallies
pub mod Tellings
