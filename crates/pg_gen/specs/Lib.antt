pub mod Draws
pub mod Messages
pub mod Generated
pub mod Summaries
pub mod Counting
pub mod Laws
pub mod Examples
