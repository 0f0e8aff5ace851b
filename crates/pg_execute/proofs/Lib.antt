mod AsWide
mod ClosedBehind
mod Counting
mod Sayings
mod Malformed
mod ReadingOn
mod Taking
mod Targets
mod Typed
pub mod Giving
mod PassingOn
mod TypedExecutes
mod TypedQueries
