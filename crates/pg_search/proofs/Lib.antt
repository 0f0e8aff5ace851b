pub mod Unwinding
pub mod Stacking
pub mod Inside
pub mod Counting
pub mod Busy
pub mod Popping
pub mod Went
mod Keepings
mod Places
mod Requests
mod Sayings
mod Settling
mod Tellings
mod Behinds
mod Forwarding
