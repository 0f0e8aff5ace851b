pub mod Telling
pub mod Going
pub mod Closing
pub mod Asking
pub mod Opening
pub mod Begun
pub mod Rows
pub mod Parts
pub mod Collected
pub mod Brought
pub mod Behind
pub mod Later
pub mod Texts
mod Targets
mod Takes
mod Heading
mod Knowing
mod Ending
mod Streams
mod Fresh
mod Polling
mod Portals
