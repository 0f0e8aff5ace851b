pub mod Choices
pub mod Links
pub mod Choosing
pub mod Cancelling
pub mod Opening
