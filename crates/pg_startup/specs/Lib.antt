pub mod Stages
pub mod Steps
pub mod Transfers
pub mod Frames
pub mod Startups
pub mod StartupPolls
pub mod SslRequests
