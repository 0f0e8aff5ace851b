pub mod Behind
mod Requests
pub mod Taken
mod Steps
pub mod Commands
mod Leaving
mod ExecutionReadings
mod ExecutionRequests
pub mod ExecutionCommands
mod PortalRequests
mod PortalCommands
mod TypedReadings
mod TypedRequests
pub mod TypedCommands
pub mod Asking
mod AskingExecutions
pub mod Keeping
pub mod Meeting
pub mod Found
pub mod Nesting
mod OneAsked
pub mod OneRun
mod Whole
pub mod RunQuestions
