pub mod Faults
pub mod Challenge
pub mod Bindings
pub mod Dialogue
pub mod Spelling
