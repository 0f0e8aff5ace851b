pub mod OneAtATime
pub mod Runs
pub mod Conforming
pub mod Promised
pub mod Rehearsals
