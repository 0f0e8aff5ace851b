pub mod Owners
pub mod Outs
pub mod Parts
pub mod Pieces
pub mod Soundness
pub mod ReadyTags
pub mod Cached
pub mod Changes
