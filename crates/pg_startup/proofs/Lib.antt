mod Moves
pub mod Batches
pub mod Sending
pub mod Getting
pub mod Lowering
pub mod Refusals
pub mod Starting
pub mod Telling
pub mod Walking
pub mod Opening
pub mod Nearing
pub mod Asking
pub mod Failing
pub mod Beginning
