pub mod Decides
pub mod Plans
pub mod Same
pub mod Machine
