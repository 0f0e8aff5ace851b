pub mod Views
pub mod Faults
pub mod Parsing
pub mod Fields
pub mod Parts
pub mod Notices
pub use Rattle.pg_types.specs.Getters
pub use Rattle.pg_types.specs.Sources
