-- Types and values.
pub mod AnyValues
pub mod BuiltIns
pub mod Laws
pub mod Oids
pub mod Values
pub mod formers
pub mod Getters
pub mod Sources
pub mod Texts
