-- What a program's own clauses say of a connection that is opened, of a cancelling, and of a link in memory.
pub use Rattle.pg_open.specs.Opening
pub use Rattle.pg_open.specs.Cancelling
pub use Rattle.pg_wire.specs.Memory
