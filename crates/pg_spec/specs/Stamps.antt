-- Stamps of requests, and marks of turns.
use Rattle.std.specs.Prelude.{ℕ}
pub use Rattle.pg_spec.specs.declared.stamps.Stamp.{Stamp}
pub use Rattle.pg_spec.specs.declared.stamps.TurnMark.{TurnMark}

-- the stamp of a request that this command of this handle books at this turn
abbrev pub stamped : (owner command turn : ℕ) → Stamp
stamped owner command turn = record { owner = owner; command = command; turn = turn }

-- a turn that was made: whose it was, and the messages delivered to requests since the startup
abbrev pub marked : (turn delivered : ℕ) → TurnMark
marked turn delivered = record { turn = turn; delivered = delivered }
