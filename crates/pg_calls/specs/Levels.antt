-- The levels of a transaction (PostgreSQL documentation, "SAVEPOINT").
use Rattle.std.specs.Prelude.{ℕ, ◌+◌, ◌-◌, ◌^◌, min, Some, None}
use Rattle.pg_calls.specs.declared.client.Client.{Client}
use Rattle.pg_steps.specs.declared.modes.Modes.{Modes}
use Rattle.pg_steps.specs.declared.savepoint.Savepoint.{Savepoint}
use Rattle.pg_steps.specs.declared.savepoint.Savepoint.TheVariants.{AtDepth}
use Rattle.pg_calls.specs.declared.level.Opened.{Opened}
use Rattle.pg_calls.specs.declared.transaction.Transaction.{Transaction}

-- no mode is given
abbrev pub no_modes : Modes
no_modes = record { isolation_level = None; read_only = None; deferrable = None }

-- the level that a state opens
abbrev pub level_of : Opened → Transaction
level_of o = record { client = o.client; savepoint = o.savepoint; depth = o.depth }

-- a transaction itself
abbrev pub whole : Client → Transaction
whole c = record { client = c; savepoint = None; depth = 0 }

-- How many savepoints are open one deeper. The count stops at its last number: a name that is opened again stands for the inner savepoint.
abbrev pub deeper : ℕ → ℕ
deeper depth = min (depth + 1) (2 ^ 32 - 1)

-- a savepoint inside a level, under this name
abbrev pub inside : Transaction → Savepoint → Transaction
inside t name = record { client = t.client; savepoint = Some name; depth = deeper t.depth }

-- the name of one that is given none
abbrev pub next_name : Transaction → Savepoint
next_name t = AtDepth (deeper t.depth)
