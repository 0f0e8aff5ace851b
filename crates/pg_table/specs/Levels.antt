-- The levels of a transaction that are open in a script, each within the one before it (PostgreSQL documentation, "START TRANSACTION", "SAVEPOINT").
use Rattle.std.specs.Prelude.{ℕ, ◌-◌, List, length, take, Option, Some, None, slice_get}
use Rattle.pg_steps.specs.Transactions.{depth_name}
use Rattle.pg_table.specs.declared.levels.Level.{Level}
use Rattle.pg_table.specs.declared.levels.Level.TheVariants.{AtDepth, Named, Transaction}

-- the levels that are open: the transaction itself, and its savepoints
abbrev pub Levels : Type 0
Levels = List Level

-- the one that was opened last
abbrev pub innermost : Levels → Option Level
innermost levels = slice_get levels (length levels - 1)

-- the others
abbrev pub outer : Levels → Levels
outer levels = take (length levels - 1) levels

-- the name by which statements end a level; the transaction itself has none
abbrev pub level_name : Level → Option (List ℕ)
level_name Transaction = None
level_name (Named name) = Some name
level_name (AtDepth depth) = Some (depth_name depth)

-- a savepoint that is opened within these levels, where it is given this name or none: the first within a transaction is at depth 1
abbrev pub new_level : Levels → Option (List ℕ) → Level
new_level levels (Some name) = Named name
new_level levels None = AtDepth (length levels)

-- and its name
abbrev pub new_name : Levels → Option (List ℕ) → List ℕ
new_name levels (Some name) = name
new_name levels None = depth_name (length levels)
