-- The texts of transactions (PostgreSQL documentation, "START TRANSACTION", "SAVEPOINT", "RELEASE SAVEPOINT", "ROLLBACK TO SAVEPOINT",
-- "COMMIT", "ROLLBACK").
use Rattle.std.specs.Prelude.{ℕ, Bool, true, false, List, [], ◌∷◌, ◌++◌, Option, Some, None, option_map, codes, decimal}
use Rattle.pg_steps.specs.declared.modes.IsolationLevel.{IsolationLevel}
use Rattle.pg_steps.specs.declared.modes.IsolationLevel.TheVariants.{ReadUncommitted, ReadCommitted, RepeatableRead, Serializable}
use Rattle.pg_steps.specs.declared.modes.Modes.{Modes}
use Rattle.pg_steps.specs.declared.savepoint.Savepoint.{Savepoint}
use Rattle.pg_steps.specs.declared.savepoint.Savepoint.TheVariants.{Named, AtDepth}

-- ---- a transaction

-- how a level of isolation is asked for
abbrev pub level_mode : IsolationLevel → List ℕ
level_mode ReadUncommitted = codes "ISOLATION LEVEL READ UNCOMMITTED"
level_mode ReadCommitted = codes "ISOLATION LEVEL READ COMMITTED"
level_mode RepeatableRead = codes "ISOLATION LEVEL REPEATABLE READ"
level_mode Serializable = codes "ISOLATION LEVEL SERIALIZABLE"

-- whether it may write
abbrev pub access_mode : (read_only : Bool) → List ℕ
access_mode true = codes "READ ONLY"
access_mode false = codes "READ WRITE"

-- whether it waits at its begin
abbrev pub deferrable_mode : (deferrable : Bool) → List ℕ
deferrable_mode true = codes "DEFERRABLE"
deferrable_mode false = codes "NOT DEFERRABLE"

-- a mode, where it is given
abbrev pub spelled : {A : Type 0} → (A → List ℕ) → Option A → List (List ℕ)
spelled spell None = []
spelled spell (Some x) = spell x ∷ []

-- the modes that are given, in this order
abbrev pub modes_of : Modes → List (List ℕ)
modes_of m = spelled level_mode m.isolation_level ++ spelled access_mode m.read_only ++ spelled deferrable_mode m.deferrable

-- a comma stands between two
abbrev pub with_commas : List (List ℕ) → List ℕ
with_commas [] = []
with_commas (mode ∷ []) = mode
with_commas (mode ∷ next ∷ modes) = mode ++ codes ", " ++ with_commas (next ∷ modes)

-- a transaction of these modes is begun
abbrev pub start_by : (modes : List (List ℕ)) → List ℕ
start_by [] = codes "START TRANSACTION"
start_by modes = codes "START TRANSACTION " ++ with_commas modes

abbrev pub start_text : Modes → List ℕ
start_text m = start_by (modes_of m)

-- ---- its levels

-- a savepoint without a name says how many are open with it
abbrev pub depth_name : ℕ → List ℕ
depth_name depth = codes "sp_" ++ decimal depth

-- a name is written as it was given
abbrev pub savepoint_name : Savepoint → List ℕ
savepoint_name (Named name) = name.now
savepoint_name (AtDepth depth) = depth_name depth

-- a savepoint of this name is opened
abbrev pub opens_by : (name : List ℕ) → List ℕ
opens_by name = codes "SAVEPOINT " ++ name

-- A level is ended, and what was done in it stays. None is the transaction itself.
abbrev pub commits_by : (name : Option (List ℕ)) → List ℕ
commits_by None = codes "COMMIT"
commits_by (Some name) = codes "RELEASE " ++ name

-- what was done in a level is undone
abbrev pub rolls_back_by : (name : Option (List ℕ)) → List ℕ
rolls_back_by None = codes "ROLLBACK"
rolls_back_by (Some name) = codes "ROLLBACK TO " ++ name

-- the same of a savepoint
abbrev pub savepoint_text : Savepoint → List ℕ
savepoint_text s = opens_by (savepoint_name s)

abbrev pub commit_text : Option Savepoint → List ℕ
commit_text level = commits_by (option_map savepoint_name level)

abbrev pub rollback_text : Option Savepoint → List ℕ
rollback_text level = rolls_back_by (option_map savepoint_name level)
