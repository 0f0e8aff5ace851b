-- The levels of transactions that the commands of scripts open and end (PostgreSQL documentation, "START TRANSACTION", "SAVEPOINT", "RELEASE SAVEPOINT",
-- "ROLLBACK TO SAVEPOINT", "COMMIT", "ROLLBACK").
use Rattle.std.specs.Prelude.{◌≡◌, ◌≤◌, ◌==◌, ℕ, ◌+◌, zero, suc, Bool, true, false, List, [], ◌∷◌, ◌++◌, length, Option, Some, None}
use Rattle.std.specs.List.{AllByRecursion, list_any, sum_by}
use Rattle.pg_text.specs.declared.command.Command.{Command}
use Rattle.pg_text.specs.declared.command.Command.TheVariants.{Abandon, Begin, Commit, Rollback, Savepoint}

-- what a command does to the levels that are open in its script
pub data Effect : Type 0 where
  -- the outermost is opened, which is the transaction itself
  Begins : Effect
  -- one within the others is opened, which is a savepoint
  Nests : Effect
  -- the innermost is ended
  Ends : Effect
  Leaves : Effect

-- a line for each command that does something to them
abbrev pub effect_of : Command → Effect
effect_of (Begin modes) = Begins
effect_of (Savepoint name) = Nests
effect_of Commit = Ends
effect_of Rollback = Ends
effect_of Abandon = Ends
effect_of other = Leaves

-- how many levels it opens
abbrev pub opened_by : Effect → ℕ
opened_by Begins = 1
opened_by Nests = 1
opened_by Ends = 0
opened_by Leaves = 0

-- and ends
abbrev pub ended_by : Effect → ℕ
ended_by Begins = 0
ended_by Nests = 0
ended_by Ends = 1
ended_by Leaves = 0

-- how many levels these commands open
abbrev pub opened : List Command → ℕ
opened commands = sum_by (λ c. opened_by (effect_of c)) commands

-- and end
abbrev pub ended : List Command → ℕ
ended commands = sum_by (λ c. ended_by (effect_of c)) commands

-- the levels of a script are nested, each within the one that was opened before it
pub record AreNested (script : List Command) : Type 0 where
  -- none is ended that isn't open
  pub within : (front rest : List Command) → script ≡ front ++ rest → ended front ≤ opened front
  -- each is ended
  pub all : ended script ≡ opened script
  -- a transaction is begun where none is open
  pub outermost : (front rest : List Command) (c : Command) → script ≡ front ++ c ∷ rest → effect_of c ≡ Begins → ended front ≡ opened front

-- it opens or ends one
abbrev pub is_changed : Effect → Bool
is_changed Leaves = false
is_changed other = true

-- some command does
abbrev pub has_levels : List Command → Bool
has_levels script = list_any (λ c. is_changed (effect_of c)) script

-- The levels of these scripts are as a session can run them: transactions of one connection can't stand beside one another.
pub record KeepLevels (scripts : List (List Command)) : Type 0 where
  -- a script that has levels is the only one
  pub alone : list_any has_levels scripts ≡ true → length scripts ≡ 1
  pub nested : AllByRecursion AreNested scripts

-- ---- counted command by command

-- how many are open behind a command where so many were; None where it may not stand there
abbrev pub open_behind : Effect → ℕ → Option ℕ
open_behind Begins zero = Some 1
open_behind Begins (suc n) = None
open_behind Nests n = Some (n + 1)
open_behind Ends zero = None
open_behind Ends (suc n) = Some n
open_behind Leaves n = Some n

-- behind these commands none is open, where so many were, and each may stand in its place
abbrev pub nests : ℕ → List Command → Bool
nests n [] = n == 0
nests n (c ∷ commands) = elim (open_behind (effect_of c) n) [ None ↦ false | Some m ↦ nests m commands ]
