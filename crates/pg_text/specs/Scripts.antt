-- Which lists of scripts a session may have.
use Rattle.std.specs.Prelude.{◌≡◌, ◌<◌, ◌≤◌, ◌^◌, ◌==◌, ◌&&◌, ◌⊎◌, ℕ, Bool, true, List, length}
use Rattle.std.specs.List.{All, list_all}
use Rattle.std.specs.Option.{is_some}
use Rattle.pg_types.specs.BuiltIns.{row_of}
use Rattle.pg_types.specs.declared.cause.Cause.TheVariants as cause
use Rattle.pg_types.specs.declared.error.Error.{Error}
use Rattle.pg_types.specs.declared.error.Error.TheVariants as error
use Rattle.pg_text.specs.declared.command.Command.{Command}
use Rattle.pg_text.specs.declared.command.Command.TheVariants.{ExecuteTyped, QueryTyped, QueryTypedOne, QueryTypedOpt}
use Rattle.pg_text.specs.declared.command.TypedText.{TypedText}
use Rattle.pg_text.specs.Levels.{KeepLevels}

-- the most scripts of a session
abbrev pub most_scripts : ℕ
most_scripts = 1024

-- each script has fewer commands than a u32 counts
abbrev pub AreShort : {C : Type 0} → List (List C) → Type 0
AreShort scripts = All (λ script. length script < 2 ^ 32) scripts

-- not too many, and each short
pub record AreScripts {C : Type 0} (scripts : List (List C)) : Type 0 where
  pub few : length scripts ≤ most_scripts
  pub short : AreShort scripts

-- they are too many, or their levels aren't as a session can run them, and the error says so
abbrev pub AreRefused : List (List Command) → Error → Type 0
AreRefused scripts e = ((most_scripts < length scripts) ⊎ (KeepLevels scripts → ⊥)) × (e ≡ error.Config cause.Scripts)

-- ---- values with types

-- the type with this oid is built-in (PostgreSQL documentation, "pg_type")
abbrev pub is_built_in : ℕ → Bool
is_built_in oid = is_some (row_of oid)

-- there are as many values as types, and each type is built-in
abbrev pub is_paired : TypedText → Bool
is_paired asked = (length asked.values == length asked.types) && list_all is_built_in asked.types

-- a command whose values have types gives both so
abbrev pub is_typed : Command → Bool
is_typed (QueryTyped asked) = is_paired asked
is_typed (QueryTypedOne asked) = is_paired asked
is_typed (QueryTypedOpt asked) = is_paired asked
is_typed (ExecuteTyped asked) = is_paired asked
is_typed other = true

-- and so does each command of these scripts
abbrev pub are_typed : List (List Command) → Bool
are_typed scripts = list_all (list_all is_typed) scripts
