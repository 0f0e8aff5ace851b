-- What reading a value answers.
use Rattle.std.specs.Prelude.{◌≡◌, ℕ, true, false, List, Option, Some, None, Result, Ok, Err}
use Rattle.pg_types.specs.Values.{wrong_type, may_lack}
use Rattle.pg_types.specs.declared.fault.ValueFault.{ValueFault}
use Rattle.pg_types.specs.declared.fault.ValueFault.TheVariants as fault
use Rattle.pg_types.specs.declared.fault.RustType.TheVariants as rust
use Rattle.pg_types.specs.declared.fault.WrongType.{WrongType}
use Rattle.pg_types.specs.declared.pg_type.PgType.{PgType}
use Rattle.pg_values.specs.declared.datum.Datum.{Datum}
use Rattle.pg_values.specs.Supported.{is_supported}
use Rattle.pg_values.specs.Spelling.{spells}

-- a value of which this holds; BadValue where it holds of none
abbrev pub ReadsAs : {V : Type 0} → (V → Type 0) → Result V ValueFault → Type 0
ReadsAs spelled (Ok v) = spelled v
ReadsAs {V} spelled (Err fault.BadValue) = (v : V) → spelled v → ⊥
ReadsAs spelled (Err fault.OutOfMemory) = Unit {0}
ReadsAs spelled (Err (fault.WrongType wrong)) = ⊥
ReadsAs spelled (Err fault.WasNull) = ⊥

-- the value that is spelled, and no other is
pub record IsTheValue (ty : PgType) (raw : Option (List ℕ)) (v : Datum) : Type 0 where
  pub supported : is_supported ty ≡ true
  pub spelled : spells false ty v raw
  pub only : (w : Datum) → spells false ty w raw → w ≡ v

-- the type is supported, and no value is spelled
pub record SpellsNone (ty : PgType) (raw : Option (List ℕ)) : Type 0 where
  pub supported : is_supported ty ≡ true
  pub none : (v : Datum) → spells false ty v raw → ⊥

-- the type isn't supported, and is named
pub record IsWrong (ty : PgType) (wrong : WrongType) : Type 0 where
  pub unsupported : is_supported ty ≡ false
  pub named : wrong ≡ wrong_type ty.oid rust.Other

-- what `read_datum` answers: WrongType exactly where the type isn't supported, BadValue where it is and no value is spelled;
-- memory never lacks for null
abbrev pub ReadsDatum : PgType → Option (List ℕ) → Result Datum ValueFault → Type 0
ReadsDatum ty raw (Ok v) = IsTheValue ty raw v
ReadsDatum ty raw (Err (fault.WrongType wrong)) = IsWrong ty wrong
ReadsDatum ty raw (Err fault.BadValue) = SpellsNone ty raw
ReadsDatum ty raw (Err fault.OutOfMemory) = (is_supported ty ≡ true) × (may_lack true raw ≡ true)
ReadsDatum ty raw (Err fault.WasNull) = ⊥

-- the fault for which bytes of a type, or null, are refused, or that they aren't (None): WrongType where the type isn't supported,
-- BadValue where it is and no value is spelled
abbrev pub RefusesDatum : PgType → Option (List ℕ) → Option ValueFault → Type 0
RefusesDatum ty raw None = is_supported ty ≡ true
RefusesDatum ty raw (Some (fault.WrongType wrong)) = IsWrong ty wrong
RefusesDatum ty raw (Some fault.BadValue) = SpellsNone ty raw
RefusesDatum ty raw (Some fault.OutOfMemory) = ⊥
RefusesDatum ty raw (Some fault.WasNull) = ⊥
