-- The parts of a value: each an i32 length and so many bytes, or -1 for null (PostgreSQL source, array_send, record_send, range_send).
use Rattle.std.specs.Prelude.{◌≡◌, ◌<◌, ◌^◌, ℕ, Bool, IsTrue, List, [], ◌∷◌, ◌++◌, length, Option, Some, None}
use Rattle.std.specs.Int.{w32, to_be_bytes}
use Rattle.pg_values.specs.declared.datum.Datum as d
use Rattle.pg_values.specs.declared.datum.Datum.{Datum}

-- the bytes of a part
abbrev pub part_bytes : Option (List ℕ) → List ℕ
part_bytes None = 255 ∷ 255 ∷ 255 ∷ 255 ∷ []
part_bytes (Some bytes) = to_be_bytes w32 (length bytes) ++ bytes

-- a part fits its length field, and is null only where a null may stand
abbrev pub PartFits : Bool → Option (List ℕ) → Type 0
PartFits nullable None = IsTrue nullable
PartFits nullable (Some bytes) = length bytes < 2 ^ 31

-- what a part spells: null, or what its bytes spell
abbrev pub SpellsPart : (Datum → List ℕ → Type 0) → Option (List ℕ) → Datum → Type 0
SpellsPart spells None v = v ≡ d.Null
SpellsPart spells (Some bytes) v = spells v bytes

-- the bytes begin with this part, and these are behind it
pub record IsPart (nullable : Bool) (part : Option (List ℕ)) (bytes rest : List ℕ) : Type 0 where
  pub fits : PartFits nullable part
  pub spelled : bytes ≡ part_bytes part ++ rest

-- the bytes begin with a part that spells the value, and these are behind it
pub record IsNext (nullable : Bool) (spells : Datum → List ℕ → Type 0) (v : Datum) (bytes rest : List ℕ) : Type 0 where
  pub part : Option (List ℕ)
  pub front : IsPart nullable part bytes rest
  pub is : SpellsPart spells part v

-- parts that spell the values in their order, and nothing else
abbrev pub SpellItems : Bool → (Datum → List ℕ → Type 0) → List Datum → List ℕ → Type 0
SpellItems nullable spells [] bytes = bytes ≡ []
SpellItems nullable spells (v ∷ vs) bytes = (rest : List ℕ) × IsNext nullable spells v bytes rest × SpellItems nullable spells vs rest

-- so many of them
pub record AreItems (nullable : Bool) (spells : Datum → List ℕ → Type 0) (count : ℕ) (items : List Datum) (bytes : List ℕ) : Type 0 where
  pub count_is : length items ≡ count
  pub are : SpellItems nullable spells items bytes
