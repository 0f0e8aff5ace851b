-- What bytes spell under a type (PostgreSQL documentation, "Formats and Format Codes": the binary form of a value is that of its
-- type's send function). `plain` asks in addition for the form that is written.
use Rattle.std.specs.Prelude.{FitsSigned, ◌≡◌, ◌≤◌, ◌<◌, ◌≤ℤ◌, ◌↔◌, ℕ, ◌+◌, ◌*◌, ◌/◌, ◌%◌, ◌^◌, Bool, true, false, ◌==◌, List, [], ◌∷◌, ◌++◌, length, flat_map, Option, Some, None, IsTrue, Contains, pos, unsigned_abs}
use Rattle.std.specs.Bool.{MatchBool}
use Rattle.std.specs.List.{AllByRecursion}
use Rattle.std.specs.Int.{w32, to_be_bytes}
use Rattle.pg_types.specs.declared.pg_type.PgType.{PgType}
use Rattle.pg_types.specs.declared.pg_type.Kind as k
use Rattle.pg_values.specs.declared.datum.Dim.{Dim}
use Rattle.pg_values.specs.declared.datum.Bound.{Bound}
use Rattle.pg_values.specs.declared.datum.Bound.TheVariants.{Infinite, Inclusive, Exclusive}
use Rattle.pg_values.specs.declared.datum.Datum as d
use Rattle.pg_values.specs.declared.datum.Datum.{Datum}
use Rattle.pg_values.specs.Supported.{is_timestamp, numeric, date, uuid}
use Rattle.pg_values.specs.Numbers.{i32_bytes}
use Rattle.pg_values.specs.Scalars.{IsValue, IsDate, IsTimestamp, IsUuid, IsLabel}
use Rattle.pg_values.specs.Numerics.{SpellsNumeric}
use Rattle.pg_values.specs.Parts.{IsNext, AreItems}

-- a value without parts, by the number of its type
abbrev pub SpellsScalar : Bool → ℕ → Datum → List ℕ → Type 0
SpellsScalar plain oid v bytes =
    MatchBool (oid == numeric) (SpellsNumeric plain v bytes)
    (MatchBool (oid == date) (IsDate v bytes)
    (MatchBool (is_timestamp oid) (IsTimestamp v bytes)
    (MatchBool (oid == uuid) (IsUuid v bytes) (IsValue plain oid v bytes))))

-- ---- arrays (array_send)

-- the product of the dimensions' lengths
abbrev pub product : List Dim → ℕ
product [] = 1
product (dim ∷ dims) = unsigned_abs dim.len * product dims

-- how many items an array of these dimensions has: that product, none where there is no dimension
abbrev pub count_of : List Dim → ℕ
count_of [] = 0
count_of (dim ∷ dims) = product (dim ∷ dims)

-- a dimension has at least one item; its length and its lower bound are numbers of 4 bytes
pub record IsDim (dim : Dim) : Type 0 where
  pub long : pos 1 ≤ℤ dim.len
  pub len : FitsSigned w32 dim.len
  pub lower : FitsSigned w32 dim.lower

-- a dimension's bytes: its length and its lower bound
abbrev pub dim_bytes : Dim → List ℕ
dim_bytes dim = i32_bytes dim.len ++ i32_bytes dim.lower

-- the front of an array: the number of dimensions, the flag that says whether an item may be null, the number of the element's type,
-- the dimensions
abbrev pub array_front : (flag element : ℕ) → List Dim → List ℕ
array_front flag element dims = to_be_bytes w32 (length dims) ++ (to_be_bytes w32 flag ++ (to_be_bytes w32 element ++ flat_map dim_bytes dims))

-- which flag and which dimensions an array may have
pub record IsFront (flag : ℕ) (dims : List Dim) : Type 0 where
  pub flags : flag ≤ 1
  pub few : length dims ≤ 6
  pub are : AllByRecursion IsDim dims
  pub small : count_of dims ≤ 16777216

-- these dimensions stand in front of the bytes, so many
pub record AreDims (count : ℕ) (dims : List Dim) (bytes : List ℕ) : Type 0 where
  pub rest : List ℕ
  pub count_is : length dims ≡ count
  pub are : AllByRecursion IsDim dims
  pub spelled : bytes ≡ flat_map dim_bytes dims ++ rest

-- the bytes begin with the front of an array of these dimensions
pub record StandsInFront (element : ℕ) (dims : List Dim) (bytes : List ℕ) : Type 0 where
  pub flag : ℕ
  pub rest : List ℕ
  pub front : IsFront flag dims
  pub spelled : bytes ≡ array_front flag element dims ++ rest

-- an array; `plain` asks for the flag 1 exactly where an item is null
pub record IsArray (plain : Bool) (element : ℕ) (spells : Datum → List ℕ → Type 0) (v : Datum) (bytes : List ℕ) : Type 0 where
  pub dims : List Dim
  pub items : List Datum
  pub flag : ℕ
  pub rest : List ℕ
  pub same : v ≡ d.Array dims items
  pub front : IsFront flag dims
  pub are : AreItems true spells (count_of dims) items rest
  pub spelled : bytes ≡ array_front flag element dims ++ rest
  pub flagged : IsTrue plain → (flag ≡ 1) ↔ Contains items d.Null

-- ---- ranges (range_send)

-- whether a flag is set: 1 empty, 2 lower inclusive, 4 upper inclusive, 8 lower infinite, 16 upper infinite (rangetypes.h)
abbrev pub has_flag : (flag flags : ℕ) → Bool
has_flag flag flags = flags / flag % 2 == 1

-- an infinite bound is infinite whatever its inclusive flag says, and an empty range has two of them
abbrev pub bound_by : (empty infinite inclusive : Bool) → Bound
bound_by true infinite inclusive = Infinite
bound_by false true inclusive = Infinite
bound_by false false true = Inclusive
bound_by false false false = Exclusive

-- the lower bound that flags say
abbrev pub lower_by : ℕ → Bound
lower_by flags = bound_by (has_flag 1 flags) (has_flag 8 flags) (has_flag 2 flags)

-- the upper bound that flags say
abbrev pub upper_by : ℕ → Bound
upper_by flags = bound_by (has_flag 1 flags) (has_flag 16 flags) (has_flag 4 flags)

-- how many values a bound has
abbrev pub values_of : Bound → ℕ
values_of Infinite = 0
values_of Inclusive = 1
values_of Exclusive = 1

-- the flags that are written: an empty range has no other, and an infinite bound isn't inclusive
abbrev pub lower_flags : Bound → ℕ
lower_flags Infinite = 8
lower_flags Inclusive = 2
lower_flags Exclusive = 0

-- the flags of an upper bound
abbrev pub upper_flags : Bound → ℕ
upper_flags Infinite = 16
upper_flags Inclusive = 4
upper_flags Exclusive = 0

-- the flags of a range that is empty, or has these bounds
abbrev pub range_flags : (empty : Bool) → (lower upper : Bound) → ℕ
range_flags true lower upper = 1
range_flags false lower upper = lower_flags lower + upper_flags upper

-- a range: its flags, and a part for each finite bound, the lower first; none of them is null. `plain` asks for the flags that are
-- written
pub record IsRange (plain : Bool) (spells : Datum → List ℕ → Type 0) (v : Datum) (bytes : List ℕ) : Type 0 where
  pub flags : ℕ
  pub bounds : List Datum
  pub rest : List ℕ
  pub same : v ≡ d.Range (has_flag 1 flags) (lower_by flags) (upper_by flags) bounds
  pub below : flags < 32
  pub are : AreItems false spells (values_of (lower_by flags) + values_of (upper_by flags)) bounds rest
  pub spelled : bytes ≡ flags ∷ rest
  pub flagged : IsTrue plain → flags ≡ range_flags (has_flag 1 flags) (lower_by flags) (upper_by flags)

-- ---- composites (record_send)

-- how many fields a row has
abbrev pub count_fields : {m : _} → k.Row_of-Field m → ℕ
count_fields k.end_of-Field = 0
count_fields (k.more_of-Field field name oid shape kind schema rest) = 1 + count_fields rest

-- a composite: the number of its fields, and the fields
pub record IsComposite (count : ℕ) (are : List Datum → List ℕ → Type 0) (v : Datum) (bytes : List ℕ) : Type 0 where
  pub fields : List Datum
  pub rest : List ℕ
  pub same : v ≡ d.Composite fields
  pub few : count < 2 ^ 31
  pub fields_are : are fields rest
  pub spelled : bytes ≡ to_be_bytes w32 count ++ rest

-- ---- all types

abbrev mutual
  -- what bytes spell under a type of this number and kind
  pub SpellsKind : (plain : Bool) → ℕ → k.Kind → Datum → List ℕ → Type 0
  SpellsKind plain oid k.Simple v bytes = SpellsScalar plain oid v bytes
  SpellsKind plain oid (k.Enum labels) v bytes = IsLabel labels v bytes
  SpellsKind plain oid k.Pseudo v bytes = ⊥
  SpellsKind plain oid (k.Array' name element shape kind schema) v bytes = IsArray plain element (SpellsHeld plain element kind) v bytes
  SpellsKind plain oid (k.Range' name element shape kind schema) v bytes = IsRange plain (SpellsHeld plain element kind) v bytes
  SpellsKind plain oid (k.Domain' name base shape kind schema) v bytes = SpellsHeld plain base kind v bytes
  SpellsKind plain oid (k.Composite' shape fields) v bytes = IsComposite (count_fields fields) (SpellFields plain fields) v bytes

  -- under the type that a type holds
  pub SpellsHeld : (plain : Bool) → {m : _} → ℕ → k.Row_of-Kind m → Datum → List ℕ → Type 0
  SpellsHeld plain oid k.end_of-Kind v bytes = ⊥
  SpellsHeld plain oid (k.more_of-Kind kind rest) v bytes = SpellsKind plain oid kind v bytes

  -- each field: the number of its type, and a part that spells its value
  pub SpellFields : (plain : Bool) → {m : _} → k.Row_of-Field m → List Datum → List ℕ → Type 0
  SpellFields plain k.end_of-Field [] bytes = bytes ≡ []
  SpellFields plain (k.more_of-Field field name oid shape kind schema rest) (v ∷ vs) bytes =
      (behind : List ℕ) × (after : List ℕ) × (bytes ≡ to_be_bytes w32 oid ++ behind) × IsNext true (SpellsHeld plain oid kind) v behind after × SpellFields plain rest vs after
  SpellFields plain fields vs bytes = ⊥

-- the value that bytes of a type, or null (None), spell
abbrev pub spells : (plain : Bool) → PgType → Datum → Option (List ℕ) → Type 0
spells plain ty v None = v ≡ d.Null
spells plain ty v (Some bytes) = SpellsKind plain ty.oid ty.kind v bytes
