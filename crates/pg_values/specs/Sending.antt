-- The bytes that a value is sent in under a type, where it has some (PostgreSQL documentation, "Formats and Format Codes": the binary form
-- of a value is that of its type's send function; each is named here as in PostgreSQL).
use Rattle.std.specs.Prelude.{ℕ, zero, suc, ◌+◌, ◌-◌, ◌*◌, ◌/◌, ◌%◌, ◌^◌, Bool, true, false, ◌&&◌, not, ◌==◌, nat_le, nat_lt, if◌then◌else◌, List, [], ◌∷◌, ◌++◌, length, flat_map, bytes_eq, Option, Some, None, Ok, Err, ℤ, pos, ◌-ℤ◌, unsigned_abs, int_lt}
use Rattle.std.specs.List.{list_any, list_all}
use Rattle.std.specs.Fmt.{◌++?◌}
use Rattle.std.specs.Int.{w16, w32, w64, to_be_bytes}
use Rattle.std.specs.Str.{is_utf8}
use Rattle.pg_types.specs.declared.fault.ValueFault.TheVariants as fault
use Rattle.pg_types.specs.declared.fault.RustType.TheVariants as rust
use Rattle.pg_types.specs.declared.pg_type.PgType.{PgType}
use Rattle.pg_types.specs.declared.pg_type.Kind as k
use Rattle.pg_types.specs.declared.value.Value.TheVariants as value
use Rattle.pg_types.specs.AnyValues.{fits, int_given, value_gives}
use Rattle.pg_types.specs.Values.{Given, wrong_type}
use Rattle.pg_values.specs.declared.datum.Dim.{Dim}
use Rattle.pg_values.specs.declared.datum.Bound.{Bound}
use Rattle.pg_values.specs.declared.datum.Bound.TheVariants.{Infinite, Inclusive, Exclusive}
use Rattle.pg_values.specs.declared.datum.Datum as d
use Rattle.pg_values.specs.declared.datum.Datum.{Datum}
use Rattle.pg_values.specs.Supported.{is_supported, is_timestamp, numeric, date, uuid}
use Rattle.pg_values.specs.Groups.{head_bytes}
use Rattle.pg_values.specs.Numerics.{plus, minus, not_a_number}
use Rattle.pg_values.specs.Parts.{part_bytes}
use Rattle.pg_values.specs.Spelling.{array_front, count_of, count_fields, range_flags, values_of}

-- ---- values without parts

-- the bytes of what a value gives, where it gives some
abbrev pub bytes_in : Given → Option (List ℕ)
bytes_in (Ok given) = given
bytes_in (Err f) = None

-- boolsend, charsend, int2send, int4send, int8send, oidsend, textsend, namesend, byteasend; a text is UTF-8
abbrev pub value_send : ℕ → Datum → Option (List ℕ)
value_send oid (d.Bool b) = bytes_in (value_gives (value.Bool b) oid)
value_send oid (d.Int z) = bytes_in (value_gives (value.Int z) oid)
value_send oid (d.Text t) = if is_utf8 t then bytes_in (value_gives (value.Text t) oid) else None
value_send oid (d.Bytes b) = bytes_in (value_gives (value.Bytes b) oid)
value_send oid other = None

-- days from 2000-01-01, a number of 4 bytes
abbrev pub date_send : Datum → Option (List ℕ)
date_send (d.Date days) = bytes_in (int_given w32 days)
date_send other = None

-- microseconds from the begin of 2000-01-01, a number of 8 bytes (timestamptz_send too)
abbrev pub timestamp_send : Datum → Option (List ℕ)
timestamp_send (d.Timestamp microseconds) = bytes_in (int_given w64 microseconds)
timestamp_send other = None

-- sixteen bytes
abbrev pub uuid_send : Datum → Option (List ℕ)
uuid_send (d.Uuid bytes) = if length bytes == 16 then Some bytes else None
uuid_send other = None

-- one of the labels
abbrev pub enum_send : (labels : List (List ℕ)) → Datum → Option (List ℕ)
enum_send labels (d.Label label) = if list_any (λ l. bytes_eq l label) labels then Some label else None
enum_send labels other = None

-- ---- numeric

-- how many digits in base 10,000 a number has, none for 0; at most so many
abbrev pub count_digits : (most number : ℕ) → ℕ
count_digits zero number = 0
count_digits (suc most) number = if number == 0 then 0 else 1 + count_digits most (number / 10000)

-- so many digits of a number, the highest first
abbrev pub digits_in : (count number : ℕ) → List ℕ
digits_in zero number = []
digits_in (suc count) number = number / 10000 ^ count ∷ digits_in count (number % 10000 ^ count)

-- how many of its last digits are zero; at most so many
abbrev pub count_zeros : (most number : ℕ) → ℕ
count_zeros zero number = 0
count_zeros (suc most) number = if number % 10000 == 0 then 1 + count_zeros most (number / 10000) else 0

-- the number without these
abbrev pub without_zeros : (most number : ℕ) → ℕ
without_zeros zero number = number
without_zeros (suc most) number = if number % 10000 == 0 then without_zeros most (number / 10000) else number

-- how many digits in base 10,000 the decimals behind the point take
abbrev pub places_of : (scale : ℕ) → ℕ
places_of scale = (scale + 3) / 4

-- A number that isn't zero, in units of the last of these digits: the count of its digits, the weight of the first, the sign, the scale
-- and the digits; zeros at the end aren't sent. It has at most 38 decimals, and so at most 11 digits in base 10,000.
abbrev pub digits_send : (sign scale number : ℕ) → List ℕ
digits_send sign scale number =
    let count : ℕ = count_digits 11 (without_zeros 11 number) in
    let weight : ℤ = pos (count + count_zeros 11 number) -ℤ pos (1 + places_of scale) in
    head_bytes count weight sign scale ++ flat_map (to_be_bytes w16) (digits_in count (without_zeros 11 number))

-- the sign of a number
abbrev pub sign_of : ℤ → ℕ
sign_of z = if int_lt z (pos 0) then minus else plus

-- a number in decimals, so many of them behind its point; zero has no digits
abbrev pub number_send : (unscaled : ℤ) → (scale : ℕ) → List ℕ
number_send unscaled scale =
    if unsigned_abs unscaled == 0
    then head_bytes 0 (pos 0) plus scale
    else digits_send (sign_of unscaled) scale (unsigned_abs unscaled * 10 ^ (4 * places_of scale - scale))

-- at most 38 decimals, and at most 38 behind the point; NaN has no digits
abbrev pub numeric_send : Datum → Option (List ℕ)
numeric_send (d.Numeric unscaled scale) = if nat_le scale 38 && nat_lt (unsigned_abs unscaled) (10 ^ 38) then Some (number_send unscaled scale) else None
numeric_send d.NotANumber = Some (head_bytes 0 (pos 0) not_a_number 0)
numeric_send other = None

-- ---- any value without parts, by the number of its type
abbrev pub scalar_send : ℕ → Datum → Option (List ℕ)
scalar_send oid v =
    if oid == numeric then numeric_send v
    else if oid == date then date_send v
    else if is_timestamp oid then timestamp_send v
    else if oid == uuid then uuid_send v
    else value_send oid v

-- ---- values with parts

-- the values in a row, as a definition by cases sees a list of them
abbrev pub datums : {m : _} → d.Row_of-Datum m → List Datum
datums d.end_of-Datum = []
datums (d.more_of-Datum v rest) = v ∷ datums rest

-- the dimensions and the items of an array
abbrev pub array_in : Datum → Option (List Dim × List Datum)
array_in (d.Array' dims shape row) = Some (dims, datums row)
array_in other = None

-- whether a range is empty, its bounds, and their values
abbrev pub range_in : Datum → Option (Bool × Bound × Bound × List Datum)
range_in (d.Range' empty lower upper shape row) = Some (empty, lower, upper, datums row)
range_in other = None

-- the values of a composite
abbrev pub composite_in : Datum → Option (List Datum)
composite_in (d.Composite' shape row) = Some (datums row)
composite_in other = None

-- it is null
abbrev pub is_null : Datum → Bool
is_null d.Null = true
is_null other = false

-- the length of bytes and the bytes, where a length field of 4 bytes can say it
abbrev pub part_send : Option (List ℕ) → Option (List ℕ)
part_send None = None
part_send (Some bytes) = if nat_lt (length bytes) (2 ^ 31) then Some (part_bytes (Some bytes)) else None

-- a value as a part, or null, where one may stand
abbrev pub value_or_null_send : (nullable : Bool) → (Datum → Option (List ℕ)) → Datum → Option (List ℕ)
value_or_null_send nullable send v = if is_null v then (if nullable then Some (part_bytes None) else None) else part_send (send v)

-- each of some values, one behind another
abbrev pub items_send : (nullable : Bool) → (Datum → Option (List ℕ)) → List Datum → Option (List ℕ)
items_send nullable send [] = Some []
items_send nullable send (v ∷ vs) = value_or_null_send nullable send v ++? items_send nullable send vs

-- a dimension has at least one item, and its numbers fit 4 bytes
abbrev pub may_be_dim : Dim → Bool
may_be_dim dim = not (int_lt dim.len (pos 1)) && (fits w32 dim.len && fits w32 dim.lower)

-- an array may have these dimensions, and so many items
abbrev pub may_be_array : List Dim → (items : ℕ) → Bool
may_be_array dims items = nat_le (length dims) 6 && (list_all may_be_dim dims && (nat_le (count_of dims) 16777216 && items == count_of dims))

-- the flag that says whether an item is null
abbrev pub null_flag : List Datum → ℕ
null_flag items = if list_any is_null items then 1 else 0

-- an array of these dimensions and items
abbrev pub array_of : (element : ℕ) → (Datum → Option (List ℕ)) → List Dim → List Datum → Option (List ℕ)
array_of element send dims items =
    if may_be_array dims (length items) then Some (array_front (null_flag items) element dims) ++? items_send true send items else None

abbrev pub array_send : (element : ℕ) → (Datum → Option (List ℕ)) → Datum → Option (List ℕ)
array_send element send v = elim (array_in v) [ None ↦ None | Some a ↦ array_of element send a.0 a.1 ]

-- an empty range has no bounds
abbrev pub may_be_range : (empty : Bool) → (lower upper : Bound) → Bool
may_be_range false lower upper = true
may_be_range true Infinite Infinite = true
may_be_range true lower upper = false

-- a range of these bounds, which has a value for each that is finite
abbrev pub range_of : (Datum → Option (List ℕ)) → (empty : Bool) → (lower upper : Bound) → List Datum → Option (List ℕ)
range_of send empty lower upper bounds =
    if may_be_range empty lower upper && (length bounds == values_of lower + values_of upper)
    then Some (range_flags empty lower upper ∷ []) ++? items_send false send bounds
    else None

abbrev pub range_send : (Datum → Option (List ℕ)) → Datum → Option (List ℕ)
range_send send v = elim (range_in v) [ None ↦ None | Some r ↦ range_of send r.0 r.1 r.2 r.3 ]

-- a composite of so many fields
abbrev pub record_of : (count : ℕ) → (List Datum → Option (List ℕ)) → List Datum → Option (List ℕ)
record_of count send values = if nat_lt count (2 ^ 31) then Some (to_be_bytes w32 count) ++? send values else None

abbrev pub record_send : (count : ℕ) → (List Datum → Option (List ℕ)) → Datum → Option (List ℕ)
record_send count send v = elim (composite_in v) [ None ↦ None | Some values ↦ record_of count send values ]

-- ---- all types

abbrev mutual
  -- a value that isn't null, under a type of this number and kind
  pub kind_send : ℕ → k.Kind → Datum → Option (List ℕ)
  kind_send oid k.Simple v = scalar_send oid v
  kind_send oid (k.Enum labels) v = enum_send labels v
  kind_send oid k.Pseudo v = None
  kind_send oid (k.Array' name element shape kind schema) v = array_send element (held_send element kind) v
  kind_send oid (k.Range' name element shape kind schema) v = range_send (held_send element kind) v
  kind_send oid (k.Domain' name base shape kind schema) v = held_send base kind v
  kind_send oid (k.Composite' shape fields) v = record_send (count_fields fields) (fields_send fields) v

  -- under the type that a type holds
  pub held_send : {m : _} → ℕ → k.Row_of-Kind m → Datum → Option (List ℕ)
  held_send oid k.end_of-Kind v = None
  held_send oid (k.more_of-Kind kind rest) v = kind_send oid kind v

  -- each field: the number of its type, and its value, of which there is one for each
  pub fields_send : {m : _} → k.Row_of-Field m → List Datum → Option (List ℕ)
  fields_send k.end_of-Field [] = Some []
  fields_send (k.more_of-Field field name oid shape kind schema rest) (v ∷ vs) =
      Some (to_be_bytes w32 oid) ++? (value_or_null_send true (held_send oid kind) v ++? fields_send rest vs)
  fields_send fields vs = None

-- the bytes of a value, or BadValue where it has none
abbrev pub or_bad : Option (List ℕ) → Given
or_bad (Some bytes) = Ok (Some bytes)
or_bad None = Err fault.BadValue

-- null gives null under each type that is supported, and any other value its bytes
abbrev pub supported_gives : PgType → Datum → Given
supported_gives ty v = if is_null v then Ok None else or_bad (kind_send ty.oid ty.kind v)

-- what a value gives under a type
abbrev pub datum_gives : PgType → Datum → Given
datum_gives ty v = if is_supported ty then supported_gives ty v else Err (fault.WrongType (wrong_type ty.oid rust.Other))
