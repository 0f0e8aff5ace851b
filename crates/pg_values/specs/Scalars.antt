-- What bytes spell under a type whose values have no parts, numeric left out (PostgreSQL documentation, "Formats and Format Codes";
-- the binary form of a value is that of its type's send function).
use Rattle.std.specs.Prelude.{◌≡◌, ℕ, Bool, IsTrue, List, length, Ok, Contains}
use Rattle.std.specs.Int.{w32, w64}
use Rattle.pg_types.specs.AnyValues.{value_in, value_gives}
use Rattle.pg_types.specs.Values.{int_in, bytes_given}
use Rattle.pg_types.specs.declared.value.Value.{Value}
use Rattle.pg_types.specs.declared.value.Value.TheVariants as value
use Rattle.pg_values.specs.declared.datum.Datum as d
use Rattle.pg_values.specs.declared.datum.Datum.{Datum}

-- the datum that a `Value` is
abbrev pub datum_of : Value → Datum
datum_of value.Null = d.Null
datum_of (value.Bool b) = d.Bool b
datum_of (value.Int z) = d.Int z
datum_of (value.Text t) = d.Text t
datum_of (value.Bytes b) = d.Bytes b

-- a value of the types that a `Value` is read from; `plain` asks for the bytes that the `Value` is written in: true is 1
pub record IsValue (plain : Bool) (oid : ℕ) (v : Datum) (bytes : List ℕ) : Type 0 where
  pub value : Value
  pub spelled : value_in oid bytes ≡ Ok value
  pub same : v ≡ datum_of value
  pub given : IsTrue plain → value_gives value oid ≡ bytes_given bytes

-- days from 2000-01-01, four bytes (date_send)
pub record IsDate (v : Datum) (bytes : List ℕ) : Type 0 where
  pub four : length bytes ≡ 4
  pub same : v ≡ d.Date (int_in w32 bytes)

-- microseconds from the begin of 2000-01-01, eight bytes (timestamp_send, timestamptz_send)
pub record IsTimestamp (v : Datum) (bytes : List ℕ) : Type 0 where
  pub eight : length bytes ≡ 8
  pub same : v ≡ d.Timestamp (int_in w64 bytes)

-- sixteen bytes (uuid_send)
pub record IsUuid (v : Datum) (bytes : List ℕ) : Type 0 where
  pub sixteen : length bytes ≡ 16
  pub same : v ≡ d.Uuid bytes

-- one of the labels (enum_send)
pub record IsLabel (labels : List (List ℕ)) (v : Datum) (bytes : List ℕ) : Type 0 where
  pub known : Contains labels bytes
  pub same : v ≡ d.Label bytes
