-- What a `Value` gives under a type, and what bytes give as one.
use Rattle.std.specs.Prelude.{◌≡◌, ℕ, Bool, true, ◌&&◌, ◌||◌, not, List, length, ◌==◌, ◌^◌, Option, Some, None, Result, Ok, Err, if◌then◌else◌, ℤ, pos, ◌-ℤ◌, ◌-◌, ◌*◌, unsigned_abs, int_lt}
use Rattle.std.specs.Int.{Width, w8, w16, w32, w64, byte_len}
use Rattle.std.specs.Str.{is_utf8}
use Rattle.pg_types.specs.declared.fault.ValueFault.{ValueFault}
use Rattle.pg_types.specs.declared.fault.ValueFault.TheVariants as fault
use Rattle.pg_types.specs.declared.fault.RustType.TheVariants as rust
use Rattle.pg_types.specs.declared.value.Value.{Value}
use Rattle.pg_types.specs.declared.value.Value.TheVariants as value
use Rattle.pg_types.specs.Oids as oids
use Rattle.pg_types.specs.Values.{Given, bytes_given, wrong_type, checked, bool_bytes, bool_in, int_bytes, int_in, oid_bytes, oid_in}

-- the width of the signed numbers that are a type's values
abbrev pub int_width : ℕ → Option Width
int_width n =
    if n == oids.char then Some w8
    else if n == oids.int2 then Some w16
    else if n == oids.int4 then Some w32
    else if n == oids.int8 then Some w64
    else None

-- one of the types whose values are whole numbers
abbrev pub is_int : ℕ → Bool
is_int n = n == oids.char || n == oids.int2 || n == oids.int4 || n == oids.int8 || n == oids.oid

-- one of the types that a `Value` is read from
abbrev pub is_read : ℕ → Bool
is_read n = n == oids.bool || is_int n || oids.is_text n || n == oids.bytea

-- the value may stand under the type with this oid
abbrev pub is_accepted : Value → ℕ → Bool
is_accepted value.Null n = true
is_accepted (value.Bool b) n = n == oids.bool
is_accepted (value.Int z) n = is_int n
is_accepted (value.Text t) n = oids.is_text n
is_accepted (value.Bytes b) n = n == oids.bytea

-- the value has no bytes under this type
abbrev pub wrong_given : ℕ → Given
wrong_given n = Err (fault.WrongType (wrong_type n rust.Value))

-- the number is in the range of the signed numbers of this width
abbrev pub fits : Width → ℤ → Bool
fits w z = not (int_lt z (pos 0 -ℤ pos (2 ^ (8 * byte_len w - 1)))) && int_lt z (pos (2 ^ (8 * byte_len w - 1)))

-- the number is in the range of the unsigned numbers of 32 bits
abbrev pub fits_oid : ℤ → Bool
fits_oid z = not (int_lt z (pos 0)) && int_lt z (pos (2 ^ 32))

-- a number of this width, refused out of its range
abbrev pub int_given : Width → ℤ → Given
int_given w z = if fits w z then bytes_given (int_bytes w z) else Err fault.BadValue

-- an unsigned number of 32 bits, refused out of its range
abbrev pub oid_given : ℤ → Given
oid_given z = if fits_oid z then bytes_given (oid_bytes (unsigned_abs z)) else Err fault.BadValue

-- a whole number under a type whose values are signed numbers of this width, or aren't
abbrev pub number_of_width : Option Width → ℤ → ℕ → Given
number_of_width (Some w) z n = int_given w z
number_of_width None z n = if n == oids.oid then oid_given z else wrong_given n

-- a whole number
abbrev pub number_given : ℤ → ℕ → Given
number_given z n = number_of_width (int_width n) z n

-- what a value gives
abbrev pub value_gives : Value → ℕ → Given
value_gives value.Null n = Ok None
value_gives (value.Bool b) n = if n == oids.bool then bytes_given (bool_bytes b) else wrong_given n
value_gives (value.Int z) n = number_given z n
value_gives (value.Text t) n = if oids.is_text n then bytes_given t else wrong_given n
value_gives (value.Bytes b) n = if n == oids.bytea then bytes_given b else wrong_given n

-- what a value gives, WrongType where it may not stand under the type
abbrev pub value_checked : Value → ℕ → Given
value_checked v n = checked (is_accepted v n) n rust.Value (value_gives v n)

-- the same of the value at a place; behind the last value nothing is asked
abbrev pub value_at : Option Value → ℕ → Given
value_at None n = Ok None
value_at (Some v) n = value_checked v n

-- a value whose bytes are of their form
abbrev pub in_form : Bool → Value → Result Value ValueFault
in_form is_so v = if is_so then Ok v else Err fault.BadValue

-- the value that bytes spell under a type whose values are signed numbers of this width, or aren't
abbrev pub value_of_width : Option Width → ℕ → List ℕ → Result Value ValueFault
value_of_width (Some w) n bytes = in_form (length bytes == byte_len w) (value.Int (int_in w bytes))
value_of_width None n bytes =
    if n == oids.bool then in_form (length bytes == 1) (value.Bool (bool_in bytes))
    else if n == oids.oid then in_form (length bytes == 4) (value.Int (pos (oid_in bytes)))
    else if oids.is_text n then in_form (is_utf8 bytes) (value.Text bytes)
    else if n == oids.bytea then Ok (value.Bytes bytes)
    else Err (fault.WrongType (wrong_type n rust.Value))

-- the value that bytes spell, or the fault for which they are refused
abbrev pub value_in : ℕ → List ℕ → Result Value ValueFault
value_in n bytes = value_of_width (int_width n) n bytes

-- the value that is spelled; null is Null
abbrev pub SpellsValue : ℕ → Option (List ℕ) → Value → Type 0
SpellsValue n None v = v ≡ value.Null
SpellsValue n (Some bytes) v = value_in n bytes ≡ Ok v

-- the fault of a result
abbrev pub fault_in : Result Value ValueFault → Option ValueFault
fault_in (Ok v) = None
fault_in (Err f) = Some f

-- the fault for which bytes are refused; null isn't
abbrev pub value_refusal : ℕ → Option (List ℕ) → Option ValueFault
value_refusal n None = None
value_refusal n (Some bytes) = fault_in (value_in n bytes)
