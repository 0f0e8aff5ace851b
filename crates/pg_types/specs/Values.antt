-- What a value gives under a type, and what bytes give as a Rust type (PostgreSQL documentation,
-- "Formats and Format Codes": a value's binary form is that of its type's send and receive functions).
use Rattle.std.specs.Prelude.{◌≡◌, ◌⊎◌, ℕ, Bool, true, false, List, [], ◌∷◌, ◌++◌, length, ◌==◌, not, Option, Some, None, Result, Ok, Err, if◌then◌else◌, ℤ}
use Rattle.std.specs.Int.{Width, byte_len, cast_signed, cast_unsigned}
use Rattle.byteorder.specs.Endian.{big_bytes, big_number}
use Rattle.pg_types.specs.declared.fault.ValueFault.{ValueFault}
use Rattle.pg_types.specs.declared.fault.ValueFault.TheVariants as fault
use Rattle.pg_types.specs.declared.fault.RustType.{RustType}
use Rattle.pg_types.specs.declared.fault.WrongType.{WrongType}
use Rattle.pg_types.specs.declared.format.IsNull.{IsNull}
use Rattle.pg_types.specs.declared.format.IsNull.TheVariants as null

-- what a value gives under a type: bytes, null (None), or a fault
abbrev pub Given : Type 0
Given = Result (Option (List ℕ)) ValueFault

-- bytes
abbrev pub bytes_given : List ℕ → Given
bytes_given bytes = Ok (Some bytes)

-- the Rust type doesn't stand for the type with this oid
abbrev pub wrong_type : ℕ → RustType → WrongType
wrong_type oid rust = record { postgres = oid; rust = rust }

-- the fault of a type that the Rust type doesn't stand for
abbrev pub type_fault : Bool → ℕ → RustType → Option WrongType
type_fault stands oid rust = if stands then None else Some (wrong_type oid rust)

-- what a value gives, WrongType where it may not stand under the type
abbrev pub checked : Bool → ℕ → RustType → Given → Given
checked accepted oid rust given = if accepted then given else Err (fault.WrongType (wrong_type oid rust))

-- writing may lack memory: there are bytes, or the value has parts, of which some are written before one is refused
abbrev pub write_may_lack : (has_parts : Bool) → Given → Bool
write_may_lack has_parts (Ok (Some bytes)) = true
write_may_lack has_parts (Ok None) = false
write_may_lack has_parts (Err fault.BadValue) = has_parts
write_may_lack has_parts (Err other) = false

-- what a value gives is told: its bytes stand behind what was there; with null and with a fault what was there stays. Want of memory
-- comes only where writing may lack it
abbrev pub Writes : (has_parts : Bool) → Given → (old new : List ℕ) → Result IsNull ValueFault → Type 0
Writes has_parts given old new (Ok null.No) = (bytes : List ℕ) × (given ≡ Ok (Some bytes)) × (new ≡ old ++ bytes)
Writes has_parts given old new (Ok null.Yes) = (given ≡ Ok None) × (new ≡ old)
Writes has_parts given old new (Err f) = ((write_may_lack has_parts given ≡ true) × (f ≡ fault.OutOfMemory) ⊎ (given ≡ Err f)) × (new ≡ old)

-- reading may lack memory: there are bytes, and the Rust type owns memory
abbrev pub may_lack : Bool → Option (List ℕ) → Bool
may_lack owns None = false
may_lack owns (Some bytes) = owns

-- what is read is a value that the bytes, or null (None), spell; they are refused with their own fault, and else not (None). Want of
-- memory comes only where reading may lack it
abbrev pub Reads : {A : Type 0} → Bool → (Option (List ℕ) → A → Type 0) → (Option (List ℕ) → Option ValueFault → Type 0) → Option (List ℕ) → Result A ValueFault → Type 0
Reads owns spelled refused raw (Ok value) = refused raw None × spelled raw value
Reads owns spelled refused raw (Err f) = ((may_lack owns raw ≡ true) × (f ≡ fault.OutOfMemory)) ⊎ refused raw (Some f)

-- a value that bytes spell; null spells none
abbrev pub Spells : {A : Type 0} → (List ℕ → A) → Option (List ℕ) → A → Type 0
Spells decode None value = ⊥
Spells decode (Some bytes) value = value ≡ decode bytes

-- bytes of another form are refused, and so is null
abbrev pub refusal : (List ℕ → Bool) → Option (List ℕ) → Option ValueFault
refusal in_form None = Some fault.WasNull
refusal in_form (Some bytes) = if in_form bytes then None else Some fault.BadValue

-- these bytes are of this length
abbrev pub has_length : ℕ → List ℕ → Bool
has_length n bytes = length bytes == n

-- a truth value: one byte (boolsend)
abbrev pub bool_bytes : Bool → List ℕ
bool_bytes b = if b then 1 ∷ [] else 0 ∷ []

-- any byte but 0 is true (boolrecv)
abbrev pub bool_in : List ℕ → Bool
bool_in bytes = not (big_number 1 bytes == 0)

-- a signed number of this width: two's complement, the high byte first (int2send, int4send, int8send)
abbrev pub int_bytes : Width → ℤ → List ℕ
int_bytes w z = big_bytes (byte_len w) (cast_unsigned w z)

-- the signed number of this width
abbrev pub int_in : Width → List ℕ → ℤ
int_in w bytes = cast_signed w (big_number (byte_len w) bytes)

-- an unsigned number of 32 bits (oidsend)
abbrev pub oid_bytes : ℕ → List ℕ
oid_bytes n = big_bytes 4 n

-- the unsigned number of 32 bits
abbrev pub oid_in : List ℕ → ℕ
oid_in bytes = big_number 4 bytes

-- null where there is no value
abbrev pub given_or_null : {A : Type 0} → (A → Given) → Option A → Given
given_or_null gives None = Ok None
given_or_null gives (Some value) = gives value

-- a value may stand under a type by its own rule, and null by the Rust type's
abbrev pub accepted_or_null : {A : Type 0} → (A → Bool) → Bool → Option A → Bool
accepted_or_null accepted stands None = stands
accepted_or_null accepted stands (Some value) = accepted value

-- null spells None, and bytes spell a value
abbrev pub SpellsOption : {A : Type 0} → (Option (List ℕ) → A → Type 0) → Option (List ℕ) → Option A → Type 0
SpellsOption spelled None None = Unit {0}
SpellsOption spelled None (Some value) = ⊥
SpellsOption spelled (Some bytes) None = ⊥
SpellsOption spelled (Some bytes) (Some value) = spelled (Some bytes) value

-- null isn't refused
abbrev pub RefusalOfBytes : (Option (List ℕ) → Option ValueFault → Type 0) → Option (List ℕ) → Option ValueFault → Type 0
RefusalOfBytes refused None f = None ≡ f
RefusalOfBytes refused (Some bytes) f = refused (Some bytes) f
