-- What writing a value answers.
use Rattle.std.specs.Prelude.{◌≡◌, ◌≢◌, ◌<◌, ◌++◌, ℕ, true, false, List, Option, Some, None, Result, Ok, Err, IsOk, MatchResult}
use Rattle.std.specs.List.{AllByRecursion}
use Rattle.pg_types.specs.declared.fault.ValueFault.{ValueFault}
use Rattle.pg_types.specs.declared.fault.ValueFault.TheVariants as fault
use Rattle.pg_types.specs.declared.format.IsNull.{IsNull}
use Rattle.pg_types.specs.declared.format.IsNull.TheVariants as null
use Rattle.pg_types.specs.declared.pg_type.PgType.{PgType}
use Rattle.pg_types.specs.Values.{Given}
use Rattle.pg_values.specs.declared.datum.Datum as d
use Rattle.pg_values.specs.declared.datum.Datum.{Datum}
use Rattle.pg_values.specs.Supported.{is_supported}
use Rattle.pg_values.specs.Spelling.{spells}
use Rattle.pg_values.specs.Reading.{IsTheValue, IsWrong}

-- each is a byte
abbrev pub AreBytes : List ℕ → Type 0
AreBytes bytes = AllByRecursion (λ byte. byte < 256) bytes

-- these bytes stand behind what was there, or memory lacks
abbrev pub Puts : {A : Type 0} → (bytes old new : List ℕ) → Result A ValueFault → Type 0
Puts bytes old new result = MatchResult result (λ _. new ≡ old ++ bytes) (λ f. (f ≡ fault.OutOfMemory) × (new ≡ old))

-- what comes of an answer of a value that isn't null: a fault of the value itself is BadValue
abbrev pub Sends : {A : Type 0} → Result IsNull ValueFault → Result A ValueFault → Type 0
Sends (Ok _) result = IsOk result
Sends (Err fault.OutOfMemory) result = result ≡ Err fault.OutOfMemory
Sends (Err _) result = result ≡ Err fault.BadValue

-- bytes of this form stand behind what was there
pub record Appends (form : List ℕ → Type 0) (old new : List ℕ) : Type 0 where
  pub bytes : List ℕ
  pub formed : form bytes
  pub behind : new ≡ old ++ bytes

-- what was there stands in front
pub record Begins (old new : List ℕ) : Type 0 where
  pub more : List ℕ
  pub behind : new ≡ old ++ more

-- bytes of this form are appended, or memory lacks
abbrev pub Fills : {A : Type 0} → (List ℕ → Type 0) → (old new : List ℕ) → Result A ValueFault → Type 0
Fills form old new result = MatchResult result (λ _. Appends form old new) (λ f. (f ≡ fault.OutOfMemory) × Begins old new)

-- no bytes are of this form
abbrev pub HasNone : (List ℕ → Type 0) → Type 0
HasNone form = (bytes : List ℕ) → AreBytes bytes → form bytes → ⊥

-- bytes of the written form are appended; BadValue where none spell the value. After a fault what was there stands in front
abbrev pub WritesAs : {A : Type 0} → (written spelled : List ℕ → Type 0) → (old new : List ℕ) → Result A ValueFault → Type 0
WritesAs written spelled old new (Ok _) = Appends written old new
WritesAs written spelled old new (Err fault.BadValue) = HasNone spelled × Begins old new
WritesAs written spelled old new (Err fault.OutOfMemory) = Begins old new
WritesAs written spelled old new (Err (fault.WrongType wrong)) = ⊥
WritesAs written spelled old new (Err fault.WasNull) = ⊥

-- the bytes that are sent stand behind what was there; BadValue where there are none. After a fault what was there stands in front
abbrev pub WritesSent : {A : Type 0} → Option (List ℕ) → (old new : List ℕ) → Result A ValueFault → Type 0
WritesSent sent old new (Ok _) = (bytes : List ℕ) × (sent ≡ Some bytes) × (new ≡ old ++ bytes)
WritesSent sent old new (Err fault.BadValue) = (sent ≡ None) × Begins old new
WritesSent sent old new (Err fault.OutOfMemory) = Begins old new
WritesSent sent old new (Err (fault.WrongType wrong)) = ⊥
WritesSent sent old new (Err fault.WasNull) = ⊥

-- bytes in the written form stand behind what was there, and are read again as the value
pub record IsWritten (ty : PgType) (v : Datum) (old new : List ℕ) : Type 0 where
  pub bytes : List ℕ
  pub written : spells true ty v (Some bytes)
  pub again : IsTheValue ty (Some bytes) v
  pub behind : new ≡ old ++ bytes

-- the type is supported, and no bytes spell the value, which isn't null
pub record HasNoBytes (ty : PgType) (v : Datum) : Type 0 where
  pub supported : is_supported ty ≡ true
  pub some : v ≢ d.Null
  pub none : HasNone (λ bytes. spells false ty v (Some bytes))

-- what `write_datum` answers: WrongType exactly where the type isn't supported, Yes for null, BadValue where no bytes spell the value.
-- After null and after a fault what was there is all
abbrev pub WritesDatum : PgType → Datum → (old new : List ℕ) → Result IsNull ValueFault → Type 0
WritesDatum ty v old new (Ok null.No) = IsWritten ty v old new
WritesDatum ty v old new (Ok null.Yes) = (is_supported ty ≡ true) × (v ≡ d.Null) × (new ≡ old)
WritesDatum ty v old new (Err (fault.WrongType wrong)) = IsWrong ty wrong × (new ≡ old)
WritesDatum ty v old new (Err fault.BadValue) = HasNoBytes ty v × (new ≡ old)
WritesDatum ty v old new (Err fault.OutOfMemory) = (is_supported ty ≡ true) × (v ≢ d.Null) × (new ≡ old)
WritesDatum ty v old new (Err fault.WasNull) = ⊥

-- bytes in the written form, which are read again as the value
pub record IsWrittenAs (ty : PgType) (v : Datum) (bytes : List ℕ) : Type 0 where
  pub written : spells true ty v (Some bytes)
  pub again : IsTheValue ty (Some bytes) v

-- this is what a value gives under a type: bytes in the written form; null, where it is null; WrongType exactly where the type isn't
-- supported; BadValue where no bytes spell the value
abbrev pub GivesDatum : Datum → PgType → Given → Type 0
GivesDatum v ty (Ok (Some bytes)) = IsWrittenAs ty v bytes
GivesDatum v ty (Ok None) = (is_supported ty ≡ true) × (v ≡ d.Null)
GivesDatum v ty (Err (fault.WrongType wrong)) = IsWrong ty wrong
GivesDatum v ty (Err fault.BadValue) = HasNoBytes ty v
GivesDatum v ty (Err fault.OutOfMemory) = ⊥
GivesDatum v ty (Err fault.WasNull) = ⊥
