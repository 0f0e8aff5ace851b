-- Errors and notices of the server (PostgreSQL documentation, "Error and Notice Message Fields").
use Rattle.std.specs.Prelude.{ℕ, Bool, ◌&&◌, ◌||◌, List, [], ◌∷◌, map, filter, Option, Some, None, is_some, is_none, option_map, find, ◌==◌, if◌then◌else◌, codes}
use Rattle.std.specs.List.{list_all, last_or}
use Rattle.std.specs.Str.{byte, bytes_eq}
use Rattle.std.specs.Str.Lossy.{utf8_lossy}
pub use Rattle.pg_types.specs.declared.db_error.DbError.{DbError}
pub use Rattle.pg_types.specs.declared.db_error.ErrorPosition.{ErrorPosition as Position}
pub use Rattle.pg_types.specs.declared.db_error.ErrorPosition.TheVariants.{Original, Internal}
pub use Rattle.pg_types.specs.declared.severity.Severity.{Severity}
pub use Rattle.pg_types.specs.declared.severity.Severity.TheVariants.{Panic, Fatal, Error, Warning, Notice, Debug, Info, Log}
use Rattle.pg_spec.specs.Bytes.{◌>>=◌, byte_at, text0_at, items_of}
use Rattle.pg_spec.specs.Numerals.{number_in}

-- a field: the byte that says what it is, and its text
pub record ErrorField : Type 0 where
  pub kind : ℕ
  pub text : List ℕ

-- the next field; none stands where the body's last zero byte is
abbrev pub error_field_at : List ℕ → Option (ErrorField × List ℕ)
error_field_at bytes = do
  kind ← byte_at bytes
  text ← text0_at kind.1
  if kind.0 == 0 then None else Some (record { kind = kind.0; text = text.0 }, text.1)

-- the fields of a body, which one zero byte ends
abbrev pub error_fields : List ℕ → Option (List ErrorField)
error_fields body =
    let read = items_of error_field_at body in
    if bytes_eq read.1 (0 ∷ []) then Some read.0 else None

-- the texts of the fields of a kind, in order, with broken bytes replaced
abbrev pub texts_of : ℕ → List ErrorField → List (List ℕ)
texts_of kind fields = map (λ f. utf8_lossy f.text) (filter (λ f. f.kind == kind) fields)

-- the last of them counts
abbrev pub field_of : ℕ → List ErrorField → Option (List ℕ)
field_of kind fields = last_or None (texts_of kind fields)

-- each severity by its word
abbrev pub severities : List (List ℕ × Severity)
severities =
    (codes "PANIC", Panic) ∷ (codes "FATAL", Fatal) ∷ (codes "ERROR", Error) ∷ (codes "WARNING", Warning)
    ∷ (codes "NOTICE", Notice) ∷ (codes "DEBUG", Debug) ∷ (codes "INFO", Info) ∷ (codes "LOG", Log) ∷ []

-- the severity that a word says
abbrev pub severity_named : List ℕ → Option Severity
severity_named word = option_map (λ row. row.1) (find (λ row. bytes_eq word row.0) severities)

-- each field of these kinds is a number, also one that a later one replaces
abbrev pub are_numbers : ℕ → List ErrorField → Bool
are_numbers kind fields = list_all (λ text. is_some (number_in 32 text)) (texts_of kind fields)

-- each field V is one of them, also one that a later one replaces
abbrev pub are_severities : List ErrorField → Bool
are_severities fields = list_all (λ text. is_some (severity_named text)) (texts_of (byte "V") fields)

-- the last field of a kind, as a number
abbrev pub number_of : ℕ → List ErrorField → Option ℕ
number_of kind fields = field_of kind fields >>= number_in 32

-- the place in the query sent, else that in the server's own query, which must be there
abbrev pub position_of : List ErrorField → Option Position
position_of fields = elim (number_of (byte "P") fields) [
  | Some place ↦ Some (Original place)
  | None ↦ do
    place ← number_of (byte "p") fields
    query ← field_of (byte "q") fields
    Some (Internal place query)
]

-- the fields are those of an error: numbers are numbers, and an inner place has its query
abbrev pub are_in_form : List ErrorField → Bool
are_in_form fields =
    are_numbers (byte "P") fields && are_numbers (byte "p") fields && are_numbers (byte "L") fields && are_severities fields
    && (is_none (field_of (byte "p") fields) || is_some (position_of fields))

-- the error or notice of a body, None where it can't be read
abbrev pub db_error_of : List ℕ → Option DbError
db_error_of body = do
  fields ← error_fields body
  severity ← field_of (byte "S") fields
  code ← field_of (byte "C") fields
  message ← field_of (byte "M") fields
  if are_in_form fields then Some (record {
    severity = severity;
    parsed_severity = field_of (byte "V") fields >>= severity_named;
    code = record { code = code };
    message = message;
    detail = field_of (byte "D") fields;
    hint = field_of (byte "H") fields;
    position = position_of fields;
    where_ = field_of (byte "W") fields;
    schema = field_of (byte "s") fields;
    table = field_of (byte "t") fields;
    column = field_of (byte "c") fields;
    datatype = field_of (byte "d") fields;
    constraint = field_of (byte "n") fields;
    file = field_of (byte "F") fields;
    line = number_of (byte "L") fields;
    routine = field_of (byte "R") fields;
  }) else None
