-- Parts of an error that are read together.
use Rattle.std.specs.Prelude.{◌≡◌, List}
use Rattle.std.specs.Option.{option_and_then}
use Rattle.std.specs.Str.{byte}
use Rattle.pg_spec.specs.DbErrors.{ErrorField, field_of, number_of, position_of, severity_named}
use Rattle.pg_errors.specs.declared.error_fields.Names.{Names}
use Rattle.pg_errors.specs.declared.error_fields.Origin.{Origin}
use Rattle.pg_errors.specs.declared.error_fields.Rest.{Rest}
use Rattle.pg_errors.specs.declared.error_fields.Words.{Words}

-- what the fields tell beside the message
pub record AreWords (fields : List ErrorField) (words : Words) : Type 0 where
  pub parsed_severity : words.parsed_severity ≡ option_and_then severity_named (field_of (byte "V") fields)
  pub detail : words.detail ≡ field_of (byte "D") fields
  pub hint : words.hint ≡ field_of (byte "H") fields
  pub position : words.position ≡ position_of fields
  pub where_ : words.where_ ≡ field_of (byte "W") fields

-- the names that the fields tell
pub record AreNames (fields : List ErrorField) (names : Names) : Type 0 where
  pub schema : names.schema ≡ field_of (byte "s") fields
  pub table : names.table ≡ field_of (byte "t") fields
  pub column : names.column ≡ field_of (byte "c") fields
  pub datatype : names.datatype ≡ field_of (byte "d") fields
  pub constraint : names.constraint ≡ field_of (byte "n") fields

-- the place in the server's source that they tell
pub record IsOrigin (fields : List ErrorField) (origin : Origin) : Type 0 where
  pub file : origin.file ≡ field_of (byte "F") fields
  pub line : origin.line ≡ number_of (byte "L") fields
  pub routine : origin.routine ≡ field_of (byte "R") fields

-- what they tell beside the severity, the code and the message
pub record IsRest (fields : List ErrorField) (rest : Rest) : Type 0 where
  pub parsed_severity : rest.words.parsed_severity ≡ option_and_then severity_named (field_of (byte "V") fields)
  pub detail : rest.words.detail ≡ field_of (byte "D") fields
  pub hint : rest.words.hint ≡ field_of (byte "H") fields
  pub position : rest.words.position ≡ position_of fields
  pub where_ : rest.words.where_ ≡ field_of (byte "W") fields
  pub schema : rest.names.schema ≡ field_of (byte "s") fields
  pub table : rest.names.table ≡ field_of (byte "t") fields
  pub column : rest.names.column ≡ field_of (byte "c") fields
  pub datatype : rest.names.datatype ≡ field_of (byte "d") fields
  pub constraint : rest.names.constraint ≡ field_of (byte "n") fields
  pub file : rest.origin.file ≡ field_of (byte "F") fields
  pub line : rest.origin.line ≡ number_of (byte "L") fields
  pub routine : rest.origin.routine ≡ field_of (byte "R") fields
