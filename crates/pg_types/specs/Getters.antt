-- What an error tells as numbers and bytes.
use Rattle.std.specs.Prelude.{ℕ, ◌==◌, List, Option, Some, None, option_map, if◌then◌else◌, codes}
use Rattle.std.specs.Option.{option_and_then}
use Rattle.std.specs.Str.{byte}
use Rattle.pg_types.specs.declared.cause.Cause.{Cause}
use Rattle.pg_types.specs.declared.cause.Cause.TheVariants as cause
use Rattle.pg_types.specs.declared.cause.ScramFault.TheVariants as scram
use Rattle.pg_types.specs.declared.db_error.DbError.{DbError}
use Rattle.pg_types.specs.declared.db_error.ErrorPosition.{ErrorPosition}
use Rattle.pg_types.specs.declared.db_error.ErrorPosition.TheVariants as place
use Rattle.pg_types.specs.declared.error.Error.{Error}
use Rattle.pg_types.specs.declared.error.Error.TheVariants as error
use Rattle.pg_types.specs.declared.error_kind.ErrorKind.{ErrorKind}
use Rattle.pg_types.specs.declared.error_kind.ErrorKind.TheVariants as kind
use Rattle.pg_types.specs.declared.severity.Severity.{Severity}
use Rattle.pg_types.specs.declared.severity.Severity.TheVariants as severity
use Rattle.pg_types.specs.Sources.{db_error_in}

-- the kind of an error, by its variant
abbrev pub kind_of : Error → ErrorKind
kind_of (error.Io c) = kind.Io
kind_of error.UnexpectedMessage = kind.UnexpectedMessage
kind_of (error.Tls c) = kind.Tls
kind_of (error.ToSql place c) = kind.ToSql
kind_of (error.FromSql place c) = kind.FromSql
kind_of (error.Column column) = kind.Column
kind_of error.ColumnCount = kind.ColumnCount
kind_of (error.Parameters given expected) = kind.Parameters
kind_of error.Closed = kind.Closed
kind_of (error.Db e) = kind.Db
kind_of (error.Parse c) = kind.Parse
kind_of (error.Encode c) = kind.Encode
kind_of (error.Authentication c) = kind.Authentication
kind_of (error.ConfigParse c) = kind.ConfigParse
kind_of (error.Config c) = kind.Config
kind_of error.RowCount = kind.RowCount
kind_of (error.Connect c) = kind.Connect
kind_of (error.Stalled before after) = kind.Stalled
kind_of (error.LimitReached given limit) = kind.LimitReached
kind_of error.Missing = kind.Missing
kind_of error.OutOfMemory = kind.OutOfMemory

-- the place of a parameter or a column, from 0
abbrev pub place_in : Error → Option ℕ
place_in (error.ToSql place c) = Some place
place_in (error.FromSql place c) = Some place
place_in _ = None

-- the two numbers of an error that has two
abbrev pub numbers_in : Error → Option (ℕ × ℕ)
numbers_in (error.Parameters given expected) = Some (given, expected)
numbers_in (error.Stalled before after) = Some (before, after)
numbers_in (error.LimitReached given limit) = Some (given, limit)
numbers_in _ = None

-- the cause
abbrev pub cause_in : Error → Option Cause
cause_in (error.Io c) = Some c
cause_in (error.Tls c) = Some c
cause_in (error.ToSql place c) = Some c
cause_in (error.FromSql place c) = Some c
cause_in (error.Parse c) = Some c
cause_in (error.Encode c) = Some c
cause_in (error.Authentication c) = Some c
cause_in (error.ConfigParse c) = Some c
cause_in (error.Config c) = Some c
cause_in (error.Connect c) = Some c
cause_in _ = None

-- the text of a cause: a key, the server's answer, or its word for what is wrong
abbrev pub text_of_cause : Cause → Option (List ℕ)
text_of_cause (cause.UnknownOption key) = Some key
text_of_cause (cause.InvalidValue key) = Some key
text_of_cause (cause.ReadOnly answer) = Some answer
text_of_cause (cause.NotReadOnly answer) = Some answer
text_of_cause (cause.Scram (scram.ServerError word)) = Some word
text_of_cause _ = None

-- the SQLSTATE of an error of the server
abbrev pub sql_state_in : Error → Option (List ℕ)
sql_state_in e = option_map (λ d. d.code.code) (db_error_in e)

-- a severity that isn't translated, as the server spells it (PostgreSQL documentation, "Error and Notice
-- Message Fields", field V)
abbrev pub severity_name : Severity → List ℕ
severity_name severity.Panic = codes "PANIC"
severity_name severity.Fatal = codes "FATAL"
severity_name severity.Error = codes "ERROR"
severity_name severity.Warning = codes "WARNING"
severity_name severity.Notice = codes "NOTICE"
severity_name severity.Debug = codes "DEBUG"
severity_name severity.Info = codes "INFO"
severity_name severity.Log = codes "LOG"

-- the query that the server made
abbrev pub query_in : ErrorPosition → Option (List ℕ)
query_in (place.Original p) = None
query_in (place.Internal p query) = Some query

-- the text of a field, by its letter in the manual (PostgreSQL documentation, "Error and Notice Message
-- Fields"); numbers are none
abbrev pub text_of_field : ℕ → DbError → Option (List ℕ)
text_of_field letter e =
    if letter == byte "S" then Some e.severity
    else if letter == byte "V" then option_map severity_name e.parsed_severity
    else if letter == byte "C" then Some e.code.code
    else if letter == byte "M" then Some e.message
    else if letter == byte "D" then e.detail
    else if letter == byte "H" then e.hint
    else if letter == byte "W" then e.where_
    else if letter == byte "s" then e.schema
    else if letter == byte "t" then e.table
    else if letter == byte "c" then e.column
    else if letter == byte "d" then e.datatype
    else if letter == byte "n" then e.constraint
    else if letter == byte "F" then e.file
    else if letter == byte "R" then e.routine
    else if letter == byte "q" then option_and_then query_in e.position
    else None
