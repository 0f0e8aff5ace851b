-- What the readers of errors, notices and notifications answer.
use Rattle.std.specs.Prelude.{◌≡◌, ℕ, List, Option, Some, None, Result, Ok, Err}
use Rattle.pg_spec.specs.DbErrors.{db_error_of}
use Rattle.pg_spec.specs.Asides.{aside_fault}
use Rattle.pg_spec.specs.Report.{async_message}
use Rattle.pg_wire.specs.declared.message.Message.{Message}
use Rattle.pg_wire.specs.declared.message.Message.TheVariants as wire
use Rattle.pg_wire.specs.Messages.{message_view}
use Rattle.pg_types.specs.declared.cause.Cause.TheVariants as cause
use Rattle.pg_types.specs.declared.db_error.DbError.{DbError}
use Rattle.pg_types.specs.declared.error.Error.{Error}
use Rattle.pg_types.specs.declared.error.Error.TheVariants as error
use Rattle.pg_errors.specs.declared.async_message.AsyncMessage.{AsyncMessage}
use Rattle.pg_errors.specs.Views.{async_of}

-- the error of the fields, or that they are none
abbrev pub ParsesError : List ℕ → Result DbError Error → Type 0
ParsesError fields (Ok e) = db_error_of fields ≡ Some e
ParsesError fields (Err (error.Parse cause.Fields)) = db_error_of fields ≡ None
ParsesError fields (Err error.OutOfMemory) = Unit {0}
ParsesError fields (Err _) = ⊥

-- it is handed out: a notice or a notification
abbrev pub IsHandedOut : Message → Type 0
IsHandedOut (wire.NoticeResponse b) = Unit {0}
IsHandedOut (wire.NotificationResponse b) = Unit {0}
IsHandedOut _ = ⊥

-- what is handed out for a message, or why it can't be read
abbrev pub ReadsAside : Message → Result (Option AsyncMessage) Error → Type 0
ReadsAside m (Ok None) = IsHandedOut m → ⊥
ReadsAside m (Ok (Some a)) = async_message (message_view m) ≡ Some (async_of a)
ReadsAside m (Err (error.Parse c)) = IsHandedOut m × (aside_fault (message_view m) ≡ Some c)
ReadsAside m (Err error.OutOfMemory) = Unit {0}
ReadsAside m (Err _) = ⊥
