-- What the server says of a statement that it prepared (PostgreSQL documentation, "Extended Query"): ParseComplete,
-- ParameterDescription, then RowDescription or NoData.
use Rattle.std.specs.Prelude.{ℕ, List, [], ◌++◌, map, Option, Result, Ok, Err}
use Rattle.pg_spec.specs.Bodies.{Field, fields_of, oids_of}
use Rattle.pg_spec.specs.Faults.{WireFault, Parse, Wire, UnexpectedMessage}
use Rattle.pg_spec.specs.Messages as message
use Rattle.pg_spec.specs.Messages.{message_of}
use Rattle.pg_spec.specs.RawMessages.{RawMessage}
use Rattle.pg_spec.specs.Readings.{Next, GoesOn, Answers}
use Rattle.pg_spec.specs.SimpleQuery.{unreadable, server_error}
use Rattle.pg_types.specs.declared.error.Error.{Error}
use Rattle.pg_core.specs.QueryReplies.{told_by}

-- the oids of its parameters, and its columns
pub record Description : Type 0 where
  pub params : List ℕ
  pub columns : List Field

-- what of it was read
pub data Seen : Type 0 where
  Nothing : Seen
  Parsed : Seen
  Params : List ℕ → Seen

-- the oids of parameters
abbrev pub reads_params : Result (List ℕ) WireFault → Next Seen (Result Description Error)
reads_params (Ok oids) = GoesOn (Params oids)
reads_params (Err fault) = Answers (Err (unreadable fault))

-- the columns, which come last
abbrev pub reads_columns : List ℕ → Result (List Field) WireFault → Next Seen (Result Description Error)
reads_columns oids (Ok fields) = Answers (Ok (record { params = oids; columns = fields }))
reads_columns oids (Err fault) = Answers (Err (unreadable fault))

-- what a message does
abbrev pub description_message : Seen → message.Message → Next Seen (Result Description Error)
description_message seen (message.ErrorResponse fields) = Answers (Err (server_error fields))
description_message Nothing message.ParseComplete = GoesOn Parsed
description_message Parsed (message.ParameterDescription count oids) = reads_params (oids_of count oids)
description_message (Params oids) (message.RowDescription count fields) = reads_columns oids (fields_of count fields)
description_message (Params oids) message.NoData = Answers (Ok (record { params = oids; columns = [] }))
description_message seen other = Answers (Err UnexpectedMessage)

-- the same of a message that may be malformed
abbrev pub description_next : Seen → RawMessage → Next Seen (Result Description Error)
description_next seen raw = elim (message_of raw) [
  | Ok m ↦ description_message seen m
  | Err fault ↦ Answers (Err (Parse (Wire fault)))
]

-- what the reply says of a statement
abbrev pub description : List RawMessage → Option (Result Description Error)
description = told_by description_next Nothing

-- the oids whose types are found: of the parameters, then of the columns
abbrev pub oids_in : Description → List ℕ
oids_in d = d.params ++ map (λ f. f.type_oid) d.columns
