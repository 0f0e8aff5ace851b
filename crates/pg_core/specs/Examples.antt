-- Worked lookups over a desk by itself.
use Rattle.std.specs.Prelude.{ℕ, List, [], ◌∷◌, map, flat_map, Bool, true, false, Option, Some, Result, Ok, Err, codes, is_some}
use Rattle.pg_spec.specs.Faults.{Db}
use Rattle.pg_spec.specs.RawMessages.{RawMessage}
use Rattle.pg_types.specs.declared.pg_type.PgType.{PgType}
use Rattle.pg_types.specs.declared.pg_type.Kind.{Kind, Simple, Composite}
use Rattle.pg_types.specs.declared.error.Error.{Error}
use Rattle.pg_desk.specs.declared.statement.Described.{Described as Statement}
use Rattle.pg_desk.specs.declared.column.Column.{Column}
use Rattle.pg_query.specs.declared.desk_call.DeskCall.{DeskCall}
use Rattle.pg_query.specs.declared.desk_call.Reply.{Reply}
use Rattle.pg_query.specs.Dialogue.{Dialogue}
use Rattle.pg_core.specs.Outcomes.{asked}
use Rattle.pg_core.specs.Lookups.{prepare, clear}
use Rattle.pg_core.specs.Worlds.{OwnDesk, Played, new_desk, plays, tells}
use Rattle.pg_core.specs.LookupReplies.{base, column, composite, described, enumeration, field, fields_described, info_described, labels_described, q_described, refused, rows, type_row}

-- what came of a command
abbrev pub Came : Type 0 → Type 0
Came T = Played OwnDesk DeskCall Reply (Result T Error)

-- a command over a desk, by the replies to its requests
abbrev pub over : {T : Type 0} → OwnDesk → Dialogue T → List (List RawMessage) → Came T
over desk d replies = plays tells desk replies [] (asked d)

-- a text is prepared over a new desk
abbrev pub prepared : (text : List ℕ) → List (List RawMessage) → Came Statement
prepared text replies = over new_desk (prepare text []) replies

-- A text with one column of oid 90000 is prepared, where the statement of a type's own row is answered by these replies.
abbrev pub one_column_by : List (List RawMessage) → Came Statement
one_column_by replies = prepared (codes "q") (q_described ∷ replies)

-- the same, where that statement is described at once
abbrev pub one_column : List (List RawMessage) → Came Statement
one_column replies = one_column_by (info_described ∷ replies)

-- what it booked, each request one part
abbrev pub booked : {T : Type 0} → Came T → List (List ℕ)
booked c = flat_map (λ parts. parts) c.outcome.requests

-- the answer is a statement
abbrev pub is_statement : Option (Result Statement Error) → Bool
is_statement (Some (Ok s)) = true
is_statement answer = false

-- the answer is an error of the server
abbrev pub is_db : Option (Result Statement Error) → Bool
is_db (Some (Err (Db e))) = true
is_db answer = false

-- the kinds of the statement's columns
abbrev pub kinds : Option (Result Statement Error) → List Kind
kinds (Some (Ok s)) = map (λ (c : Column). c.type_.kind) s.columns
kinds answer = []

-- the built-in int4
abbrev pub int4 : PgType
int4 = record { name = codes "int4"; oid = 23; kind = Simple; schema = codes "pg_catalog" }

-- the type of this oid and kind that `type_row` names
abbrev pub named_a : ℕ → Kind → PgType
named_a oid kind = record { name = codes "a"; oid = oid; kind = kind; schema = codes "public" }

-- an enumeration of two labels, the second one these bytes or null
abbrev pub labelled : Option (List ℕ) → Came Statement
labelled second = one_column (enumeration ∷ labels_described ∷ rows ((Some (codes "red") ∷ []) ∷ (second ∷ []) ∷ []) ∷ [])

-- a composite of an int4 and of a composite, which has an int4 alone
abbrev pub composites : Came Statement
composites = one_column (
    composite 777 ∷ fields_described ∷ rows (field (codes "x") 23 ∷ field (codes "y") 90001 ∷ [])
    ∷ composite 778 ∷ rows (field (codes "z") 23 ∷ []) ∷ [])

-- a composite that has a field of its own type
abbrev pub composite_of_itself : Came Statement
composite_of_itself = one_column (composite 5 ∷ fields_described ∷ rows (field (codes "f") 90000 ∷ []) ∷ [])

-- the server doesn't know all of the first text of a type's own row, by this code
abbrev pub second_info : (code : List ℕ) → Came Statement
second_info code = one_column_by (refused code ∷ info_described ∷ type_row base ∷ [])

-- nor of the first text of labels
abbrev pub second_labels : (code : List ℕ) → Came Statement
second_labels code = one_column (enumeration ∷ refused code ∷ labels_described ∷ rows ((Some (codes "red") ∷ []) ∷ []) ∷ [])

-- nor of the text of fields, which has no second one
abbrev pub no_second_fields : (code : List ℕ) → Came Statement
no_second_fields code = one_column (composite 5 ∷ refused code ∷ fields_described ∷ rows [] ∷ [])

-- a text with a zero byte
abbrev pub refused_text : Came Statement
refused_text = prepared (97 ∷ 0 ∷ []) []

-- another text behind it
abbrev pub behind_refused : Came Statement
behind_refused = over refused_text.world (prepare (codes "b") []) (described [] [] ∷ [])

-- a text with an unknown type
abbrev pub first : Came Statement
first = one_column (type_row base ∷ [])

-- it is prepared again
abbrev pub again : Came Statement
again = over first.world (prepare (codes "q") []) (q_described ∷ [])

-- the types are dropped
abbrev pub dropped : Came (Unit {0})
dropped = over again.world clear []

-- and it is prepared once more
abbrev pub once_more : Came Statement
once_more = over dropped.world (prepare (codes "q") []) (q_described ∷ type_row base ∷ [])

-- the statement of a type's own row has three columns only
abbrev pub three_columns : Came Statement
three_columns = one_column_by (
    described (26 ∷ []) (column (codes "typname") 19 ∷ column (codes "typtype") 18 ∷ column (codes "typelem") 26 ∷ [])
    ∷ rows ((Some (codes "d") ∷ Some (codes "b") ∷ Some (0 ∷ 0 ∷ 0 ∷ 0 ∷ []) ∷ []) ∷ []) ∷ [])

-- its own column has a type that isn't known
abbrev pub unknown_column : Came Statement
unknown_column = one_column_by (described (26 ∷ []) (column (codes "typname") 90001 ∷ []) ∷ [])

-- it has these parameters
abbrev pub of_params : List ℕ → Came Statement
of_params params = one_column_by (described params (column (codes "typname") 19 ∷ []) ∷ [])

-- the desk keeps the statement of a type's own row
abbrev pub keeps_info : Came Statement → Bool
keeps_info c = is_some c.world.catalog.info

-- the kind of the composite of composites
abbrev pub composites_kind : Kind
composites_kind = Composite (
    record { name = codes "x"; type_ = int4 }
    ∷ record { name = codes "y"; type_ = named_a 90001 (Composite (record { name = codes "z"; type_ = int4 } ∷ [])) } ∷ [])

-- a text is prepared where the counter is at its last value
abbrev pub spent : Came Statement
spent = over (record new_desk { statements = 4294967295 }) (prepare (codes "q") []) []
