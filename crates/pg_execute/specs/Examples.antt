-- Worked executions over a desk by itself.
use Rattle.std.specs.Prelude.{ℕ, List, [], ◌∷◌, ◌++◌, map, Option, Result, Ok, Some, codes, pos}
use Rattle.std.specs.Str.{byte}
use Rattle.pg_spec.specs.Bytes.{text0}
use Rattle.pg_spec.specs.Examples.{hex}
use Rattle.pg_spec.specs.RawMessages.{RawMessage}
use Rattle.pg_types.specs.declared.pg_type.Kind.{Kind}
use Rattle.pg_types.specs.declared.value.Value.{Value}
use Rattle.pg_types.specs.declared.value.Value.TheVariants as value
use Rattle.pg_types.specs.declared.error.Error.{Error}
use Rattle.pg_desk.specs.declared.statement.Described.{Described as Statement}
use Rattle.pg_desk.specs.declared.column.Column.{Column}
use Rattle.pg_core.specs.Cells.{Cells}
use Rattle.pg_core.specs.Examples.{Came, over, int4}
use Rattle.pg_core.specs.Lookups.{find_all, prepare}
use Rattle.pg_core.specs.LookupReplies.{column, data_row, described, message, ready}
use Rattle.pg_core.specs.Worlds.{new_desk}
use Rattle.pg_execute.specs.Executes.{query, query_raw, query_scalar, execute, on_text}
use Rattle.pg_execute.specs.Parameters.{given_of}
use Rattle.pg_execute.specs.Typed.{execute_typed, query_typed}
use Rattle.pg_execute.specs.declared.how_many.HowMany.{HowMany}
use Rattle.pg_execute.specs.declared.result_set.ResultSet.{ResultSet}
use Rattle.pg_execute.specs.declared.how_many.HowMany.TheVariants.{Any}

-- ---- statements

-- a column of type int4
abbrev pub int4_column : List ℕ → Column
int4_column name = record { name = name; table_oid = 0; column_id = pos 0; type_modifier = pos 0; type_ = int4 }

-- a statement of one int4, whose rows have one
abbrev pub of_one : Statement
of_one = record { name = codes "s0"; params = int4 ∷ []; columns = int4_column (codes "v") ∷ [] }

-- a statement without parameters, whose rows have two
abbrev pub of_two_columns : Statement
of_two_columns = record { name = codes "s0"; params = []; columns = int4_column (codes "v") ∷ int4_column (codes "w") ∷ [] }

-- ---- replies

-- BindComplete, then these messages, then ReadyForQuery
abbrev pub bound : List RawMessage → List RawMessage
bound given = message (byte "2") [] ∷ given ++ ready

-- CommandComplete with this tag
abbrev pub complete : List ℕ → RawMessage
complete tag = message (byte "C") (text0 tag)

-- EmptyQueryResponse
abbrev pub empty : RawMessage
empty = message (byte "I") []

-- PortalSuspended
abbrev pub suspended : RawMessage
suspended = message (byte "s") []

-- an int4 as a cell
abbrev pub int4_cell : ℕ → Option (List ℕ)
int4_cell n = Some (0 ∷ 0 ∷ 0 ∷ n ∷ [])

-- a row of one
abbrev pub row : ℕ → RawMessage
row n = data_row (int4_cell n ∷ [])

-- a row that says it has a cell, and has none
abbrev pub broken_row : RawMessage
broken_row = message (byte "D") (0 ∷ 1 ∷ [])

-- ---- bytes that go out

-- `s0`, executed with the value 7: Bind, Execute, Sync
abbrev pub with_7 : List ℕ
with_7 = hex (codes "420000001a00733000000100010001000000040000000700010001450000000900000000005300000004")

-- the text `q`, as the first statement: Parse, Describe, Sync
abbrev pub q_as_s0 : List ℕ
q_as_s0 = hex (codes "500000000b733000710000004400000008537330005300000004")

-- `s0` is closed: Close, Sync
abbrev pub close_s0 : List ℕ
close_s0 = hex (codes "4300000008537330005300000004")

-- ---- what came

-- a statement is queried with the value 7
abbrev pub asked_7 : HowMany → List RawMessage → Came ResultSet
asked_7 how reply = over new_desk (query how of_one (given_of (value.Int (pos 7) ∷ []))) (reply ∷ [])

-- it is queried with these values
abbrev pub asked_with : List Value → Came ResultSet
asked_with vs = over new_desk (query Any of_one (given_of vs)) (bound [] ∷ [])

-- the rows of an answer
abbrev pub found : Statement → List Cells → Option ℕ → ResultSet
found s rows affected = record { statement = s; rows = rows; affected = affected }

-- the values of a column are asked for
abbrev pub scalars_of : HowMany → Statement → List Value → List RawMessage → Came (List Value)
scalars_of how s vs reply = over new_desk (query_scalar how s (given_of vs)) (reply ∷ [])

-- the statement is executed with the value 7
abbrev pub executed : List RawMessage → Came ℕ
executed reply = over new_desk (execute of_one (given_of (value.Int (pos 7) ∷ []))) (bound reply ∷ [])

-- the text `q`, of one int4, is executed with these values
abbrev pub text_executed : List Value → List (List RawMessage) → Came ℕ
text_executed vs replies = over new_desk (on_text (prepare (codes "q") []) (λ s. execute s (given_of vs))) replies

-- how the server describes it
abbrev pub q_described : List RawMessage
q_described = described (23 ∷ []) []

-- the first rows of a statement are queried with the value 7
abbrev pub first_of : (take : ℕ) → List RawMessage → Came ResultSet
first_of take reply = over new_desk (query_raw take of_one (given_of (value.Int (pos 7) ∷ []))) (reply ∷ [])

-- the same of the text `q`
abbrev pub text_first : (take : ℕ) → List RawMessage → Came ResultSet
text_first take reply = over new_desk (on_text (prepare (codes "q") []) (λ s. query_raw take s (given_of (value.Int (pos 7) ∷ [])))) (q_described ∷ reply ∷ [])

-- ---- a text with types of its values

-- the text `q`, without values: Parse, Bind, Describe, Execute, Sync
abbrev pub q_typed : List ℕ
q_typed = hex (codes "50000000090071000000420000000e0000000000000001000144000000065300450000000900000000005300000004")

-- what comes before the rows of one column of this oid: ParseComplete, BindComplete, ParameterDescription, RowDescription
abbrev pub headed : (oid : ℕ) → List RawMessage
headed oid =
    message (byte "1") [] ∷ message (byte "2") [] ∷ message (byte "t") (0 ∷ 0 ∷ []) ∷ message (byte "T") (0 ∷ 1 ∷ column (codes "c") oid) ∷ []

-- the same where there are no rows
abbrev pub headed_without_rows : List RawMessage
headed_without_rows = message (byte "1") [] ∷ message (byte "2") [] ∷ message (byte "t") (0 ∷ 0 ∷ []) ∷ message (byte "n") [] ∷ []

-- the text `q` is queried without values
abbrev pub typed_query : HowMany → List (List RawMessage) → Came ResultSet
typed_query how replies = over new_desk (query_typed find_all how (codes "q") [] (given_of [])) replies

-- it is queried with an int4, as this value
abbrev pub typed_with : (text : List ℕ) → List Value → Came ResultSet
typed_with text vs = over new_desk (query_typed find_all Any text (int4 ∷ []) (given_of vs)) []

-- it is executed without values
abbrev pub typed_executed : List RawMessage → Came ℕ
typed_executed reply = over new_desk (execute_typed (codes "q") [] (given_of [])) (reply ∷ [])

-- the rows of an answer, none of an error
abbrev pub rows_in : Option (Result ResultSet Error) → List Cells
rows_in (Some (Ok r)) = r.rows
rows_in answer = []

-- the kinds of its columns, none of an error
abbrev pub kinds_in : Option (Result ResultSet Error) → List Kind
kinds_in (Some (Ok r)) = map (λ (c : Column). c.type_.kind) r.statement.columns
kinds_in answer = []
