-- A text that is queried with values of given types, in one request, and of whose rows something is made (PostgreSQL documentation, "Extended
-- Query"): as a typed query of pg_execute (`Typed`), whose rows are the answer themselves.
use Rattle.std.specs.Prelude.{ℕ, List, [], ◌∷◌, length, map, Bool, true, false, Option, Result, Ok}
use Rattle.pg_spec.specs.Bodies.{Field}
use Rattle.pg_spec.specs.RawMessages.{RawMessage}
use Rattle.pg_types.specs.declared.pg_type.PgType.{PgType}
use Rattle.pg_execute.specs.Parameters.{Params}
use Rattle.pg_types.specs.declared.error.Error.{Error}
use Rattle.pg_desk.specs.declared.statement.Described.{Described as Statement}
use Rattle.pg_query.specs.declared.desk_call.Cleanup.TheVariants.{Release}
use Rattle.pg_query.specs.Dialogue.{Dialogue, Answer, HangUp, Read}
use Rattle.pg_query.specs.Reading.{reads}
use Rattle.pg_core.specs.Sequences.{then_do}
use Rattle.pg_core.specs.Composing.{asks_for}
use Rattle.pg_execute.specs.Rows.{rows_read}
use Rattle.pg_execute.specs.Typed.{all_known, columns_came, has_ended, head, told_or, typed_request, unnamed}
use Rattle.pg_execute.specs.declared.got.Got.{Got}
use Rattle.pg_execute.specs.declared.how_many.HowMany.{HowMany}
use Rattle.pg_execute.specs.declared.how_many.HowMany.TheVariants.{Any}
use Rattle.pg_streams.specs.RowStreams.{RowsGiven, rows_given}

-- the oids of the types of columns
abbrev pub oids_of : List Field → List ℕ
oids_of fields = map (λ f. f.type_oid) fields

-- what is made of the rows, where their columns have these types
abbrev pub typed_made : {A : Type 0} → (Statement → Got → Result A Error) → HowMany → List Field → List PgType → List RawMessage → Option (Result A Error)
typed_made makes how fields types = rows_read how (length fields) (makes (unnamed fields types)) columns_came

-- The rest of the reply is taken, unread, and the request is hung up. Then the types of all columns are found, and one goes on with what was taken.
abbrev pub takes_rest_by : {T : Type 0} → (List ℕ → Dialogue (List PgType)) → (takes : List RawMessage → List PgType → Dialogue T) → List Field → Dialogue T
takes_rest_by find takes fields = Read (Release ∷ []) has_ended (λ taken. HangUp (then_do (find (oids_of fields)) (takes taken)))

-- the columns came: where the type of each is known one goes on at once, and otherwise what comes behind them waits
abbrev pub behind_head_by : {T : Type 0} → (List ℕ → Dialogue (List PgType)) → (knows : List PgType → Dialogue T) → (takes : List RawMessage → List PgType → Dialogue T) → List Field → Dialogue T
behind_head_by find knows takes fields = all_known (takes_rest_by find takes fields) knows (oids_of fields) []

-- where the type of each is known the rows are read on, and otherwise what was taken is read
abbrev pub behind_head_made : {A : Type 0} → (Statement → Got → Result A Error) → (List ℕ → Dialogue (List PgType)) → HowMany → List Field → Dialogue A
behind_head_made makes find how fields = behind_head_by find (λ types. reads false (typed_made makes how fields types)) (λ taken types. Answer (told_or (typed_made makes how fields types taken))) fields

-- a typed query, of whose rows this is made
abbrev pub query_typed_made : {A : Type 0} → (Statement → Got → Result A Error) → (List ℕ → Dialogue (List PgType)) → HowMany → (text : List ℕ) → List PgType → Params → Dialogue A
query_typed_made makes find how text types vs = asks_for (typed_request text types vs) (then_do (reads false head) (behind_head_made makes find how))

-- query_typed_raw: what one asks and answers who collects the rows
abbrev pub query_typed_raw : (List ℕ → Dialogue (List PgType)) → (text : List ℕ) → List PgType → Params → Dialogue RowsGiven
query_typed_raw find text types vs = query_typed_made rows_given find Any text types vs

-- ---- what is found out of the reply

-- whether its rest is taken before the rows are given, and what they are rows of
pub record FoundRows : Type 0 where
  pub taken : Bool
  pub statement : Statement

-- the same of columns of these types
abbrev pub found_rows : (taken : Bool) → List Field → List PgType → FoundRows
found_rows taken fields types = record { taken = taken; statement = unnamed fields types }

-- who only finds that out goes on so too, and reads no row
abbrev pub finds_behind_head : (List ℕ → Dialogue (List PgType)) → List Field → Dialogue FoundRows
finds_behind_head find fields = behind_head_by find (λ types. Answer (Ok (found_rows false fields types))) (λ taken types. Answer (Ok (found_rows true fields types))) fields

-- so he asks, and is answered that
abbrev pub finds_rows : (List ℕ → Dialogue (List PgType)) → (text : List ℕ) → List PgType → Params → Dialogue FoundRows
finds_rows find text types vs = asks_for (typed_request text types vs) (then_do (reads false head) (finds_behind_head find))

-- what one has who collects the rows, and who only finds out what they are
abbrev pub Asked : (rows : Bool) → Type 0
Asked true = RowsGiven
Asked false = FoundRows
