-- Where the state stands of a text that is queried with values of given types, and whose rows are given one by one.
use Rattle.std.specs.Prelude.{◌≡◌, ◌⊎◌, ◌++◌, ◌==◌, ℕ, List, [], length, Bool, true, false, if◌then◌else◌, Option, Some, None, Result, Ok, Err}
use Rattle.futures.specs.declared.task.Poll.{Poll}
use Rattle.pg_spec.specs.Bodies.{Field}
use Rattle.pg_spec.specs.Faults.{Parameters}
use Rattle.pg_spec.specs.RawMessages.{RawMessage}
use Rattle.pg_spec.specs.declared.stamps.Stamp.{Stamp}
use Rattle.pg_desk.specs.declared.event.Event.{Event}
use Rattle.pg_types.specs.declared.pg_type.PgType.{PgType}
use Rattle.pg_execute.specs.Parameters.{Params}
use Rattle.pg_types.specs.declared.error.Error.{Error}
use Rattle.pg_types.specs.declared.error.Error.TheVariants.{Closed, OutOfMemory}
use Rattle.pg_query.specs.Dialogue.{Dialogue, Answer, feed}
use Rattle.pg_query.specs.Meaning.{Goes, GoesToAnswer, MatchPoll, Pauses, Place}
use Rattle.pg_query.specs.Reading.{reads}
use Rattle.pg_core.specs.Sequences.{then_do}
use Rattle.pg_core.specs.Lookups.{find_all}
use Rattle.pg_core.specs.Composing.{asks_for}
use Rattle.pg_execute.specs.Typed.{all_known, has_ended, head, told_or, typed_request, unnamed}
use Rattle.pg_types.specs.Texts.{sql_text}
use Rattle.pg_execute.specs.Types.{types_in}
use Rattle.pg_execute.specs.declared.types.Types.{Types}
use Rattle.pg_execute.specs.declared.types.Types.TheVariants.{Given, BuiltIn, Owned}
use Rattle.pg_execute.specs.declared.how_many.HowMany.TheVariants.{Any}
use Rattle.pg_streams.specs.Brought.{collected, joined}
use Rattle.pg_streams.specs.Families.{GoesFor, PausesFor}
use Rattle.pg_streams.specs.Handing.{BroughtBefore, alone}
use Rattle.pg_streams.specs.Hearing.{First, IsNoItem}
use Rattle.pg_streams.specs.RowStates.{IsBegun, rows_opened, rows_place, rows_taken, statement_of, unread}
use Rattle.pg_streams.specs.RowStreams.{RowsGiven, rows_given}
use Rattle.pg_streams.specs.declared.giving.Told.TheVariants.{Item}
use Rattle.pg_streams.specs.declared.row_stream.RowStream.{RowStream}
use Rattle.pg_states.specs.Paired.{paired}
use Rattle.pg_streams.specs.Heads.{head_first, heads}
use Rattle.pg_streams.specs.Rests.{IsRest, came, rest_first, rests, takes_so, whole_first}
use Rattle.pg_streams.specs.TypedRaw.{Asked, FoundRows, found_rows, oids_of, typed_made}
use Rattle.pg_streams.specs.contracts.finding.FindStatePolled.TheImpl as finding
use Rattle.pg_streams.specs.declared.finding.FindState.{FindState}
use Rattle.pg_streams.specs.declared.heads.Heads.{Heads}
use Rattle.pg_streams.specs.declared.rests.Rest.{Rest}
use Rattle.pg_streams.specs.declared.state.Stage.{Stage}
use Rattle.pg_streams.specs.declared.state.Stage.TheVariants.{Reads, Takes, Finds, Done}
use Rattle.pg_streams.specs.declared.state.TypedAsks.{TypedAsks}

-- ---- what is told first

-- what opens the rows: the columns, or, where the rest of the reply is taken before a type is looked up, all that comes behind them
abbrev pub opens_first : (rest : Bool) → List RawMessage → First (Unit {0}) (Unit {0})
opens_first false ms = head_first ms
opens_first true ms = whole_first (head_first ms).told (head_first ms)

-- the same once the columns came, with these messages behind them
abbrev pub columns_first : List RawMessage → (rest : Bool) → List RawMessage → First (Unit {0}) (Unit {0})
columns_first ms false more = record { told = Some (Item tt); giving = tt; left = ms ++ more }
columns_first ms true more = rest_first (ms ++ more)

-- the same where the rest is taken
abbrev pub rests_first : List RawMessage → List RawMessage → First (Unit {0}) (Unit {0})
rests_first ms more = rest_first (ms ++ more)

-- the same once it is there
abbrev pub found_first : List RawMessage → List RawMessage → First (Unit {0}) (Unit {0})
found_first ms more = record { told = Some (Item tt); giving = tt; left = ms ++ more }

-- ---- what comes behind the columns

-- the rows, as one has them who collects
abbrev pub rows_of : List Field → List PgType → List RawMessage → Option (Result RowsGiven Error)
rows_of fields types = typed_made rows_given Any fields types

-- the types are known: the rows are read on, or who only finds out what they are is answered that
abbrev pub known_on : (rows : Bool) → List Field → List PgType → Dialogue (Asked rows)
known_on true fields types = reads false (rows_of fields types)
known_on false fields types = Answer (Ok (found_rows false fields types))

-- the types were found: what was taken is read, or he is answered that
abbrev pub taken_on : (rows : Bool) → List Field → List RawMessage → List PgType → Dialogue (Asked rows)
taken_on true fields taken types = Answer (told_or (rows_of fields types taken))
taken_on false fields taken types = Answer (Ok (found_rows true fields types))

-- the same, where these messages came behind the columns: what one has who collects
abbrev pub had_of : (rows : Bool) → List Field → List RawMessage → List PgType → Dialogue (Asked rows)
had_of true fields ms types = Answer (collected (feed ms (reads false (rows_of fields types))))
had_of false fields ms types = Answer (Ok (found_rows true fields types))

-- the rest was taken: the types are found
abbrev pub behind_rest : (rows : Bool) → List Field → List RawMessage → Dialogue (Asked rows)
behind_rest rows fields taken = then_do (find_all (oids_of fields)) (taken_on rows fields taken)

-- the types of the columns are known, or they aren't
abbrev pub behind_columns : (rows : Bool) → List Field → Dialogue (Asked rows)
behind_columns rows fields = all_known (takes_so (behind_rest rows fields)) (known_on rows fields) (oids_of fields) []

-- ---- types that are found

-- where the finding stands
abbrev pub place_of_finding : FindState → Place (List PgType)
place_of_finding s = finding.ghosts.place s

-- it hasn't answered
abbrev pub IsFinding : FindState → Type 0
IsFinding s = finding.ghosts.is_live s

-- where one stands who reads what was taken behind that
abbrev pub found_place : (rows : Bool) → List Field → List RawMessage → Place (List PgType) → Place (Asked rows)
found_place rows fields ms p = record { dialogue = then_do p.dialogue (had_of rows fields ms); reads = p.reads }

-- ---- a stage

-- what is asked with these values for a text: of one who reads the rows it is `query_typed_raw`, and of one who only finds out what they are `finds_rows`
abbrev pub asks_typed : (rows : Bool) → (text : List ℕ) → (count : ℕ) → List PgType → Params → Dialogue (Asked rows)
asks_typed rows text count types vs = paired count vs (asks_for (typed_request text types vs) (then_do (reads false head) (behind_columns rows)))

-- the request, or why it is refused: the numbers of values and types come first
abbrev pub paired_request : (text : List ℕ) → (count : ℕ) → List PgType → Params → Result (List ℕ) Error
paired_request text count types vs = if vs.count == count then typed_request text types vs else Err (Parameters vs.count count)

-- it was written, or it is refused; want of memory may come anywhere
abbrev pub IsRequest : Result (List ℕ) Error → Result (List ℕ) Error → Type 0
IsRequest request (Ok part) = request ≡ Ok part
IsRequest request (Err e) = (request ≡ Err e) ⊎ (e ≡ OutOfMemory)

-- where one stands at a stage
abbrev pub stage_place : (rows : Bool) → Stage → Place (Asked rows)
stage_place rows (Reads s) = (heads rows s).place (behind_columns rows)
stage_place rows (Takes columns s) = (rests rows s).place (behind_rest rows columns)
stage_place rows (Finds columns batches s) = found_place rows columns (joined batches.items) (place_of_finding s)
stage_place rows Done = record { dialogue = Answer (Err Closed); reads = 0 }

-- what is known of a stream: whether the rest of its reply was taken before, and what its rows are rows of
abbrev pub known_of : RowStream → FoundRows
known_of stream = record { taken = rows_taken stream; statement = statement_of stream }

-- what is told first behind the columns, where the rest is taken; of a reply whose rest isn't taken nothing came so
abbrev pub rest_told : (List RawMessage → First (Unit {0}) (Unit {0})) → (rest : Bool) → List RawMessage → First (Unit {0}) (Unit {0})
rest_told first true = first
rest_told first false = opens_first false

-- what is told first at a stage, by whether the rest is taken before
abbrev pub stage_first : Stage → (rest : Bool) → List RawMessage → First (Unit {0}) (Unit {0})
stage_first (Reads s) = λ rest more. opens_first rest (s.batch ++ more)
stage_first (Takes columns s) = rest_told (rests_first (came s))
stage_first (Finds columns batches s) = rest_told (found_first (joined batches.items))
stage_first Done = λ rest more. record { told = None; giving = tt; left = more }

-- the rest is taken, and hasn't ended
pub record IsTaking (s : Rest) : Type 0 where
  pub is : IsRest s
  pub on : has_ended (came s) ≡ false

-- it hasn't answered at a stage
abbrev pub IsLiveAt : Stage → Type 0
IsLiveAt (Reads s) = s.batch ≡ []
IsLiveAt (Takes columns s) = IsTaking s
IsLiveAt (Finds columns batches s) = IsFinding s
IsLiveAt Done = ⊥

-- ---- a state

-- how many types were given
abbrev pub types_count : Types → ℕ
types_count (Given types) = length types.now
types_count (BuiltIn oids) = length oids.now
types_count (Owned types) = length types

-- where one stands: he asks with these values, or reads the reply
abbrev pub place_so : {P : Type 0} → (P → Params) → (rows : Bool) → Option (TypedAsks P) → Stage → Place (Asked rows)
place_so of rows (Some a) stage = record { dialogue = asks_typed rows (sql_text a.text) (types_count a.types) (types_in a.types) (of a.values); reads = 0 }
place_so of rows None stage = stage_place rows stage

-- what is told first, by whether the rest is taken before
abbrev pub first_so : {P : Type 0} → Option (TypedAsks P) → Stage → (rest : Bool) → List RawMessage → First (Unit {0}) (Unit {0})
first_so (Some a) stage = opens_first
first_so None stage = stage_first stage

-- it hasn't answered
abbrev pub IsLiveSo : {P : Type 0} → Option (TypedAsks P) → Stage → Type 0
IsLiveSo (Some a) stage = Unit {0}
IsLiveSo None stage = IsLiveAt stage

-- ---- what its calls say

-- The stream stands where the events led, with what is told first of the messages that came.
pub record HandsLive {D : Type 0} (becomes : D → List Event → D → Type 0) (stamp : Stamp) (a : D) (p : Place RowsGiven) (first : List RawMessage → First (Unit {0}) (Unit {0})) (b : D) (stream : RowStream) : Type 0 where
  pub live : rows_taken stream ≡ false
  pub goes : GoesFor becomes stamp a (alone p first) b (alone (rows_place stream) (rows_opened stream))

-- It has all that came behind the columns. The events led to the answer of one who collects it.
pub record HandsTaken {D : Type 0} (becomes : D → List Event → D → Type 0) (stamp : Stamp) (a : D) (p : Place RowsGiven) (first : List RawMessage → First (Unit {0}) (Unit {0})) (b : D) (stream : RowStream) : Type 0 where
  pub taken : rows_taken stream ≡ true
  pub brought : BroughtBefore becomes stamp a (alone p first) (rows_opened stream) (λ mid q. (n : ℕ) × Goes becomes stamp mid q b (record { dialogue = (rows_place stream).dialogue; reads = n }))

-- one waits for the columns or the rest behind them, or for types that are found
pub data Waits {D : Type 0} (becomes : D → List Event → D → Type 0) (stamp : Stamp) (a : D) (p : Place RowsGiven) (first : List RawMessage → First (Unit {0}) (Unit {0})) (b : D) (new : Stage) : Type 0 where
  ForMore : PausesFor becomes stamp a (alone p first) b (alone (stage_place true new) (stage_first new true)) → Waits becomes stamp a p first b new
  ForTypes : (IsNoItem (stage_first new true []).told → ⊥) → BroughtBefore becomes stamp a (alone p first) (stage_first new true) (λ mid q. Pauses becomes stamp mid q b (stage_place true new)) → Waits becomes stamp a p first b new

-- so waits who only finds out what the rows are
abbrev pub WaitsToo : {D : Type 0} → (D → List Event → D → Type 0) → Stamp → D → (p : (rows : Bool) → Place (Asked rows)) → D → Stage → Type 0
WaitsToo becomes stamp a p b new = Pauses becomes stamp a (p false) b (stage_place false new)

-- the events led to what is known of the stream
abbrev pub FindsOut : {D : Type 0} → (D → List Event → D → Type 0) → Stamp → D → (p : (rows : Bool) → Place (Asked rows)) → D → RowStream → Type 0
FindsOut becomes stamp a p b stream = GoesToAnswer becomes stamp a (p false) b (Ok (known_of stream))

-- The rest is taken before its stream is handed on, or an error comes.
abbrev pub HandsRest : {D : Type 0} → (D → List Event → D → Type 0) → Stamp → D → (p : (rows : Bool) → Place (Asked rows)) → (first : List RawMessage → First (Unit {0}) (Unit {0})) → D → Result RowStream Error → Type 0
HandsRest becomes stamp a p first b (Ok stream) = HandsTaken becomes stamp a (p true) first b stream × IsBegun stream × FindsOut becomes stamp a p b stream
HandsRest becomes stamp a p first b (Err e) = (rows : Bool) → GoesToAnswer becomes stamp a (p rows) b (Err e)

-- A stream is handed on of one kind or the other, or an error comes.
abbrev pub Hands : {D : Type 0} → (D → List Event → D → Type 0) → Stamp → D → (p : (rows : Bool) → Place (Asked rows)) → (first : Bool → List RawMessage → First (Unit {0}) (Unit {0})) → D → Result RowStream Error → Type 0
Hands becomes stamp a p first b (Ok stream) = (HandsLive becomes stamp a (p true) (first false) b stream ⊎ HandsTaken becomes stamp a (p true) (first true) b stream) × IsBegun stream × FindsOut becomes stamp a p b stream
Hands becomes stamp a p first b (Err e) = (rows : Bool) → GoesToAnswer becomes stamp a (p rows) b (Err e)

-- What comes where the rest is taken.
abbrev pub TakesOn : {D : Type 0} → (D → List Event → D → Type 0) → Stamp → D → (p : (rows : Bool) → Place (Asked rows)) → (first : List RawMessage → First (Unit {0}) (Unit {0})) → D → Stage → Poll (Result RowStream Error) → Type 0
TakesOn becomes stamp a p first b new r = MatchPoll r (λ x. HandsRest becomes stamp a p first b x) (Waits becomes stamp a (p true) first b new × WaitsToo becomes stamp a p b new × IsLiveAt new)

-- What a poll comes to, by where it began.
abbrev pub Polls : {D : Type 0} → (D → List Event → D → Type 0) → Stamp → D → (p : (rows : Bool) → Place (Asked rows)) → (first : Bool → List RawMessage → First (Unit {0}) (Unit {0})) → D → Stage → Poll (Result RowStream Error) → Type 0
Polls becomes stamp a p first b new r = MatchPoll r (λ x. Hands becomes stamp a p first b x) (Waits becomes stamp a (p true) (first true) b new × WaitsToo becomes stamp a p b new × IsLiveAt new)

-- The request was booked whose columns are awaited, or an error comes.
abbrev pub Books : {D : Type 0} → (D → List Event → D → Type 0) → Stamp → D → (p : (rows : Bool) → Place (Asked rows)) → D → Result Heads Error → Type 0
Books becomes stamp a p b (Ok s) = ((rows rest : Bool) → GoesFor becomes stamp a (alone (p rows) (opens_first rest)) b (alone ((heads rows s).place (behind_columns rows)) (opens_first rest))) × (s.batch ≡ [])
Books becomes stamp a p b (Err e) = (rows : Bool) → GoesToAnswer becomes stamp a (p rows) b (Err e)

-- The rows are read on, of which these messages came.
pub record ReadsOn (fields : List Field) (types : List PgType) (s : Heads) (stream : RowStream) : Type 0 where
  pub stands : rows_place stream ≡ record { dialogue = feed s.batch (reads false (rows_of fields types)); reads = s.id }
  pub statement : statement_of stream ≡ unnamed fields types
  pub left : unread stream ≡ s.batch
  pub live : rows_taken stream ≡ false
  pub begun : IsBegun stream

-- They are given of what was taken.
pub record GivesOn (fields : List Field) (types : List PgType) (ms : List RawMessage) (stream : RowStream) : Type 0 where
  pub stands : (rows_place stream).dialogue ≡ had_of true fields ms types
  pub statement : statement_of stream ≡ unnamed fields types
  pub left : unread stream ≡ ms
  pub taken : rows_taken stream ≡ true
  pub begun : IsBegun stream

-- a stream that has these messages, at the answer of one who collects it, and of one who only finds out what its rows are
pub record Found {D : Type 0} (becomes : D → List Event → D → Type 0) (stamp : Stamp) (a : D) (p : (rows : Bool) → Place (Asked rows)) (ms : List RawMessage) (b : D) (stream : RowStream) : Type 0 where
  pub reads : ℕ
  pub goes : Goes becomes stamp a (p true) b (record { dialogue = (rows_place stream).dialogue; reads = reads })
  pub finds : FindsOut becomes stamp a p b stream
  pub left : unread stream ≡ ms
  pub taken : rows_taken stream ≡ true
  pub begun : IsBegun stream

-- it, or an error
abbrev pub Finishes : {D : Type 0} → (D → List Event → D → Type 0) → Stamp → D → (p : (rows : Bool) → Place (Asked rows)) → List RawMessage → D → Result RowStream Error → Type 0
Finishes becomes stamp a p ms b (Ok stream) = Found becomes stamp a p ms b stream
Finishes becomes stamp a p ms b (Err e) = (rows : Bool) → GoesToAnswer becomes stamp a (p rows) b (Err e)

-- one waits for types, with these messages
pub record FindsOn {D : Type 0} (becomes : D → List Event → D → Type 0) (stamp : Stamp) (a : D) (p : (rows : Bool) → Place (Asked rows)) (ms : List RawMessage) (b : D) (new : Stage) : Type 0 where
  pub pauses : (rows : Bool) → Pauses becomes stamp a (p rows) b (stage_place rows new)
  pub first : stage_first new true ≡ found_first ms
  pub live : IsLiveAt new
