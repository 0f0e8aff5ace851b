-- Some commands as dialogues, made small: a statement is prepared and queried by its slot, rows are copied into the server, a
-- transaction is begun and committed, and a simple query.
use Rattle.std.specs.Prelude.{ℕ, ◌==◌, List, [], ◌∷◌, ◌++◌, Bool, true, false, if◌then◌else◌, Option, Some, None, Result, Ok, Err, codes, decimal, pos}
use Rattle.std.specs.Str.{byte}
use Rattle.pg_spec.specs.Faults.{◌>>=◌, FrameFault}
use Rattle.pg_spec.specs.Frames.{parse_frame, describe_frame, bind_frame, execute_frame, query_frame, sync_frame, flush_frame, copy_data_frame, copy_done_frame, copy_fail_frame}
use Rattle.pg_spec.specs.SimpleQuery.{SimpleAnswer}
use Rattle.pg_spec.specs.Dialogues.{Dialogue, Answers, Asks, Sends, Puts, Closes, Calls, behind}
use Rattle.pg_spec.specs.Meanings.{Ending, Meaning}
use Rattle.pg_spec.specs.Simples.{Simply, simple_query}
use Rattle.pg_promises.specs.Words.{Question, NextStatement, TypeOf, SetType, Told, Number, Named, tells}
use Rattle.pg_promises.specs.Readings.{Cells, Talk, reads, described, all_rows, found, opened, counted}

-- what a script asks for
pub data Command : Type 0 where
  Simple : (text : List ℕ) → (take : Option ℕ) → Command
  Prepare : (slot : ℕ) → (text : List ℕ) → Command
  Query : (slot : ℕ) → Command
  CopyIn : (slot : ℕ) → (pieces : List (List ℕ)) → Command
  Begin : Command
  Commit : Command

-- what a command answers
pub data Answer : Type 0 where
  Messages : SimpleAnswer → Answer
  Prepared : (name : List ℕ) → (types : List (List ℕ)) → Answer
  Rows : List Cells → Answer
  Count : ℕ → Answer
  Done : Answer
  Failed : Answer

-- a statement that was prepared, with the names of its columns' types
pub record Statement : Type 0 where
  pub name : List ℕ
  pub types : List (List ℕ)

-- what a script has: its statements by their slots, the last first, and whether a transaction is open
pub record Own : Type 0 where
  pub statements : List (ℕ × Statement)
  pub is_open : Bool

-- ---- how dialogues are put together

-- a failure is the whole answer
abbrev pub or_failed : {A T : Type 0} → (A → Talk T) → Option A → Talk T
or_failed next (Some x) = next x
or_failed next None = Answers None

-- one, and another behind its value
abbrev pub then_do : {A T : Type 0} → Talk A → (A → Talk T) → Talk T
then_do d next = behind d (or_failed next)

-- a request, where it can be written
abbrev pub asks_for : {T : Type 0} → (copying : Bool) → Result (List ℕ) FrameFault → Talk T → Talk T
asks_for copying (Ok request) d = Asks copying request d
asks_for copying (Err fault) d = Answers None

-- ---- a statement is prepared

-- the name of a statement
abbrev pub statement_name : ℕ → List ℕ
statement_name n = byte "s" ∷ decimal n

-- Parse, Describe, Sync
abbrev pub prepare_request : (n : ℕ) → (text : List ℕ) → Result (List ℕ) FrameFault
prepare_request n text =
    parse_frame (statement_name n) text [] >>= λ parse.
    describe_frame (byte "S") (statement_name n) >>= λ describe.
    Ok (parse ++ describe ++ sync_frame)

-- the request that looks a type up
abbrev pub lookup_request : ℕ → Result (List ℕ) FrameFault
lookup_request oid = query_frame (codes "SELECT typname FROM pg_type WHERE oid = " ++ decimal oid)

-- the server's name of a type, which the desk is to keep
abbrev pub looked_up : ℕ → Talk (List ℕ)
looked_up oid = then_do (asks_for false (lookup_request oid) (reads found tt)) (λ name. Calls (SetType oid name) (λ told. Answers (Some name)))

-- the desk's name, or the server's
abbrev pub or_looked_up : ℕ → Told → Talk (List ℕ)
or_looked_up oid (Named (Some name)) = Answers (Some name)
or_looked_up oid (Named None) = looked_up oid
or_looked_up oid (Number n) = Answers None

-- the name of a type: int4's is known, the desk may have it, or it is looked up
abbrev pub type_name : ℕ → Talk (List ℕ)
type_name oid = if oid == 23 then Answers (Some (codes "int4")) else Calls (TypeOf oid) (or_looked_up oid)

-- the names of these types, behind those that were found
abbrev pub type_names : List ℕ → List (List ℕ) → Talk (List (List ℕ))
type_names [] names = Answers (Some names)
type_names (oid ∷ oids) names = then_do (type_name oid) (λ name. type_names oids (names ++ name ∷ []))

-- by the number that was drawn
abbrev pub prepare_by : (text : List ℕ) → Told → Talk Statement
prepare_by text (Number n) = then_do (asks_for false (prepare_request n text) (reads described tt)) (λ oids.
    then_do (type_names oids []) (λ names. Answers (Some (record { name = statement_name n; types = names }))))
prepare_by text (Named name) = Answers None

-- a text is prepared, and the types of its columns are found
abbrev pub prepare : (text : List ℕ) → Talk Statement
prepare text = Calls NextStatement (prepare_by text)

-- ---- a statement is queried

-- Bind of no values, Execute, and what ends the request
abbrev pub run_request : (ends : List ℕ) → Statement → Result (List ℕ) FrameFault
run_request ends s =
    bind_frame [] s.name [] [] (pos 1) >>= λ bind.
    execute_frame [] (pos 0) >>= λ execute.
    Ok (bind ++ execute ++ ends)

-- its rows are asked for
abbrev pub query : Statement → Talk (List Cells)
query s = asks_for false (run_request sync_frame s) (reads all_rows [])

-- ---- rows are copied into the server

-- CopyDone, Sync
abbrev pub ending : List ℕ
ending = copy_done_frame ++ sync_frame

-- CopyFail of an empty text, Sync
abbrev pub failing : List ℕ
failing = elim (copy_fail_frame []) [ Ok frame ↦ frame ++ sync_frame | Err fault ↦ [] ]

-- a part, where it can be written
abbrev pub puts_framed : Result (List ℕ) FrameFault → Talk ℕ → Talk ℕ
puts_framed (Ok part) d = Puts part d
puts_framed (Err fault) d = Closes failing (Answers None)

-- the pieces go out, and then the copy ends
abbrev pub puts : List (List ℕ) → Talk ℕ
puts [] = Closes ending (reads counted tt)
puts (piece ∷ pieces) = puts_framed (copy_data_frame piece) (puts pieces)

-- once the opening is answered; a refused one is ended by a failure
abbrev pub once_opened : List (List ℕ) → Option (Unit {0}) → Talk ℕ
once_opened pieces (Some u) = puts pieces
once_opened pieces None = Closes failing (Answers None)

-- these pieces are copied by a statement
abbrev pub copy_in : Statement → List (List ℕ) → Talk ℕ
copy_in s pieces = asks_for true (run_request flush_frame s) (behind (reads opened tt) (once_opened pieces))

-- ---- transactions

-- where it can be written, a request whose reply nobody reads
abbrev pub sends_framed : {T : Type 0} → Result (List ℕ) FrameFault → Talk T → Talk T
sends_framed (Ok request) d = Sends request d
sends_framed (Err fault) d = d

-- a begin that the server refuses is rolled back
abbrev pub or_rollback : Option ℕ → Talk ℕ
or_rollback (Some n) = Answers (Some n)
or_rollback None = sends_framed (query_frame (codes "ROLLBACK")) (Answers None)

-- a transaction is begun
abbrev pub begin : Talk ℕ
begin = behind (asks_for false (query_frame (codes "BEGIN")) (reads counted tt)) or_rollback

-- it is committed, where one is open
abbrev pub commit : (is_open : Bool) → Talk ℕ
commit is_open = if is_open then asks_for false (query_frame (codes "COMMIT")) (reads counted tt) else Answers None

-- ---- what commands mean

-- a command's dialogue, with what its script has behind it
abbrev pub Line : Type 0
Line = Dialogue Question Told (Ending Answer Own)

-- an answer that leaves its script as it was
abbrev pub keeps : Own → Answer → Line
keeps own answer = Answers (record { answer = answer; own = own })

-- a value's answer, or a failure
abbrev pub gives : {A : Type 0} → Own → (A → Line) → Talk A → Line
gives own line d = behind d (λ r. elim r [ Some x ↦ line x | None ↦ keeps own Failed ])

-- the statement in a slot
abbrev pub in_slot : ℕ → List (ℕ × Statement) → Option Statement
in_slot slot [] = None
in_slot slot (s ∷ statements) = if s.0 == slot then Some s.1 else in_slot slot statements

-- on that statement, or a failure
abbrev pub on : Own → (slot : ℕ) → (Statement → Line) → Line
on own slot line = elim (in_slot slot own.statements) [ Some s ↦ line s | None ↦ keeps own Failed ]

-- what each asks and answers, by what its script has
abbrev pub asks : Own → Command → Line
asks own (Simple text take) = behind (simple_query text take) (λ r. keeps own (Messages r))
asks own (Prepare slot text) = gives own (λ s. Answers (record { answer = Prepared s.name s.types; own = record own { statements = (slot, s) ∷ own.statements } })) (prepare text)
asks own (Query slot) = on own slot (λ s. gives own (λ rows. keeps own (Rows rows)) (query s))
asks own (CopyIn slot pieces) = on own slot (λ s. gives own (λ n. keeps own (Count n)) (copy_in s pieces))
asks own Begin = gives own (λ n. Answers (record { answer = Done; own = record own { is_open = true } })) begin
asks own Commit = gives own (λ n. Answers (record { answer = Done; own = record own { is_open = false } })) (commit own.is_open)

-- what a script has at first
abbrev pub new : Own
new = record { statements = []; is_open = false }

-- what they mean
abbrev pub meaning : Meaning Command Answer Own Question Told
meaning = record { begins = new; asks = asks; tells = tells }

-- which of them are simple queries
abbrev pub simple_of : Command → Option (List ℕ × Option ℕ)
simple_of (Simple text take) = Some (text, take)
simple_of other = None

-- and how their answers are told
abbrev pub simply : Simply Command Answer
simply = record { simple = simple_of; said = Messages }

-- ---- what a command names of what its script has

-- a statement, and whether a transaction is open
pub record Names : Type 0 where
  pub statement : Option Statement
  pub is_open : Bool

-- a command on a statement names it, and a commit whether a transaction is open
abbrev pub named : Command → Own → Names
named (Query slot) own = record { statement = in_slot slot own.statements; is_open = false }
named (CopyIn slot pieces) own = record { statement = in_slot slot own.statements; is_open = false }
named Commit own = record { statement = None; is_open = own.is_open }
named other own = record { statement = None; is_open = false }
