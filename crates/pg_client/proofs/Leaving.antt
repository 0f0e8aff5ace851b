-- A simple query leaves no request open: it hangs up, or has read the ReadyForQuery.
use Rattle.std.proofs.Common.{◌≡◌, ℕ, length, List, [], ◌∷◌, Bool, true, false, ◌||◌, if◌then◌else◌, Option, Some, None, option_map, Result, Ok, Err, refl, sym, ap, ◌∙◌, subst, ◌==◌}
use Rattle.std.specs.List.{list_any}
use Rattle.std.specs.Prelude.{is_some}
use Rattle.std.specs.Str.{is_utf8}
use Rattle.pg_spec.specs.Bodies.{Field, fields_of, cells_of}
use Rattle.pg_spec.specs.Faults as spec
use Rattle.pg_spec.specs.Frames.{query_frame}
use Rattle.pg_spec.specs.Messages.{Message, ReadyForQuery, RowDescription, DataRow, CommandComplete, EmptyQueryResponse, ErrorResponse, message_of}
use Rattle.pg_spec.specs.RawMessages.{RawMessage, is_ready}
use Rattle.pg_spec.specs.Readings.{GoesOn, Answers, Decision, decision, decided_by, one_later}
use Rattle.pg_spec.specs.SimpleQuery.{Item, Complete, Row, SimpleAnswer, SimpleNext, SimpleState, adds, affected, reads_columns, reads_row, has_enough, simple_message, simple_next, simple_reading}
use Rattle.pg_desk.proofs.ReadyTags.{is_ready_message}
use Rattle.pg_types.specs.declared.error.Error.{Error}
use Rattle.pg_types.specs.declared.error.Error.TheVariants.{OutOfMemory}
use Rattle.pg_query.specs.Dialogue.{Dialogue, Answer}
use Rattle.pg_query.specs.Leaving.{Nothing, Request, IsLetGo, request_behind, LetsGo, AllOwed, AllLetGo}
use Rattle.pg_query.specs.Lives.{Turn, Lives, deeds}
use Rattle.pg_query.specs.Meaning.{Place}
use Rattle.pg_query.specs.Reading.{ends}
use Rattle.pg_query.specs.Requests.{reads_unless}
use Rattle.pg_query.specs.declared.simple_message.SimpleMessage.{SimpleMessage}
use Rattle.pg_query.proofs.LeavingLaws.{life-lets-go}
use Rattle.pg_client.specs.Simple.{answer_from, asks_by, told, simple_query}

pub or-first : (b c : Bool) → b ≡ true → (b || c) ≡ true
or-first true c h = refl
or-first false c h = absurd cc

pub or-second : (b c : Bool) → c ≡ true → (b || c) ≡ true
or-second true c h = refl
or-second false c h = h

-- it gives no items
abbrev GivesNone : SimpleNext → Type 0
GivesNone (GoesOn state) = Unit {0}
GivesNone (Answers (Ok items)) = ⊥
GivesNone (Answers (Err failure)) = Unit {0}

complete-none : (b : Bool) (state : SimpleState) (item : Item) (failure : spec.Failure) → GivesNone (if b then adds state item else Answers (Err failure))
complete-none true state item failure = tt
complete-none false state item failure = tt

columns-none : (state : SimpleState) (r : Result (List Field) spec.WireFault) → GivesNone (reads_columns state r)
columns-none state (Ok fields) = tt
columns-none state (Err fault) = tt

row-none : (state : SimpleState) (columns : Option ℕ) (r : Result (List (Option (List ℕ))) spec.WireFault) →
    GivesNone (elim columns as (λ _. SimpleNext) [ None ↦ Answers (Err spec.UnexpectedMessage) | Some n ↦ reads_row state n r ])
row-none state None r = tt
row-none state (Some n) (Ok cells) = complete-none (length cells == n) state (Row cells) (spec.Parse spec.FieldCount)
row-none state (Some n) (Err fault) = tt

-- only a ReadyForQuery gives the items
ready-gives : (state : SimpleState) (m : RawMessage) (items : List Item) → simple_next state m ≡ Answers (Ok items) → is_ready m ≡ true
ready-gives state m items h = by (message_of m) refl h
  where
    read : (x : Message) → message_of m ≡ Ok x → simple_message state x ≡ Answers (Ok items) → is_ready m ≡ true
    read (ReadyForQuery status) e k = is_ready_message m status e
    read (CommandComplete tag) e k = absurd (subst GivesNone k (complete-none (is_utf8 tag) state (Complete (affected tag)) (spec.Parse spec.NotText)))
    read (RowDescription count fields) e k = absurd (subst GivesNone k (columns-none state (fields_of count fields)))
    read (DataRow count cells) e k = absurd (subst GivesNone k (row-none state state.columns (cells_of count cells)))
    read EmptyQueryResponse e k = absurd (subst GivesNone k tt)
    read (ErrorResponse fields) e k = absurd (subst GivesNone k tt)
    read other e k = absurd (subst GivesNone k tt)

    by : (r : Result Message spec.WireFault) → message_of m ≡ r →
        (elim r as (λ _. SimpleNext) [ Ok message ↦ simple_message state message | Err fault ↦ Answers (Err (spec.Parse (spec.Wire fault))) ]) ≡ Answers (Ok items) →
        is_ready m ≡ true
    by (Ok message) e k = read message e k
    by (Err fault) e k = absurd (subst GivesNone k tt)

-- what is decided
abbrev answer_in : Option (Decision SimpleAnswer) → Option SimpleAnswer
answer_in o = option_map (λ d. d.answer) o

later-same : (o : Option (Decision SimpleAnswer)) → answer_in (option_map one_later o) ≡ answer_in o
later-same None = refl
later-same (Some d) = refl

decided-ready : (ms : List RawMessage) (state : SimpleState) (items : List Item) → answer_in (decision (has_enough None) simple_next state ms) ≡ Some (Ok items) →
    list_any is_ready ms ≡ true
decided-ready [] state items h = absurd cc
decided-ready (m ∷ ms) state items h = by (simple_next state m) refl h (λ next. decided-ready ms next items)
  where
    by : (n : SimpleNext) → simple_next state m ≡ n →
        answer_in (decided_by n (λ later. decision (has_enough None) simple_next later ms)) ≡ Some (Ok items) →
        ((next : SimpleState) → answer_in (decision (has_enough None) simple_next next ms) ≡ Some (Ok items) → list_any is_ready ms ≡ true) →
        (is_ready m || list_any is_ready ms) ≡ true
    by (Answers a) e k f =
        let same : a ≡ Ok items = cc in
        or-first (is_ready m) (list_any is_ready ms) (ready-gives state m items (e ∙ ap (λ (x : SimpleAnswer). let n : SimpleNext = Answers x in n) same))
    by (GoesOn next) e k f =
        or-second (is_ready m) (list_any is_ready ms) (f next (sym (later-same (decision (has_enough None) simple_next next ms)) ∙ k))

pub told-ready : (ms : List RawMessage) (parts : List SimpleMessage) → told None ms ≡ Some (Ok parts) → list_any is_ready ms ≡ true
told-ready ms parts h = by (simple_reading None ms) refl h
  where
    by : (o : Option SimpleAnswer) → simple_reading None ms ≡ o → option_map answer_from o ≡ Some (Ok parts) → list_any is_ready ms ≡ true
    by None e k = absurd cc
    by (Some (Ok items)) e k = decided-ready ms (record { columns = None; items = [] }) items e
    by (Some (Err failure)) e k = absurd cc

ends-free : (take : Option ℕ) (ms : List RawMessage) (o : Option (Result (List SimpleMessage) Error)) → told take ms ≡ o → is_some o ≡ true →
    LetsGo (request_behind (list_any is_ready ms)) (ends (is_some take) o)
ends-free None ms (Some (Ok parts)) e h = subst (λ (b : Bool). IsLetGo (request_behind b)) (sym (told-ready ms parts e)) tt
ends-free (Some n) ms (Some (Ok parts)) e h = tt
ends-free take ms (Some (Err failure)) e h = tt
ends-free take ms None e h = absurd cc

unless-free : (take : Option ℕ) (o : Option (Result (List SimpleMessage) Error)) → LetsGo Request (reads_unless (is_some take) (told take) o)
unless-free take (Some r) = tt
unless-free take None = λ ms h. ends-free take ms (told take ms) refl h

by-frame : (take : Option ℕ) (f : Result (List ℕ) spec.FrameFault) → LetsGo Nothing (asks_by take f)
by-frame take (Err fault) = tt
by-frame take (Ok frame) = (tt, unless-free take (told take []))

pub query-free : (text : List ℕ) (take : Option ℕ) → LetsGo Nothing (simple_query text take)
query-free text take = by-frame take (query_frame text)

pub query-lets-go : (text : List ℕ) (take : Option ℕ) (begin end : Place (List SimpleMessage)) (turns : List Turn) (r : Result (List SimpleMessage) Error) →
    begin.dialogue ≡ simple_query text take → Lives begin turns end → end.dialogue ≡ Answer r → (r ≡ Err OutOfMemory → ⊥) → AllOwed (deeds turns) → AllLetGo (deeds turns)
query-lets-go text take begin end turns r is l answered none owed =
    life-lets-go begin turns end r (subst (λ (d : Dialogue (List SimpleMessage)). LetsGo Nothing d) (sym is) (query-free text take)) l answered none owed
