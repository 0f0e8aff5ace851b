-- What a message tells of a reply that is read for its end alone, and the whole life of a command that reads one.
use Rattle.std.proofs.Common.{◌≡◌, ℕ, List, [], ◌∷◌, Bool, true, false, ◌||◌, ◌&&◌, if◌then◌else◌, Option, Some, None, Result, Ok, Err, refl, sym, ap, ◌∙◌, subst}
use Rattle.std.specs.Prelude.{is_some}
use Rattle.std.specs.List.{list_any}
use Rattle.pg_spec.specs.Faults as spec
use Rattle.pg_spec.specs.Frames.{query_frame, sync_frame}
use Rattle.pg_spec.specs.Messages.{Message, ReadyForQuery, message_of}
use Rattle.pg_spec.specs.RawMessages.{RawMessage, is_ready}
use Rattle.pg_wire.specs.Faults.{wire_fault}
use Rattle.pg_wire.specs.Messages.{message_view}
use Rattle.pg_wire.specs.declared.body.CommandCompleteBody.{CommandCompleteBody}
use Rattle.pg_wire.specs.declared.body.DataRowBody.{DataRowBody}
use Rattle.pg_wire.specs.declared.body.ErrorResponseBody.{ErrorResponseBody}
use Rattle.pg_wire.specs.declared.body.ReadyForQueryBody.{ReadyForQueryBody}
use Rattle.pg_wire.specs.declared.body.RowDescriptionBody.{RowDescriptionBody}
use Rattle.pg_wire.specs.declared.message.Message as wire
use Rattle.pg_wire.specs.declared.message.Message.TheVariants as received
use Rattle.pg_desk.proofs.ReadyTags.{is_ready_message}
use Rattle.pg_types.specs.declared.faults.WireFault.{WireFault}
use Rattle.pg_types.specs.declared.error.Error.{Error}
use Rattle.pg_types.specs.declared.error.Error.TheVariants.{OutOfMemory, UnexpectedMessage}
use Rattle.pg_query.specs.Dialogue.{Dialogue, Answer}
use Rattle.pg_query.specs.Leaving.{Nothing, IsLetGo, request_behind, LetsGo, AllOwed, AllLetGo}
use Rattle.pg_query.specs.Lives.{Turn, Lives, deeds}
use Rattle.pg_query.specs.Meaning.{Place}
use Rattle.pg_query.specs.Messages.{IsMalformed}
use Rattle.pg_query.specs.Reading.{ends}
use Rattle.pg_query.specs.Replies.{malformed_error}
use Rattle.pg_query.specs.Requests.{Answers, Awaits, asks}
use Rattle.pg_query.specs.Scripts.{IsRead}
use Rattle.pg_query.proofs.LeavingLaws.{life-lets-go}
use Rattle.pg_query.proofs.RequestLaws.{life-answers, life-awaits, life-still}
use Rattle.pg_client.specs.Done.{told_by, is_of_result, done_message, done_next, done_reading, batch_reading, check_reading, batch_by, batch_execute, check_connection, AnswersBatch, AwaitsBatch}
use Rattle.pg_client.proofs.Leaving.{or-first, or-second}

abbrev Told : Type 0
Told = Result (Unit {0}) Error

-- ---- a message

-- any other message isn't of a result
pub other-result : (m : wire.Message) → ((b : CommandCompleteBody) → m ≡ received.CommandComplete b → ⊥) → ((b : DataRowBody) → m ≡ received.DataRow b → ⊥) →
    (m ≡ received.EmptyQueryResponse → ⊥) → ((b : RowDescriptionBody) → m ≡ received.RowDescription b → ⊥) → false ≡ is_of_result (message_view m)
other-result (received.CommandComplete b) c d i t = absurd (c b refl)
other-result (received.DataRow b) c d i t = absurd (d b refl)
other-result received.EmptyQueryResponse c d i t = absurd (i refl)
other-result (received.RowDescription b) c d i t = absurd (t b refl)
other-result m c d i t = refl

-- any other message has no place there
pub other-told : (m : wire.Message) → ((b : ErrorResponseBody) → m ≡ received.ErrorResponse b → ⊥) → ((b : ReadyForQueryBody) → m ≡ received.ReadyForQuery b → ⊥) →
    Err UnexpectedMessage ≡ told_by (message_view m)
other-told (received.ErrorResponse b) e z = absurd (e b refl)
other-told (received.ReadyForQuery b) e z = absurd (z b refl)
other-told m e z = refl

-- what is told of a message, where the later ones tell this
abbrev first_of : Option Told → Option Told → Option Told
first_of later o = elim o as (λ _. Option Told) [ None ↦ later | Some r ↦ Some r ]

-- what the message means is what it tells
next-of : (results : Bool) (raw : RawMessage) (m : Message) → message_of raw ≡ Ok m → done_next results raw ≡ done_message results m
next-of results raw m e =
    ap (λ (r : Result Message spec.WireFault). elim r as (λ _. Option Told) [ Ok message ↦ done_message results message | Err fault ↦ Some (Err (spec.Parse (spec.Wire fault))) ]) e

-- it is passed over
pub done-passes : (results : Bool) (raw : RawMessage) (m : Message) (ms : List RawMessage) → message_of raw ≡ Ok m → (results && is_of_result m) ≡ true →
    done_reading results (raw ∷ ms) ≡ done_reading results ms
done-passes results raw m ms means passed =
    ap (first_of (done_reading results ms)) (next-of results raw m means ∙ ap (λ (b : Bool). if b then None else Some (told_by m)) passed)

-- it tells the answer
pub done-tells : (results : Bool) (raw : RawMessage) (m : Message) (r : Told) → message_of raw ≡ Ok m → (results && is_of_result m) ≡ false → r ≡ told_by m →
    done_reading results (raw ∷ []) ≡ Some r
done-tells results raw m r means passed told =
    ap (first_of None) (next-of results raw m means ∙ ap (λ (b : Bool). if b then None else Some (told_by m)) passed)
    ∙ ap (λ (x : Told). Some x) (sym told)

-- a malformed message is the answer
pub done-malformed : (results : Bool) (raw : RawMessage) (fault : WireFault) (e : Error) → IsMalformed raw (wire_fault fault) → Some e ≡ malformed_error (wire_fault fault) →
    done_reading results (raw ∷ []) ≡ Some (Err e)
done-malformed results raw fault e = by (wire_fault fault)
  where
    by : (o : Option spec.WireFault) → IsMalformed raw o → Some e ≡ malformed_error o → done_reading results (raw ∷ []) ≡ Some (Err e)
    by None m h = absurd m
    by (Some c) m h =
        let same : e ≡ spec.Parse (spec.Wire c) = cc in
        ap (λ (r : Result Message spec.WireFault). first_of None (elim r as (λ _. Option Told) [ Ok message ↦ done_message results message | Err fault ↦ Some (Err (spec.Parse (spec.Wire fault))) ])) m
        ∙ ap (λ (x : Error). let t : Option Told = Some (Err x) in t) (sym same)

-- ---- no request is left open

-- it tells that the reply is done
abbrev IsDone : Option Told → Type 0
IsDone (Some (Ok x)) = Unit {0}
IsDone _ = ⊥

-- only a ReadyForQuery tells it
ready-tells : (results : Bool) (m : RawMessage) (x : Unit {0}) → done_next results m ≡ Some (Ok x) → is_ready m ≡ true
ready-tells results m x h = by (message_of m) refl (subst IsDone (sym h) tt)
  where
    read : (b : Bool) (n : Message) → message_of m ≡ Ok n → IsDone (if b then None else Some (told_by n)) → is_ready m ≡ true
    read true n e k = absurd k
    read false (ReadyForQuery status) e k = is_ready_message m status e
    read false other e k = absurd k

    by : (r : Result Message spec.WireFault) → message_of m ≡ r →
        IsDone (elim r as (λ _. Option Told) [ Ok message ↦ done_message results message | Err fault ↦ Some (Err (spec.Parse (spec.Wire fault))) ]) →
        is_ready m ≡ true
    by (Ok n) e k = read (results && is_of_result n) n e k
    by (Err fault) e k = absurd k

ready-among : (results : Bool) (ms : List RawMessage) (x : Unit {0}) → done_reading results ms ≡ Some (Ok x) → list_any is_ready ms ≡ true
ready-among results [] x h = absurd cc
ready-among results (m ∷ ms) x h = by (done_next results m) refl h (ready-among results ms x)
  where
    by : (o : Option Told) → done_next results m ≡ o → first_of (done_reading results ms) o ≡ Some (Ok x) →
        (done_reading results ms ≡ Some (Ok x) → list_any is_ready ms ≡ true) → (is_ready m || list_any is_ready ms) ≡ true
    by None e k f = or-second (is_ready m) (list_any is_ready ms) (f k)
    by (Some r) e k f = or-first (is_ready m) (list_any is_ready ms) (ready-tells results m x (e ∙ k))

ends-free : (results : Bool) (ms : List RawMessage) (o : Option Told) → done_reading results ms ≡ o → is_some o ≡ true → LetsGo (request_behind (list_any is_ready ms)) (ends false o)
ends-free results ms (Some (Ok x)) e h = subst (λ (b : Bool). IsLetGo (request_behind b)) (sym (ready-among results ms x e)) tt
ends-free results ms (Some (Err failure)) e h = tt
ends-free results ms None e h = absurd cc

pub done-free : (results : Bool) (frame : List ℕ) → LetsGo Nothing (asks false frame (done_reading results))
done-free results frame = (tt, λ ms h. ends-free results ms (done_reading results ms) refl h)

pub batch-free : (f : Result (List ℕ) spec.FrameFault) → LetsGo Nothing (batch_by f)
batch-free (Err fault) = tt
batch-free (Ok frame) = done-free true frame

pub batch-lets-go : (text : List ℕ) (begin end : Place (Unit {0})) (turns : List Turn) (r : Told) →
    begin.dialogue ≡ batch_execute text → Lives begin turns end → end.dialogue ≡ Answer r → (r ≡ Err OutOfMemory → ⊥) → AllOwed (deeds turns) → AllLetGo (deeds turns)
batch-lets-go text begin end turns r is l answered none owed =
    life-lets-go begin turns end r (subst (λ (d : Dialogue (Unit {0})). LetsGo Nothing d) (sym is) (batch-free (query_frame text))) l answered none owed

pub check-lets-go : (begin end : Place (Unit {0})) (turns : List Turn) (r : Told) →
    begin.dialogue ≡ check_connection → Lives begin turns end → end.dialogue ≡ Answer r → (r ≡ Err OutOfMemory → ⊥) → AllOwed (deeds turns) → AllLetGo (deeds turns)
check-lets-go begin end turns r is l answered none owed =
    life-lets-go begin turns end r (subst (λ (d : Dialogue (Unit {0})). LetsGo Nothing d) (sym is) (done-free false sync_frame)) l answered none owed

-- ---- the whole life

answers-by : (f : Result (List ℕ) spec.FrameFault) (begin end : Place (Unit {0})) (turns : List Turn) (r : Told) →
    begin.dialogue ≡ batch_by f → Lives begin turns end → end.dialogue ≡ Answer r → AnswersBatch f (deeds turns) r
answers-by (Err fault) begin end turns r is l answered =
    let s = life-still (Err (spec.Encode (spec.Frame fault))) begin turns end is l in
    let c : Answer r ≡ Answer (Err (spec.Encode (spec.Frame fault))) = sym answered ∙ s.1 in
    (s.0, cc)
answers-by (Ok frame) begin end turns r is l answered = life-answers false frame batch_reading begin turns end is l r answered

pub batch-answers : (text : List ℕ) (begin end : Place (Unit {0})) (turns : List Turn) (r : Told) →
    begin.dialogue ≡ batch_execute text → Lives begin turns end → end.dialogue ≡ Answer r → AnswersBatch (query_frame text) (deeds turns) r
batch-answers text begin end turns r is l answered = answers-by (query_frame text) begin end turns r is l answered

awaits-by : (f : Result (List ℕ) spec.FrameFault) (begin end : Place (Unit {0})) (turns : List Turn) →
    begin.dialogue ≡ batch_by f → Lives begin turns end → IsRead end.dialogue → AwaitsBatch f (deeds turns)
awaits-by (Err fault) begin end turns is l reads-there = subst IsRead (life-still (Err (spec.Encode (spec.Frame fault))) begin turns end is l).1 reads-there
awaits-by (Ok frame) begin end turns is l reads-there = life-awaits false frame batch_reading begin turns end is l reads-there

pub batch-awaits : (text : List ℕ) (begin end : Place (Unit {0})) (turns : List Turn) →
    begin.dialogue ≡ batch_execute text → Lives begin turns end → IsRead end.dialogue → AwaitsBatch (query_frame text) (deeds turns)
batch-awaits text begin end turns is l reads-there = awaits-by (query_frame text) begin end turns is l reads-there

pub check-answers : (begin end : Place (Unit {0})) (turns : List Turn) (r : Told) →
    begin.dialogue ≡ check_connection → Lives begin turns end → end.dialogue ≡ Answer r → Answers check_reading sync_frame (deeds turns) r
check-answers begin end turns r is l answered = life-answers false sync_frame check_reading begin turns end is l r answered

pub check-awaits : (begin end : Place (Unit {0})) (turns : List Turn) →
    begin.dialogue ≡ check_connection → Lives begin turns end → IsRead end.dialogue → Awaits check_reading sync_frame (deeds turns)
check-awaits begin end turns is l reads-there = life-awaits false sync_frame check_reading begin turns end is l reads-there
