-- What a message tells of the reply to a simple query.
use Rattle.std.proofs.Common.{◌≡◌, ℕ, List, [], ◌∷◌, map, length, Bool, true, false, Option, Some, None, is_some, option_map, Result, Ok, Err, refl, sym, ap, ◌∙◌, subst, if◌then◌else◌, nat_le}
use Rattle.pg_spec.specs.Faults as spec
use Rattle.pg_spec.specs.Messages.{message_of}
use Rattle.pg_spec.specs.RawMessages.{RawMessage}
use Rattle.pg_spec.specs.Readings.{GoesOn, Answers, Decision, decision, decided_by, stands_or, one_later}
use Rattle.pg_spec.specs.SimpleQuery.{Item, SimpleAnswer, SimpleState, SimpleNext, has_enough, simple_next, simple_message}
use Rattle.pg_wire.specs.Faults.{wire_fault}
use Rattle.pg_wire.specs.Messages.{message_view}
use Rattle.pg_wire.specs.declared.body.CommandCompleteBody.{CommandCompleteBody}
use Rattle.pg_wire.specs.declared.body.DataRowBody.{DataRowBody}
use Rattle.pg_wire.specs.declared.body.ErrorResponseBody.{ErrorResponseBody}
use Rattle.pg_wire.specs.declared.body.ReadyForQueryBody.{ReadyForQueryBody}
use Rattle.pg_wire.specs.declared.body.RowDescriptionBody.{RowDescriptionBody}
use Rattle.pg_types.specs.declared.faults.WireFault.{WireFault}
use Rattle.pg_wire.specs.declared.message.Message.{Message}
use Rattle.pg_wire.specs.declared.message.Message.TheVariants as wire
use Rattle.pg_types.specs.declared.error.Error.{Error}
use Rattle.pg_types.specs.declared.error.Error.TheVariants.{UnexpectedMessage}
use Rattle.pg_query.specs.Messages.{IsMalformed}
use Rattle.pg_query.specs.Replies.{malformed_error}
use Rattle.pg_query.specs.declared.simple_message.SimpleMessage.{SimpleMessage}
use Rattle.pg_query.specs.declared.simple_message.SimpleMessage.TheVariants as simple
use Rattle.pg_client.specs.Simple.{item_of, message_from, answer_from, told_from, FailsBy}

-- a message of another kind has no place in the reply
pub other-message : (state : SimpleState) (m : Message) → ((b : CommandCompleteBody) → m ≡ wire.CommandComplete b → ⊥) → ((b : DataRowBody) → m ≡ wire.DataRow b → ⊥) →
    (m ≡ wire.EmptyQueryResponse → ⊥) → ((b : ErrorResponseBody) → m ≡ wire.ErrorResponse b → ⊥) → ((b : ReadyForQueryBody) → m ≡ wire.ReadyForQuery b → ⊥) →
    ((b : RowDescriptionBody) → m ≡ wire.RowDescription b → ⊥) → FailsBy (simple_message state (message_view m)) UnexpectedMessage
other-message state (wire.CommandComplete b) c d i e z t = absurd (c b refl)
other-message state (wire.DataRow b) c d i e z t = absurd (d b refl)
other-message state wire.EmptyQueryResponse c d i e z t = absurd (i refl)
other-message state (wire.ErrorResponse b) c d i e z t = absurd (e b refl)
other-message state (wire.ReadyForQuery b) c d i e z t = absurd (z b refl)
other-message state (wire.RowDescription b) c d i e z t = absurd (t b refl)
other-message state m c d i e z t = refl

-- parts of an answer stand for their items
from-of : (parts : List SimpleMessage) → map message_from (map item_of parts) ≡ parts
from-of [] = refl
from-of (simple.Columns names ∷ parts) = ap (λ (l : List SimpleMessage). simple.Columns names ∷ l) (from-of parts)
from-of (simple.Row cells ∷ parts) = ap (λ (l : List SimpleMessage). simple.Row cells ∷ l) (from-of parts)
from-of (simple.Complete n ∷ parts) = ap (λ (l : List SimpleMessage). simple.Complete n ∷ l) (from-of parts)

-- what is decided, as the caller is told it
abbrev telling : Option (Decision SimpleAnswer) → Option (Result (List SimpleMessage) Error)
telling d = option_map answer_from (option_map (λ k. k.answer) d)

later-same : (d : Option (Decision SimpleAnswer)) → telling (option_map one_later d) ≡ telling d
later-same None = refl
later-same (Some d) = refl

-- what the message does, where no answer stands yet
by-next : (take : Option ℕ) (state : SimpleState) (raw : RawMessage) (ms : List RawMessage) (n : SimpleNext) → has_enough take state ≡ None → simple_next state raw ≡ n →
    told_from take state (raw ∷ ms) ≡ telling (decided_by n (λ later. decision (has_enough take) simple_next later ms))
by-next take state raw ms n none is =
    ap (λ (o : Option SimpleAnswer). telling (stands_or o (decided_by (simple_next state raw) (λ later. decision (has_enough take) simple_next later ms)))) none
    ∙ ap (λ (k : SimpleNext). telling (decided_by k (λ later. decision (has_enough take) simple_next later ms))) is

abbrev no-answer : Option SimpleAnswer
no-answer = None

-- enough is there
enough-is : (take : Option ℕ) (state : SimpleState) → is_some (has_enough take state) ≡ true → has_enough take state ≡ Some (Ok state.items)
enough-is None state h = absurd cc
enough-is (Some n) state h = by-test (nat_le n (length state.items)) h
  where
    by-test : (b : Bool) → is_some (if b then Some (Ok state.items) else no-answer) ≡ true → (if b then Some (Ok state.items) else no-answer) ≡ Some (Ok state.items)
    by-test true h = refl
    by-test false h = absurd cc

pub not-enough : (take : Option ℕ) (state : SimpleState) → is_some (has_enough take state) ≡ false → has_enough take state ≡ None
not-enough take state h = by-none (has_enough take state) h
  where
    by-none : (o : Option SimpleAnswer) → is_some o ≡ false → o ≡ None
    by-none None h = refl
    by-none (Some a) h = absurd cc

-- an answer that stands is told
stands : (take : Option ℕ) (state : SimpleState) (ms : List RawMessage) (a : SimpleAnswer) → has_enough take state ≡ Some a → told_from take state ms ≡ Some (answer_from a)
stands take state [] a h = ap (λ (o : Option SimpleAnswer). telling (stands_or o None)) h
stands take state (m ∷ ms) a h =
    ap (λ (o : Option SimpleAnswer). telling (stands_or o (decided_by (simple_next state m) (λ later. decision (has_enough take) simple_next later ms)))) h

-- the parts that are there
pub told-enough : (take : Option ℕ) (state : SimpleState) (ms : List RawMessage) (parts : List SimpleMessage) → is_some (has_enough take state) ≡ true → state.items ≡ map item_of parts →
    told_from take state ms ≡ Some (Ok parts)
told-enough take state ms parts h is =
    stands take state ms (Ok state.items) (enough-is take state h)
    ∙ ap (λ (items : List Item). let a : Option (Result (List SimpleMessage) Error) = Some (Ok (map message_from items)) in a) is
    ∙ ap (λ (l : List SimpleMessage). let a : Option (Result (List SimpleMessage) Error) = Some (Ok l) in a) (from-of parts)

-- a malformed message
malformed-is : (o : Option spec.WireFault) (raw : RawMessage) (state : SimpleState) (e : Error) → IsMalformed raw o → Some e ≡ malformed_error o → FailsBy (simple_next state raw) e
malformed-is None raw state e m h = absurd m
malformed-is (Some c) raw state e m h =
    let same : e ≡ spec.Parse (spec.Wire c) = cc in
    let next : simple_next state raw ≡ Answers (Err (spec.Parse (spec.Wire c))) =
    ap (λ (r : Result _ _). elim r as (λ _. SimpleNext) [ Ok message ↦ simple_message state message | Err fault ↦ Answers (Err (spec.Parse (spec.Wire fault))) ]) m in
    subst (λ (n : SimpleNext). FailsBy n e) (sym next) same

-- what the message means is what it does
pub next-of : (state : SimpleState) (raw : RawMessage) (m : _) → message_of raw ≡ Ok m → simple_next state raw ≡ simple_message state m
next-of state raw m h = ap (λ (r : Result _ _). elim r as (λ _. SimpleNext) [ Ok message ↦ simple_message state message | Err fault ↦ Answers (Err (spec.Parse (spec.Wire fault))) ]) h

-- the message tells an error
pub told-fails : (take : Option ℕ) (state : SimpleState) (raw : RawMessage) (n : SimpleNext) (e : Error) → is_some (has_enough take state) ≡ false → simple_next state raw ≡ n → FailsBy n e →
    told_from take state (raw ∷ []) ≡ Some (Err e)
told-fails take state raw (GoesOn later) e none is h = absurd h
told-fails take state raw (Answers (Ok items)) e none is h = absurd h
told-fails take state raw (Answers (Err failure)) e none is h =
    by-next take state raw [] (Answers (Err failure)) (not-enough take state none) is
    ∙ ap (λ (x : Error). let a : Option (Result (List SimpleMessage) Error) = Some (Err x) in a) (sym h)

pub told-malformed : (take : Option ℕ) (state : SimpleState) (raw : RawMessage) (fault : WireFault) (e : Error) → is_some (has_enough take state) ≡ false →
    IsMalformed raw (wire_fault fault) → Some e ≡ malformed_error (wire_fault fault) → told_from take state (raw ∷ []) ≡ Some (Err e)
told-malformed take state raw fault e none means h =
    told-fails take state raw (simple_next state raw) e none refl (malformed-is (wire_fault fault) raw state e means h)

-- the message ends the reply
pub told-ends : (take : Option ℕ) (state : SimpleState) (raw : RawMessage) (items : List Item) (parts : List SimpleMessage) → is_some (has_enough take state) ≡ false →
    simple_next state raw ≡ Answers (Ok items) → items ≡ map item_of parts → told_from take state (raw ∷ []) ≡ Some (Ok parts)
told-ends take state raw items parts none is same =
    by-next take state raw [] (Answers (Ok items)) (not-enough take state none) is
    ∙ ap (λ (l : List Item). let a : Option (Result (List SimpleMessage) Error) = Some (Ok (map message_from l)) in a) same
    ∙ ap (λ (l : List SimpleMessage). let a : Option (Result (List SimpleMessage) Error) = Some (Ok l) in a) (from-of parts)

-- the reading goes on
pub told-later : (take : Option ℕ) (state later : SimpleState) (raw : RawMessage) (ms : List RawMessage) → is_some (has_enough take state) ≡ false →
    simple_next state raw ≡ GoesOn later → told_from take state (raw ∷ ms) ≡ told_from take later ms
told-later take state later raw ms none is =
    by-next take state raw ms (GoesOn later) (not-enough take state none) is ∙ later-same (decision (has_enough take) simple_next later ms)
