-- The whole life of a simple query.
use Rattle.std.proofs.Common.{◌≡◌, ◌⊎◌, inl, inr, ℕ, List, [], ◌∷◌, map, Option, Some, None, is_some, option_map, Result, Ok, Err, refl, sym, ap, ◌∙◌, subst}
use Rattle.pg_spec.specs.Faults as spec
use Rattle.pg_spec.specs.Frames.{query_frame}
use Rattle.pg_spec.specs.RawMessages.{RawMessage}
use Rattle.pg_spec.specs.Readings.{Decision, decision}
use Rattle.pg_spec.specs.SimpleQuery.{Item, Columns, Row, Complete, SimpleAnswer, has_enough, simple_next, simple_reading}
use Rattle.pg_types.specs.declared.error.Error.{Error}
use Rattle.pg_query.specs.Dialogue.{Answer}
use Rattle.pg_query.specs.Scripts.{IsRead}
use Rattle.pg_query.specs.Meaning.{Place}
use Rattle.pg_query.specs.Lives.{Turn, Lives, Deed, deeds, messages_taken}
use Rattle.pg_query.specs.Requests.{IsTold, IsRefused, BooksNone, Answers as AnswersAll}
use Rattle.pg_query.proofs.RequestLaws.{life-answers, life-awaits, life-still}
use Rattle.pg_query.specs.declared.simple_message.SimpleMessage.{SimpleMessage}
use Rattle.pg_client.specs.Simple.{item_of, message_from, answer_view, answer_from, told, asks_by, simple_query}
use Rattle.pg_client.specs.SimpleLife.{IsDecided, AnswersQuery, AnswersBy, AwaitsBy}

-- ---- an answer stands for its own meaning

-- items stand for themselves
of-from : (items : List Item) → map item_of (map message_from items) ≡ items
of-from [] = refl
of-from (Columns names ∷ items) = ap (λ (l : List Item). Columns names ∷ l) (of-from items)
of-from (Row cells ∷ items) = ap (λ (l : List Item). Row cells ∷ l) (of-from items)
of-from (Complete n ∷ items) = ap (λ (l : List Item). Complete n ∷ l) (of-from items)

view-from : (a : SimpleAnswer) → answer_view (answer_from a) ≡ a
view-from (Ok items) = ap (λ (l : List Item). let a : SimpleAnswer = Ok l in a) (of-from items)
view-from (Err failure) = refl

seen-back : (d : Option (Decision SimpleAnswer)) (r : Result (List SimpleMessage) Error) → option_map answer_from (option_map (λ k. k.answer) d) ≡ Some r →
    option_map (λ k. k.answer) d ≡ Some (answer_view r)
seen-back None r h = absurd cc
seen-back (Some d) r h =
    let same : answer_from d.answer ≡ r = cc in
    ap (λ (a : SimpleAnswer). Some a) (sym (view-from d.answer)) ∙ ap (λ (x : Result (List SimpleMessage) Error). Some (answer_view x)) same

none-back : (o : Option SimpleAnswer) → option_map answer_from o ≡ None → o ≡ None
none-back None h = refl
none-back (Some a) h = absurd cc

-- ---- the whole life

decided : (take : Option ℕ) (ms : List RawMessage) (r : Result (List SimpleMessage) Error) → IsTold (told take) ms r → IsDecided take ms r
decided take ms r h = record {
  front = h.front;
  is_front = h.is_front;
  decides = seen-back (decision (has_enough take) simple_next (record { columns = None; items = [] }) h.front) r h.tells;
}

answers-one : (take : Option ℕ) (frame : List ℕ) (done : List Deed) (r : Result (List SimpleMessage) Error) → AnswersAll (told take) frame done r → AnswersQuery take frame done r ⊎ BooksNone frame done r
answers-one take frame done r (inl h) = inl (record { booked = h.booked; decided = by-told h.told })
  where
    by-told : IsTold (told take) (messages_taken h.booked.after) r ⊎ IsRefused h.booked.after r → IsDecided take (messages_taken h.booked.after) r ⊎ IsRefused h.booked.after r
    by-told (inl t) = inl (decided take (messages_taken h.booked.after) r t)
    by-told (inr t) = inr t
answers-one take frame done r (inr h) = inr h

by-frame : (take : Option ℕ) (f : Result (List ℕ) spec.FrameFault) (begin end : Place (List SimpleMessage)) (turns : List Turn) (r : Result (List SimpleMessage) Error) →
    begin.dialogue ≡ asks_by take f → Lives begin turns end → end.dialogue ≡ Answer r → AnswersBy take f (deeds turns) r
by-frame take (Err fault) begin end turns r is l answered =
    let s = life-still (Err (spec.Encode (spec.Frame fault))) begin turns end is l in
    let c : Answer r ≡ Answer (Err (spec.Encode (spec.Frame fault))) = sym answered ∙ s.1 in
    (s.0, cc)
by-frame take (Ok frame) begin end turns r is l answered = answers-one take frame (deeds turns) r (life-answers (is_some take) frame (told take) begin turns end is l r answered)

pub query-answers : (text : List ℕ) (take : Option ℕ) (begin end : Place (List SimpleMessage)) (turns : List Turn) (r : Result (List SimpleMessage) Error) →
    begin.dialogue ≡ simple_query text take → Lives begin turns end → end.dialogue ≡ Answer r → AnswersBy take (query_frame text) (deeds turns) r
query-answers text take begin end turns r is l answered = by-frame take (query_frame text) begin end turns r is l answered

awaits-by : (take : Option ℕ) (f : Result (List ℕ) spec.FrameFault) (begin end : Place (List SimpleMessage)) (turns : List Turn) →
    begin.dialogue ≡ asks_by take f → Lives begin turns end → IsRead end.dialogue → AwaitsBy take f (deeds turns)
awaits-by take (Err fault) begin end turns is l reads-there =
    subst IsRead (life-still (Err (spec.Encode (spec.Frame fault))) begin turns end is l).1 reads-there
awaits-by take (Ok frame) begin end turns is l reads-there =
    let h = life-awaits (is_some take) frame (told take) begin turns end is l reads-there in
    record { booked = h.booked; undecided = λ front f. none-back (simple_reading take front) (h.undecided front f) }

pub query-awaits : (text : List ℕ) (take : Option ℕ) (begin end : Place (List SimpleMessage)) (turns : List Turn) →
    begin.dialogue ≡ simple_query text take → Lives begin turns end → IsRead end.dialogue → AwaitsBy take (query_frame text) (deeds turns)
query-awaits text take begin end turns is l reads-there = awaits-by take (query_frame text) begin end turns is l reads-there
