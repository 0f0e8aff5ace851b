-- A turn of the connection keeps what holds of a session.
use Rattle.std.proofs.Common.{◌≡◌, ◌⊎◌, inl, inr, ℕ, suc, ◌<◌, ◌≤◌, List, ◌++◌, length, Bool, true, false, Option, Some, None, Result, Ok, Err, sym, ap, subst, ◌∙◌, arith}
use Rattle.std.proofs.lemmas.List.{length-append}
use Rattle.futures.specs.declared.task.Poll.{Poll}
use Rattle.futures.specs.declared.task.Poll.TheVariants.{Ready, Pending}
use Rattle.pg_spec.specs.Links.{LinkView}
use Rattle.pg_spec.specs.RawMessages.{RawMessage}
use Rattle.pg_spec.specs.Turns.{delivered_before, turn_of}
use Rattle.pg_spec.specs.declared.stamps.TurnMark.{TurnMark}
use Rattle.pg_connect.proofs.Joining.{risen_then}
use Rattle.pg_connect.specs.Answers.{PollAnswers}
use Rattle.pg_connect.specs.Ends.{has_no_more, last_is}
use Rattle.pg_connect.specs.Passed.{AllEngineCalls, delivered_by}
use Rattle.pg_connect.specs.Passes.{risen}
use Rattle.pg_connect.specs.declared.streams.Streams.{Streams}
use Rattle.pg_desk.specs.declared.event.Event.{Event}
use Rattle.pg_desk.specs.History.{IsFrontOf, after_all, received}
use Rattle.pg_errors.specs.declared.async_message.AsyncMessage.{AsyncMessage}
use Rattle.pg_types.specs.declared.error.Error.{Error}
use Rattle.pg_hub.specs.Fits.{Fits, HubBecomes}
use Rattle.pg_hub.specs.Standing.{Standing}
use Rattle.pg_query.specs.declared.desk_call.DeskCall.{DeskCall}
use Rattle.pg_query.specs.declared.desk_call.Reply.{Reply}
use Rattle.pg_spec.specs.Courses.{Asked, Course}
use Rattle.pg_core.specs.Lists.{events_of}
use Rattle.pg_session.proofs.Came.{counted-last}
use Rattle.pg_session.proofs.Books.{SameBook, engine-all, no-more-closed}
use Rattle.pg_session.proofs.Takes.{engine-received}
use Rattle.pg_session.specs.Calls.{calls_in_poll}
use Rattle.pg_session.specs.Turns.{HandsOn}
use Rattle.pg_session.proofs.Lists.{one-more}
use Rattle.pg_session.specs.Speeches.{Speech}
use Rattle.pg_session.specs.Handles.{HandleState}
use Rattle.pg_session.specs.States.{SessionState}
use Rattle.pg_session.specs.Turns.{ConnectionMade}
use Rattle.pg_session.specs.Kept.{AllKept, NoneFrom}
use Rattle.pg_session.specs.SessionKept.{IsWithin, SessionKept, left}
use Rattle.pg_session.proofs.AllKept.{nobodys-keep}
use Rattle.pg_session.proofs.Hubs.{Becomes, becomes, engine-nobodys, nobodys, nobodys-events}
use Rattle.pg_session.proofs.Session.{now_of, turn-at}

-- what a poll's calls of the hub did, and that it began to close only where nothing more comes
record EnginePolled (a b : Standing) (old new : Streams) (events : List Event) : Type 0 where
  became : HubBecomes a events b
  calls : AllEngineCalls events
  began : new.closing ≡ true → (old.closing ≡ true) ⊎ (last_is has_no_more events ≡ true)
  delivered : new.delivered ≡ risen old.delivered (length (delivered_by events))

weaken : {P Q R : Type 0} → P ⊎ (R × Q) → P ⊎ Q
weaken (inl p) = inl p
weaken (inr q) = inr q.1

polled-engine : (a b : Standing) (old new : Streams) (before after : LinkView) (answer : Poll (Option (Result AsyncMessage Error)))
    (p : PollAnswers HubBecomes a b old new before after answer) →
    (was now : List AsyncMessage) (over : Bool) → HandsOn answer was now over → EnginePolled a b old new (calls_in_poll a b old new before after answer p)
polled-engine a b old new before after Pending p was now over hands =
    record { became = p.turns.goes.became; calls = p.turns.goes.calls; began = λ e. weaken (p.turns.goes.ended.began e); delivered = p.turns.goes.passes.delivered_count }
polled-engine a b old new before after (Ready None) p was now over hands =
    record { became = p.turns.goes.became; calls = p.turns.goes.calls; began = λ e. weaken (p.turns.goes.ended.began e); delivered = p.turns.goes.passes.delivered_count }
polled-engine a b old new before after (Ready (Some (Ok message))) p was now over hands = record {
  became = p.turns.goes.became;
  calls = p.turns.goes.calls;
  began = λ e. absurd (let no_way : true ≡ false = sym e ∙ p.turns.goes.ended.stays in cc);
  delivered = p.turns.goes.passes.delivered_count;
}
polled-engine a b old new before after (Ready (Some (Err e))) p was now over hands = absurd hands

-- where it was over, it had begun to close
pub over-closing : (a b : Standing) (old new : Streams) (before after : LinkView) (answer : Poll (Option (Result AsyncMessage Error))) →
    PollAnswers HubBecomes a b old new before after answer →
    (was now : List AsyncMessage) → HandsOn answer was now true → new.closing ≡ true
over-closing a b old new before after Pending p was now hands = absurd (let no_way : true ≡ false = hands.1 in cc)
over-closing a b old new before after (Ready None) p was now hands = p.turns.goes.ended.closing
over-closing a b old new before after (Ready (Some (Ok message))) p was now hands = absurd (let no_way : true ≡ false = hands.1 in cc)
over-closing a b old new before after (Ready (Some (Err e))) p was now hands = absurd hands

-- the connection's calls in its turn
abbrev pub calls_made : {T A E : Type 0} → (turn : ℕ) (s t : SessionState T A E) (l m : LinkView) (over : Bool) → ConnectionMade turn s t l m over → List Event
calls_made turn s t l m over made = calls_in_poll s.hub t.hub s.streams t.streams l m made.answer made.polled

pub connection-keeps : {C T A E : Type 0} (speech : Speech C T A E) (scripts : List (List C)) (course : Course DeskCall Reply) (later : List RawMessage) (asked : List (Asked DeskCall Reply)) (came : List RawMessage) (turn : ℕ) (s t : SessionState T A E) (l m : LinkView) (over : Bool) →
    length scripts ≤ turn → (made : ConnectionMade turn s t l m over) → IsWithin course later t.trace came → SessionKept speech scripts course asked came s →
    SessionKept speech scripts course asked (came ++ delivered_by (calls_made turn s t l m over made)) t
connection-keeps {C} {T} {A} {E} speech scripts course later asked came turn s t l m over past made within k = record {
  state = after_all k.state (events_of (nobodys (calls_made turn s t l m over made)));
  fits = subst (λ (xs : List Event). Fits (after_all k.state xs) t.hub) (sym same) b.fits;
  received = more-came;
  closed = λ e. made.unanswered ∙ k.closed (sym same-closed ∙ e);
  failed = b.fits.failed ∙ engine.failed ∙ sym k.fits.failed ∙ k.failed;
  closing = λ e. same-closed ∙ began (p.began e);
  unanswered = made.unanswered ∙ k.unanswered ∙ ap (left scripts) (sym made.handles);
  many = ap (λ (hs : List (HandleState T A E)). length hs) made.handles ∙ k.many;
  marked = ap (λ (tr : List TurnMark). delivered_before tr (length tr)) made.trace ∙ counted-last s.trace (record { turn = turn; delivered = t.streams.delivered });
  counted = risen_then 0 s.streams.delivered t.streams.delivered (length came) (length (delivered_by (calls_made turn s t l m over made))) (length (came ++ delivered_by (calls_made turn s t l m over made))) k.counted p.delivered
      (length-append came (delivered_by (calls_made turn s t l m over made)));
  all = subst (λ (n : ℕ). AllKept speech scripts course (record { turns = n; asked = asked; state = after_all k.state (events_of (nobodys (calls_made turn s t l m over made))) }) t.handles)
      (sym (ap (λ (tr : List TurnMark). length tr) made.trace ∙ one-more s.trace (record { turn = turn; delivered = t.streams.delivered })))
      (subst (λ (hs : List (HandleState T A E)). AllKept speech scripts course (record { turns = suc (length s.trace); asked = asked; state = after_all k.state (events_of (nobodys (calls_made turn s t l m over made))) }) hs) (sym made.handles) kept);
}
  where
    p : EnginePolled s.hub t.hub s.streams t.streams (calls_made turn s t l m over made)
    p = polled-engine s.hub t.hub s.streams t.streams l m made.answer made.polled s.asynchronous t.asynchronous over made.hands

    b : Becomes k.state (calls_made turn s t l m over made) t.hub
    b = becomes k.state s.hub t.hub (calls_made turn s t l m over made) k.fits p.became

    engine : SameBook k.state (after_all k.state (calls_made turn s t l m over made))
    engine = engine-all k.state (calls_made turn s t l m over made) p.calls

    same : events_of (nobodys (calls_made turn s t l m over made)) ≡ calls_made turn s t l m over made
    same = nobodys-events (calls_made turn s t l m over made)

    same-closed : t.hub.closed ≡ s.hub.closed
    same-closed = b.fits.closed ∙ engine.closed ∙ sym k.fits.closed

    began : (s.streams.closing ≡ true) ⊎ (last_is has_no_more (calls_made turn s t l m over made) ≡ true) → s.hub.closed ≡ true
    began (inl was) = k.closing was
    began (inr none) = k.fits.closed ∙ no-more-closed k.state (calls_made turn s t l m over made) (p.became.stands k.state k.fits).0 p.calls none

    more-came : received (after_all k.state (events_of (nobodys (calls_made turn s t l m over made)))).deliveries ≡ came ++ delivered_by (calls_made turn s t l m over made)
    more-came =
        ap (λ (xs : List Event). received (after_all k.state xs).deliveries) same ∙ engine-received k.state (calls_made turn s t l m over made) p.calls
        ∙ ap (λ (ms : List RawMessage). ms ++ delivered_by (calls_made turn s t l m over made)) k.received

    none : (i : ℕ) → i < length scripts → NoneFrom course i (length s.trace) (suc (length s.trace))
    none i lt place ge below own =
        let is = turn-at s.trace (record { turn = turn; delivered = t.streams.delivered }) course.trace (subst (λ (tr : List TurnMark). IsFrontOf tr course.trace) made.trace within.turns) in
        let here : place ≡ length s.trace = omega (arith, ge, below) in
        let whose : turn ≡ i = sym is ∙ ap (turn_of course.trace) (sym here) ∙ own in
        omega (arith, lt, past, whose)

    kept : AllKept speech scripts course (record { turns = suc (length s.trace); asked = asked; state = after_all k.state (events_of (nobodys (calls_made turn s t l m over made))) }) s.handles
    kept = nobodys-keep speech scripts course (now_of asked k.state s) s.handles (nobodys (calls_made turn s t l m over made)) (suc (length s.trace))
        (engine-nobodys course (length scripts) (now_of asked k.state s) (calls_made turn s t l m over made) (suc (length s.trace)) (omega arith) none b.legal p.calls) k.all
