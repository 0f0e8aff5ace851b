-- The events of a session are a history of its hub, and what they delivered.
use Rattle.std.proofs.Common.{◌≡◌, ℕ, zero, suc, ◌-◌, List, [], ◌∷◌, ◌++◌, length, Bool, false, Ok, Err, Some, None, refl, sym, ap, ◌∙◌, subst, arith, inl, inr}
use Rattle.std.proofs.lemmas.List.{append_assoc, length-append}
use Rattle.futures.specs.declared.task.Poll.{Poll}
use Rattle.futures.specs.declared.task.Poll.TheVariants.{Ready, Pending}
use Rattle.std.specs.Prelude.{Option, Result}
use Rattle.pg_spec.specs.Links.{LinkView}
use Rattle.pg_spec.specs.RawMessages.{RawMessage}
use Rattle.pg_connect.specs.Answers.{PollAnswers}
use Rattle.pg_connect.specs.Passed.{delivered_by}
use Rattle.pg_connect.specs.Passes.{risen}
use Rattle.pg_connect.specs.declared.streams.Streams.{Streams}
use Rattle.pg_connect.proofs.Joining.{delivered_by-append, risen_then}
use Rattle.pg_desk.specs.History.{State, joined, after_all}
use Rattle.pg_desk.specs.Kept.{legal-joined}
use Rattle.pg_desk.specs.declared.event.Event.{Event}
use Rattle.pg_desk.specs.declared.event.Event.TheVariants.{CloseRequests}
use Rattle.pg_spec.specs.declared.stamps.Stamp.{Stamp}
use Rattle.pg_spec.specs.declared.stamps.TurnMark.{TurnMark}
use Rattle.pg_errors.specs.declared.async_message.AsyncMessage.{AsyncMessage}
use Rattle.pg_types.specs.declared.error.Error.{Error}
use Rattle.pg_hub.specs.Becomes.{after-joined, fits-touched}
use Rattle.pg_hub.specs.Fits.{Fits, HubBecomes}
use Rattle.pg_hub.specs.Standing.{Standing}
use Rattle.pg_session.proofs.Crossing.Chain.{quiet-walk}
use Rattle.pg_session.proofs.Crossing.{Moves, moves-by}
use Rattle.pg_session.specs.Events.{events_in_handle, events_in_close, events_behind, events_in_turn, events_in}
use Rattle.pg_session.specs.Calls.{calls_in_poll, calls_in_turn, calls_in}
use Rattle.pg_session.specs.Sessions.{MakesAll}
use Rattle.pg_session.specs.Handles.{HandleState}
use Rattle.pg_session.specs.States.{SessionState}
use Rattle.pg_session.specs.Turns.{Closes, ClosesBehind, HandleTurns, HandsOn, Makes, untouched}
use Rattle.pg_session.specs.declared.handle_turn.Polling.{Polling}
use Rattle.pg_session.specs.declared.handle_turn.Polling.TheVariants as polling
use Rattle.pg_session.specs.Speeches.{Speech}

-- ---- the events are legal

same-moves : (a b : Standing) → b ≡ a → Moves a [] b
same-moves a b same = λ s f. (tt, subst (λ (x : Standing). Fits s x) (sym same) f)

touched-moves : (a b : Standing) → b ≡ untouched a → Moves a [] b
touched-moves a b same = λ s f. (tt, subst (λ (x : Standing). Fits s x) (sym same) (fits-touched s a false f))

walked-moves : (a b : Standing) (es : List Event) → HubBecomes (untouched a) es b → Moves a es b
walked-moves a b es h = λ s f. moves-by (untouched a) b es h s (fits-touched s a false f)

pub moves-then : (a b c : Standing) (es fs : List Event) → Moves a es b → Moves b fs c → Moves a (es ++ fs) c
moves-then a b c es fs first then s f =
    let x = first s f in
    let y = then (after_all s es) x.1 in
    (legal-joined s es fs x.0 y.0, subst (λ (t : State). Fits t c) (sym (after-joined s es fs)) y.1)

pub close-moves : (left : ℕ) (a b : Standing) → Closes left a b → Moves a (events_in_close left) b
close-moves zero a b h = moves-by a b (CloseRequests (Ok tt) ∷ []) h
close-moves (suc left) a b h = same-moves a b h

behind-moves : (did : Polling) (left : ℕ) (a b : Standing) → ClosesBehind did left a b → Moves a (events_behind did left) b
behind-moves polling.Idle left a b h = same-moves a b h
behind-moves polling.Began left a b h = same-moves a b h
behind-moves polling.Waits left a b h = touched-moves a b h
behind-moves polling.Answered left a b h = close-moves (left - 1) a b h

poll-moves : (a b : Standing) (s t : Streams) (l m : LinkView) (answer : Poll (Option (Result AsyncMessage Error)))
    (p : PollAnswers HubBecomes a b s t l m answer) (was now : List AsyncMessage) (over : Bool) → HandsOn answer was now over →
    Moves a (calls_in_poll a b s t l m answer p) b
poll-moves a b s t l m Pending p was now over hands = moves-by a b p.turns.goes.events p.turns.goes.became
poll-moves a b s t l m (Ready None) p was now over hands = moves-by a b p.turns.goes.events p.turns.goes.became
poll-moves a b s t l m (Ready (Some (Ok message))) p was now over hands = moves-by a b p.turns.goes.events p.turns.goes.became
poll-moves a b s t l m (Ready (Some (Err e))) p was now over hands = absurd hands

-- ---- a handle delivers nothing

none-then : (es fs : List Event) → delivered_by es ≡ [] → delivered_by fs ≡ [] → delivered_by (es ++ fs) ≡ []
none-then es fs first then = delivered_by-append es fs ∙ ap (λ (l : List RawMessage). l ++ delivered_by fs) first ∙ then

pub close-none : (left : ℕ) → delivered_by (events_in_close left) ≡ []
close-none zero = refl
close-none (suc left) = refl

behind-none : (did : Polling) (left : ℕ) → delivered_by (events_behind did left) ≡ []
behind-none polling.Idle left = refl
behind-none polling.Began left = refl
behind-none polling.Waits left = refl
behind-none polling.Answered left = close-none (left - 1)

-- ---- the trace counts what was delivered

-- the count behind a poll
poll-counts : (a b : Standing) (s t : Streams) (l m : LinkView) (answer : Poll (Option (Result AsyncMessage Error)))
    (p : PollAnswers HubBecomes a b s t l m answer) (was now : List AsyncMessage) (over : Bool) → HandsOn answer was now over →
    t.delivered ≡ risen s.delivered (length (delivered_by (calls_in_poll a b s t l m answer p)))
poll-counts a b s t l m Pending p was now over hands = p.turns.goes.passes.delivered_count
poll-counts a b s t l m (Ready None) p was now over hands = p.turns.goes.passes.delivered_count
poll-counts a b s t l m (Ready (Some (Ok message))) p was now over hands = p.turns.goes.passes.delivered_count
poll-counts a b s t l m (Ready (Some (Err e))) p was now over hands = absurd hands

risen-none : (n k : ℕ) → k ≡ 0 → n ≡ risen n k
risen-none n k none = omega (arith, none)

-- each mark counts what was delivered by the end of its turn
abbrev pub Counts : (before : List Event) → List TurnMark → List (List Event) → Type 0
Counts before [] [] = Unit {0}
Counts before (mark ∷ marks) (es ∷ events) = (mark.delivered ≡ risen 0 (length (delivered_by (before ++ es)))) × Counts (before ++ es) marks events
Counts before _ _ = ⊥

count-then : (before es : List Event) (n k : ℕ) → n ≡ risen 0 (length (delivered_by before)) → k ≡ risen n (length (delivered_by es)) →
    k ≡ risen 0 (length (delivered_by (before ++ es)))
count-then before es n k was now =
    risen_then 0 n k (length (delivered_by before)) (length (delivered_by es)) (length (delivered_by (before ++ es))) was now
    (ap (λ (ms : List RawMessage). length ms) (delivered_by-append before es) ∙ length-append (delivered_by before) (delivered_by es))

append-none : (es : List Event) → es ++ [] ≡ es
append-none [] = refl
append-none (e ∷ es) = ap (λ (l : List Event). e ∷ l) (append-none es)

trace-none : (xs : List TurnMark) → xs ≡ xs ++ []
trace-none [] = refl
trace-none (x ∷ xs) = ap (λ (l : List TurnMark). x ∷ l) (trace-none xs)

module _ {C T A E : Type 0} (speech : Speech C T A E) where
  handle-moves : (script : List C) (stamp : Stamp) (a b : Standing) (old new : HandleState T A E) (did : Polling) →
      (h : HandleTurns HubBecomes speech script stamp (untouched a) old b new did) → Moves a (events_in_handle speech script stamp (untouched a) b old new did h) b
  handle-moves script stamp a b old new polling.Idle h = touched-moves a b h.desk
  handle-moves script stamp a b old new polling.Began h = walked-moves a b h.pauses.goes.events h.pauses.goes.became
  handle-moves script stamp a b old new polling.Waits h = walked-moves a b h.pauses.goes.events h.pauses.goes.became
  handle-moves script stamp a b old new polling.Answered h = walked-moves a b h.goes.goes.events h.goes.goes.became

  pub turn-moves : (scripts : List (List C)) (turn : ℕ) (s t : SessionState T A E) (l m : LinkView) (over : Bool) →
      (made : Makes speech scripts turn s t l m over) → Moves s.hub (events_in_turn speech scripts turn s t l m over made) t.hub
  turn-moves scripts turn s t l m over (inl handle) =
      let made = handle.made in
      moves-then s.hub made.hub t.hub (events_in_handle speech made.script _ (untouched s.hub) made.hub made.old made.new handle.did made.turns) (events_behind handle.did s.unanswered)
      (handle-moves made.script _ s.hub made.hub made.old made.new handle.did made.turns) (behind-moves handle.did s.unanswered made.hub t.hub made.closes)
  turn-moves scripts turn s t l m over (inr connection) =
      let made = connection.made in
      poll-moves s.hub t.hub s.streams t.streams l m made.answer made.polled s.asynchronous t.asynchronous over made.hands

  pub turns-move : (scripts : List (List C)) (turns : List ℕ) (s : SessionState T A E) (l : LinkView) (t : SessionState T A E) (m : LinkView) →
      (made : MakesAll speech scripts turns s l t m) → Moves s.hub (joined (events_in speech scripts turns s l t m made)) t.hub
  turns-move scripts [] s l t m made = same-moves s.hub t.hub (ap (λ (x : SessionState T A E). x.hub) made.0)
  turns-move scripts (turn ∷ turns) s l t m (rested, mid, passed, rests, makes, more) =
      moves-then s.hub mid.hub t.hub (events_in_turn speech scripts turn s mid rested passed false makes) (joined (events_in speech scripts turns mid passed t m more))
      (turn-moves scripts turn s mid rested passed false makes) (turns-move scripts turns mid passed t m more)

  handle-none : (script : List C) (stamp : Stamp) (a b : Standing) (old new : HandleState T A E) (did : Polling) →
      (h : HandleTurns HubBecomes speech script stamp a old b new did) → delivered_by (events_in_handle speech script stamp a b old new did h) ≡ []
  handle-none script stamp a b old new polling.Idle h = refl
  handle-none script stamp a b old new polling.Began h =
      let goes = h.pauses.goes in (quiet-walk stamp h.from.dialogue h.from.reads goes.events h.to.dialogue h.to.reads goes.walked).none_in
  handle-none script stamp a b old new polling.Waits h =
      let goes = h.pauses.goes in (quiet-walk stamp h.from.dialogue h.from.reads goes.events h.to.dialogue h.to.reads goes.walked).none_in
  handle-none script stamp a b old new polling.Answered h =
      let goes = h.goes.goes in (quiet-walk stamp h.from.dialogue h.from.reads goes.events h.goes.last.dialogue h.goes.last.reads goes.walked).none_in

  -- so what a turn delivers is what its connection's calls do
  pub turn-delivers : (scripts : List (List C)) (turn : ℕ) (s t : SessionState T A E) (l m : LinkView) (over : Bool) →
      (made : Makes speech scripts turn s t l m over) →
      delivered_by (events_in_turn speech scripts turn s t l m over made) ≡ delivered_by (calls_in_turn speech scripts turn s t l m over made)
  turn-delivers scripts turn s t l m over (inl handle) =
      let made = handle.made in
      none-then (events_in_handle speech made.script _ (untouched s.hub) made.hub made.old made.new handle.did made.turns) (events_behind handle.did s.unanswered)
      (handle-none made.script _ (untouched s.hub) made.hub made.old made.new handle.did made.turns) (behind-none handle.did s.unanswered)
  turn-delivers scripts turn s t l m over (inr connection) = refl

  pub turns-deliver : (scripts : List (List C)) (turns : List ℕ) (s : SessionState T A E) (l : LinkView) (t : SessionState T A E) (m : LinkView) →
      (made : MakesAll speech scripts turns s l t m) → delivered_by (joined (events_in speech scripts turns s l t m made)) ≡ delivered_by (calls_in speech scripts turns s l t m made)
  turns-deliver scripts [] s l t m made = refl
  turns-deliver scripts (turn ∷ turns) s l t m (rested, mid, passed, rests, makes, more) =
      let es = events_in_turn speech scripts turn s mid rested passed false makes in
      let fs = joined (events_in speech scripts turns mid passed t m more) in
      delivered_by-append es fs
      ∙ ap (λ (x : List RawMessage). x ++ delivered_by fs) (turn-delivers scripts turn s mid rested passed false makes)
      ∙ ap (λ (x : List RawMessage). delivered_by (calls_in_turn speech scripts turn s mid rested passed false makes) ++ x) (turns-deliver scripts turns mid passed t m more)
      ∙ sym (delivered_by-append (calls_in_turn speech scripts turn s mid rested passed false makes) (calls_in speech scripts turns mid passed t m more))

  -- a turn that was made, and the count behind it
  pub record Marks (turn : ℕ) (s t : SessionState T A E) (es : List Event) : Type 0 where
    pub trace : t.trace ≡ s.trace ++ record { turn = turn; delivered = t.streams.delivered } ∷ []
    pub count : t.streams.delivered ≡ risen s.streams.delivered (length (delivered_by es))

  pub turn-marks : (scripts : List (List C)) (turn : ℕ) (s t : SessionState T A E) (l m : LinkView) (over : Bool) →
      (made : Makes speech scripts turn s t l m over) → Marks turn s t (events_in_turn speech scripts turn s t l m over made)
  turn-marks scripts turn s t l m over (inl handle) =
      let made = handle.made in
      let same : t.streams.delivered ≡ s.streams.delivered = ap (λ (x : Streams). x.delivered) made.streams in
      let none = turn-delivers scripts turn s t l m over (inl handle) in
      record {
        trace = made.trace ∙ ap (λ (n : ℕ). s.trace ++ record { turn = turn; delivered = n } ∷ []) (sym same);
        count = same ∙ risen-none s.streams.delivered _ (ap (λ (ms : List RawMessage). length ms) none);
      }
  turn-marks scripts turn s t l m over (inr connection) =
      let made = connection.made in
      record {
        trace = made.trace;
        count = poll-counts s.hub t.hub s.streams t.streams l m made.answer made.polled s.asynchronous t.asynchronous over made.hands;
      }

  pub record Traced (before : List Event) (s t : SessionState T A E) (events : List (List Event)) : Type 0 where
    pub marks : List TurnMark
    pub trace : t.trace ≡ s.trace ++ marks
    pub counts : Counts before marks events
    pub now : t.streams.delivered ≡ risen 0 (length (delivered_by (before ++ joined events)))

  pub traced-none : (before : List Event) (s t : SessionState T A E) → t ≡ s → s.streams.delivered ≡ risen 0 (length (delivered_by before)) → Traced before s t []
  traced-none before s t same was = record {
    marks = [];
    trace = ap (λ (x : SessionState T A E). x.trace) same ∙ trace-none s.trace;
    counts = tt;
    now = ap (λ (x : SessionState T A E). x.streams.delivered) same ∙ was ∙ ap (λ (es : List Event). risen 0 (length (delivered_by es))) (sym (append-none before));
  }

  pub traced-more : (before : List Event) (turn : ℕ) (s mid t : SessionState T A E) (es : List Event) (events : List (List Event)) →
      s.streams.delivered ≡ risen 0 (length (delivered_by before)) → Marks turn s mid es → Traced (before ++ es) mid t events → Traced before s t (es ∷ events)
  traced-more before turn s mid t es events was m rest =
      let mark : TurnMark = record { turn = turn; delivered = mid.streams.delivered } in
      record {
        marks = mark ∷ rest.marks;
        trace = rest.trace ∙ ap (λ (l : List TurnMark). l ++ rest.marks) m.trace ∙ append_assoc s.trace (mark ∷ []) rest.marks;
        counts = (count-then before es s.streams.delivered mid.streams.delivered was m.count, rest.counts);
        now = rest.now ∙ ap (λ (l : List Event). risen 0 (length (delivered_by l))) (append_assoc before es (joined events));
      }

  pub counted-on : (before es : List Event) (turn : ℕ) (s mid : SessionState T A E) → s.streams.delivered ≡ risen 0 (length (delivered_by before)) → Marks turn s mid es →
      mid.streams.delivered ≡ risen 0 (length (delivered_by (before ++ es)))
  counted-on before es turn s mid was m = count-then before es s.streams.delivered mid.streams.delivered was m.count

  -- turns, and one more behind them
  pub traced-turns : (before : List Event) (scripts : List (List C)) (turns : List ℕ) (s : SessionState T A E) (l : LinkView) (t : SessionState T A E) (m : LinkView)
      (made : MakesAll speech scripts turns s l t m) (last : ℕ) (u : SessionState T A E) (es : List Event) → s.streams.delivered ≡ risen 0 (length (delivered_by before)) →
      Marks last t u es → Traced before s u (events_in speech scripts turns s l t m made ++ es ∷ [])
  traced-turns before scripts [] s l t m made last u es was mark =
      let here : Marks last s u es = subst (λ (x : SessionState T A E). Marks last x u es) made.0 mark in
      traced-more before last s u u es [] was here (traced-none (before ++ es) u u refl (counted-on before es last s u was here))
  traced-turns before scripts (turn ∷ turns) s l t m (rested, mid, passed, rests, makes, more) last u es was mark =
      let now = events_in_turn speech scripts turn s mid rested passed false makes in
      let here = turn-marks scripts turn s mid rested passed false makes in
      traced-more before turn s mid u now (events_in speech scripts turns mid passed t m more ++ es ∷ []) was here
      (traced-turns (before ++ now) scripts turns mid passed t m more last u es (counted-on before now turn s mid was here) mark)
