-- At no turn more was delivered than came in the end.
use Rattle.std.proofs.Common.{◌≡◌, inl, inr, ◌≤◌, ℕ, zero, suc, ◌+◌, List, [], ◌∷◌, ◌++◌, length, sym, ap, subst, ◌∙◌, arith, length-append}
use Rattle.std.proofs.lemmas.List.Elements.{filter-append}
use Rattle.pg_spec.specs.Links.{LinkView}
use Rattle.pg_spec.specs.RawMessages.{RawMessage, sync_of}
use Rattle.pg_spec.specs.Turns.{delivered_after}
use Rattle.pg_hub.specs.Standing.{Standing}
use Rattle.pg_connect.specs.declared.streams.Streams.{Streams}
use Rattle.pg_connect.specs.Passed.{delivered_by}
use Rattle.pg_connect.specs.Passes.{risen, waiting}
use Rattle.pg_errors.specs.declared.async_message.AsyncMessage.{AsyncMessage}
use Rattle.pg_spec.specs.declared.stamps.TurnMark.{TurnMark}
use Rattle.pg_session.specs.Sessions.{MakesAll}
use Rattle.pg_session.specs.States.{SessionState}
use Rattle.pg_session.specs.Turns.{Makes}
use Rattle.pg_session.proofs.Crossing.{Stood}
use Rattle.pg_session.proofs.Crossing.Chain.{passing}
use Rattle.pg_session.specs.Speeches.{Speech}

-- no mark tells more than this
abbrev pub NoneAbove : List TurnMark → ℕ → Type 0
NoneAbove trace n = (place : ℕ) → delivered_after trace place ≤ n

none-higher : (trace : List TurnMark) (m n : ℕ) → m ≤ n → NoneAbove trace m → NoneAbove trace n
none-higher trace m n up h place = omega (arith, h place)

mark-first : (mark : TurnMark) (n : ℕ) → mark.delivered ≤ n → NoneAbove (mark ∷ []) n
mark-first mark n low zero = low
mark-first mark n low (suc place) = omega arith

none-push : (trace : List TurnMark) (mark : TurnMark) (n : ℕ) → NoneAbove trace n → mark.delivered ≤ n → NoneAbove (trace ++ mark ∷ []) n
none-push [] mark n h low place = mark-first mark n low place
none-push (x ∷ trace) mark n h low zero = h zero
none-push (x ∷ trace) mark n h low (suc place) = none-push trace mark n (λ k. h (suc k)) low place

marked : (old new : List TurnMark) (mark : TurnMark) (m n : ℕ) → new ≡ old ++ mark ∷ [] → m ≤ n → mark.delivered ≤ n → NoneAbove old m → NoneAbove new n
marked old new mark m n is up low h =
    subst (λ (l : List TurnMark). NoneAbove l n) (sym is) (none-push old mark n (none-higher old m n up h) low)

rises : (a b n : ℕ) → b ≡ risen a n → a ≤ b
rises a b n e = omega arith

not-more : (n : ℕ) → risen 0 n ≤ n
not-more n = omega arith

-- what was delivered is a front of what came
pub front-delivered : (opening : List ℕ) (first : List RawMessage) (base l : LinkView) (hub : Standing) (s : Streams) (asides : List AsyncMessage) →
    (h : Stood opening first base hub s asides l) (more : List RawMessage) → s.delivered ≤ length (sync_of (h.read ++ more))
front-delivered opening first base l hub s asides h more =
    let all : length (sync_of (h.read ++ more)) ≡ length (sync_of h.read) + length (sync_of more) =
    ap length (filter-append _ h.read more) ∙ length-append (sync_of h.read) (sync_of more) in
    let some : length (sync_of h.read) ≡ length (delivered_by h.events) + length (waiting s.held) = ap length h.delivered ∙ length-append (delivered_by h.events) (waiting s.held) in
    let count : s.delivered ≡ risen 0 (length (delivered_by h.events)) = h.counted in
    omega (arith, all, some, count, not-more (length (delivered_by h.events)))

module _ {C T A E : Type 0} (speech : Speech C T A E) where
  -- what a session's trace tells
  abbrev pub IsMarked : SessionState T A E → Type 0
  IsMarked s = NoneAbove s.trace s.streams.delivered

  marked-turn : (scripts : List (List C)) (turn : ℕ) (s t : SessionState T A E) (l m : LinkView) (over : _) → IsMarked s → Makes speech scripts turn s t l m over → IsMarked t
  marked-turn scripts turn s t l m over h (inl made) =
      let same : t.streams.delivered ≡ s.streams.delivered = ap (λ (x : Streams). x.delivered) made.made.streams in
      marked s.trace t.trace (record { turn = turn; delivered = s.streams.delivered }) s.streams.delivered t.streams.delivered made.made.trace (omega (arith, same)) (omega (arith, same)) h
  marked-turn scripts turn s t l m over h (inr made) =
      let p = passing s.hub t.hub s.streams t.streams l m s.asynchronous t.asynchronous over made.made.answer made.made.polled made.made.hands in
      marked s.trace t.trace (record { turn = turn; delivered = t.streams.delivered }) s.streams.delivered t.streams.delivered made.made.trace
      (rises s.streams.delivered t.streams.delivered (length (delivered_by p.events)) p.passes.delivered_count) (omega arith) h

  marked-all : (scripts : List (List C)) (turns : List ℕ) (s : SessionState T A E) (l : LinkView) (t : SessionState T A E) (m : LinkView) → IsMarked s → MakesAll speech scripts turns s l t m → IsMarked t
  marked-all scripts [] s l t m h made = subst IsMarked (sym made.0) h
  marked-all scripts (turn ∷ turns) s l t m h made =
      marked-all scripts turns made.1 made.2 t m (marked-turn scripts turn s made.1 made.0 made.2 _ h made.4) made.5

  -- no mark of a session tells more than the last one
  pub all-marked : (scripts : List (List C)) (turns : List ℕ) (last : ℕ) (s : SessionState T A E) (l : LinkView) (mid : SessionState T A E) (k : LinkView) (t : SessionState T A E) (m : LinkView) →
      s.trace ≡ [] → MakesAll speech scripts turns s l mid k → (over : _) → Makes speech scripts last mid t k m over → IsMarked t
  all-marked scripts turns last s l mid k t m none made over final =
      marked-turn scripts last mid t k m over
      (marked-all scripts turns s l mid k (subst (λ (x : List TurnMark). NoneAbove x s.streams.delivered) (sym none) (λ place. omega arith)) made) final
