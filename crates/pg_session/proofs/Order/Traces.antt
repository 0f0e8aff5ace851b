-- The trace as the turns of a session go on.
use Rattle.std.proofs.Common.{◌≡◌, ℕ, zero, suc, ◌+◌, ◌<◌, Bool, false, List, [], ◌∷◌, ◌++◌, length, slice_get, Option, Some, option_map, unwrap_or, refl, sym, ap, subst, ◌∙◌, arith, length-append}
use Rattle.std.proofs.lemmas.List.{length_push}
use Rattle.pg_spec.specs.Links.{LinkView}
use Rattle.pg_spec.specs.Turns.{turn_of, delivered_after, delivered_before}
use Rattle.pg_desk.specs.History.{IsFrontOf}
use Rattle.pg_spec.specs.declared.stamps.TurnMark.{TurnMark}
use Rattle.pg_session.specs.States.{SessionState}
use Rattle.pg_session.specs.Turns.{Makes}
use Rattle.pg_session.specs.Sessions.{MakesAll, EndsWith}
use Rattle.pg_session.proofs.Order.Marks.{leaves_mark, leave_marks, marks_to_end, length-marks}
use Rattle.pg_session.specs.Speeches.{Speech}

-- ---- lists that grow at their end

-- what stands in the front
pub in_front : {X : Type 0} (xs ys : List X) (i : ℕ) → i < length xs → slice_get (xs ++ ys) i ≡ slice_get xs i
in_front [] ys i low = absurd (omega arith)
in_front (x ∷ xs) ys zero low = refl
in_front (x ∷ xs) ys (suc i) low = in_front xs ys i (omega arith)

-- what stands next
pub stands_next : {X : Type 0} (xs : List X) (y : X) (ys : List X) → slice_get (xs ++ y ∷ ys) (length xs) ≡ Some y
stands_next [] y ys = refl
stands_next (x ∷ xs) y ys = stands_next xs y ys

-- ---- the trace behind one turn

-- a mark as the report tells it
abbrev pub mark : (turn delivered : ℕ) → TurnMark
mark turn delivered = record { turn = turn; delivered = delivered }

module _ {C T A E : Type 0} (speech : Speech C T A E) where
  -- its mark stands behind those of the former turns
  pub mark_made : (scripts : List (List C)) (turn : ℕ) (s t : SessionState T A E) (l m : LinkView) (over : Bool) → Makes speech scripts turn s t l m over →
      slice_get t.trace (length s.trace) ≡ Some (mark turn t.streams.delivered)
  mark_made scripts turn s t l m over made =
      let left = leaves_mark speech scripts turn s t l m over made in
      ap (λ (x : List TurnMark). slice_get x (length s.trace)) left.trace
      ∙ stands_next s.trace left.mark []
      ∙ ap (λ (x : ℕ). Some (mark x left.mark.delivered)) left.owner
      ∙ ap (λ (x : ℕ). Some (mark turn x)) left.delivered

  pub turn_made : (scripts : List (List C)) (turn : ℕ) (s t : SessionState T A E) (l m : LinkView) (over : Bool) → Makes speech scripts turn s t l m over →
      turn_of t.trace (length s.trace) ≡ turn
  turn_made scripts turn s t l m over made =
      ap (λ (x : Option TurnMark). unwrap_or (option_map (λ mark. mark.turn) x) 0) (mark_made scripts turn s t l m over made)

  pub delivered_made : (scripts : List (List C)) (turn : ℕ) (s t : SessionState T A E) (l m : LinkView) (over : Bool) → Makes speech scripts turn s t l m over →
      delivered_after t.trace (length s.trace) ≡ t.streams.delivered
  delivered_made scripts turn s t l m over made =
      ap (λ (x : Option TurnMark). unwrap_or (option_map (λ mark. mark.delivered) x) 0) (mark_made scripts turn s t l m over made)

  pub trace_longer : (scripts : List (List C)) (turn : ℕ) (s t : SessionState T A E) (l m : LinkView) (over : Bool) → Makes speech scripts turn s t l m over →
      length t.trace ≡ length s.trace + 1
  trace_longer scripts turn s t l m over made =
      let left = leaves_mark speech scripts turn s t l m over made in ap length left.trace ∙ length_push s.trace left.mark

  -- ---- the trace behind turns one after another

  -- it grows by as many marks as turns
  pub trace_grows : (scripts : List (List C)) (turns : List ℕ) (s : SessionState T A E) (l : LinkView) (t : SessionState T A E) (m : LinkView) →
      MakesAll speech scripts turns s l t m → length t.trace ≡ length s.trace + length turns
  trace_grows scripts turns s l t m made =
      let left = leave_marks speech scripts turns s l t m made in
      let many = length-marks (length scripts) s.streams.delivered turns left.marks t.streams.delivered left.tell in
      ap length left.trace ∙ length-append s.trace left.marks ∙ omega arith

  -- its front stays
  pub trace_front : (scripts : List (List C)) (turns : List ℕ) (s : SessionState T A E) (l : LinkView) (t : SessionState T A E) (m : LinkView) →
      MakesAll speech scripts turns s l t m → IsFrontOf s.trace t.trace
  trace_front scripts turns s l t m made = let left = leave_marks speech scripts turns s l t m made in (left.marks, sym left.trace)

  pub trace_front_to_end : (scripts : List (List C)) (turns : List ℕ) (last : ℕ) (s : SessionState T A E) (l : LinkView) (t : SessionState T A E) (m : LinkView) →
      EndsWith speech scripts turns last s l t m → IsFrontOf s.trace t.trace
  trace_front_to_end scripts turns last s l t m ends = let left = marks_to_end speech scripts turns last s l t m ends in (left.marks, sym left.trace)

  -- a mark stays where it stands
  pub mark_stays : (s t : SessionState T A E) → IsFrontOf s.trace t.trace → (place : ℕ) → place < length s.trace →
      slice_get t.trace place ≡ slice_get s.trace place
  mark_stays s t front place low =
      ap (λ (x : List TurnMark). slice_get x place) (sym front.1) ∙ in_front s.trace front.0 place low

  pub turn_stays : (s t : SessionState T A E) → IsFrontOf s.trace t.trace → (place : ℕ) → place < length s.trace →
      turn_of t.trace place ≡ turn_of s.trace place
  turn_stays s t front place low = ap (λ (x : Option TurnMark). unwrap_or (option_map (λ mark. mark.turn) x) 0) (mark_stays s t front place low)

  -- ---- what was delivered so far

  -- it stands in the last mark, and none was where there is no mark
  abbrev pub TellsDelivered : SessionState T A E → Type 0
  TellsDelivered s = delivered_before s.trace (length s.trace) ≡ s.streams.delivered

  -- before the first turn it does
  pub tells_new : (s : SessionState T A E) → s.trace ≡ [] → s.streams.delivered ≡ 0 → TellsDelivered s
  tells_new s none count = ap (λ (x : List TurnMark). delivered_before x (length x)) none ∙ sym count

  -- behind any turn it does, whatever stood before
  pub tells_made : (scripts : List (List C)) (turn : ℕ) (s t : SessionState T A E) (l m : LinkView) (over : Bool) → Makes speech scripts turn s t l m over → TellsDelivered t
  tells_made scripts turn s t l m over made =
      ap (λ (x : ℕ). delivered_before t.trace x) (let more = trace_longer scripts turn s t l m over made in let e : length t.trace ≡ suc (length s.trace) = omega arith in e)
      ∙ delivered_made scripts turn s t l m over made

  pub tells_made_all : (scripts : List (List C)) (turns : List ℕ) (s : SessionState T A E) (l : LinkView) (t : SessionState T A E) (m : LinkView) →
      TellsDelivered s → MakesAll speech scripts turns s l t m → TellsDelivered t
  tells_made_all scripts [] s l t m tells made = subst (λ (x : SessionState T A E). TellsDelivered x) (sym made.0) tells
  tells_made_all scripts (turn ∷ turns) s l t m tells made =
      tells_made_all scripts turns made.1 made.2 t m (tells_made scripts turn s made.1 made.0 made.2 false made.4) made.5
