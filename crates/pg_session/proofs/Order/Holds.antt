-- The turns of a session are those of its turn list, and tell what was delivered.
use Rattle.std.proofs.Common.{◌≡◌, ℕ, ◌+◌, ◌-◌, ◌≤◌, List, [], ◌∷◌, ◌++◌, length, sym, ap, subst, ◌∙◌, arith}
use Rattle.std.proofs.lemmas.List.{get_or_at, length_push}
use Rattle.pg_spec.specs.Links.{LinkView}
use Rattle.pg_spec.specs.Turns.{delivered_after, IsTrace}
use Rattle.pg_spec.specs.declared.stamps.TurnMark.{TurnMark}
use Rattle.pg_session.specs.States.{SessionState}
use Rattle.pg_session.specs.Sessions.{InOrder, IsNewSession, Plays}
use Rattle.pg_session.proofs.Order.Places.{in_order_at}
use Rattle.pg_session.proofs.Order.Marks.{Marks, length-marks, marks_turn, marks_deliver, count_from_none, marks_to_end, last_is_connections}
use Rattle.pg_session.specs.Speeches.{Speech}

-- marks that tell the turns in their order, the last of them the connection's
marks_are_trace : (given : List ℕ) (handles : ℕ) (turns : List ℕ) (last : ℕ) (marks : List TurnMark) (behind : ℕ) →
    InOrder given handles turns last → handles ≤ last → Marks handles 0 (turns ++ last ∷ []) marks behind → IsTrace given handles marks
marks_are_trace given handles turns last marks behind order over tell =
    let all : List ℕ = turns ++ last ∷ [] in
    let size : length marks ≡ length turns + 1 = length-marks handles 0 all marks behind tell ∙ length_push turns last in
    record {
      order = λ place low.
          marks_turn handles 0 all marks behind tell place
          ∙ in_order_at given handles turns last place order (let same = length-marks handles 0 all marks behind tell in omega arith);
      some = omega arith;
      ends = subst (λ (x : ℕ). handles ≤ x)
          (sym (marks_turn handles 0 all marks behind tell (length marks - 1) ∙ get_or_at turns last [] 0 (length marks - 1) (omega arith))) over;
      rises = λ place low. subst (λ (x : ℕ). x ≤ delivered_after marks place) (count_from_none marks place)
          (marks_deliver handles 0 all marks behind tell place low).rises;
      handles_keep = λ place low own. (marks_deliver handles 0 all marks behind tell place low).keeps own ∙ count_from_none marks place;
    }

module _ {C T A E : Type 0} (speech : Speech C T A E) where
  pub turns_are_in_order : (scripts : List (List C)) (given : List ℕ) (s t : SessionState T A E) (l m : LinkView) →
      IsNewSession speech scripts s → s.streams.delivered ≡ 0 → Plays speech scripts given s l t m → IsTrace given (length scripts) t.trace
  turns_are_in_order scripts given s t l m new none plays =
      let left = marks_to_end speech scripts plays.turns plays.last s l t m plays.ends in
      let all : t.trace ≡ left.marks = left.trace ∙ ap (λ (x : List TurnMark). x ++ left.marks) new.trace in
      subst (λ (x : List TurnMark). IsTrace given (length scripts) x) (sym all)
      (marks_are_trace given (length scripts) plays.turns plays.last left.marks t.streams.delivered plays.order
      (last_is_connections speech scripts plays.last plays.ends.state t plays.ends.link m plays.ends.over)
      (subst (λ (n : ℕ). Marks (length scripts) n (plays.turns ++ plays.last ∷ []) left.marks t.streams.delivered) none left.tell))
