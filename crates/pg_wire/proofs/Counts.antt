-- How many whole messages stand in front.
use Rattle.std.proofs.Common.{◌≡◌, ℕ, ◌+◌, ◌-◌, ◌≤◌, List, ◌∷◌, length, take, drop, None, sym, ap, subst, ◌∙◌, arith}
use Rattle.std.proofs.Math.Seq.{take-length}
use Rattle.std.proofs.lemmas.List.{length-drop, drop-drop}
use Rattle.pg_spec.specs.RawMessages.{message_at, messages}
use Rattle.pg_wire.specs.Fronts.{IsWhole, message_of_bytes}
use Rattle.pg_wire.proofs.Cuts.{messages_of_one, messages_of_none}

-- so many were counted, up to here
pub record IsCount (s : List ℕ) (at n : ℕ) : Type 0 where
  pub fits : at ≤ length s
  pub counted : n + length (messages (drop at s)) ≡ length (messages s)
  pub small : n ≤ at

rest_is : (s : List ℕ) (at : ℕ) → take (length s - at) (drop at s) ≡ drop at s
rest_is s at = ap (λ k. take k (drop at s)) (sym (length-drop at s)) ∙ take-length (drop at s)

pub counted_more : (s : List ℕ) (at len n : ℕ) → IsCount s at n → IsWhole (take (length s - at) (drop at s)) len → IsCount s (at + len) (n + 1)
counted_more s at len n was whole =
    let here : IsWhole (drop at s) len = subst (λ (x : List ℕ). IsWhole x len) (rest_is s at) whole in
    let one : messages (drop at s) ≡ message_of_bytes len (drop at s) ∷ messages (drop (at + len) s) =
    messages_of_one (drop at s) _ _ here.front ∙ ap (λ (x : List ℕ). message_of_bytes len (drop at s) ∷ messages x) (drop-drop len at s) in
    record {
      fits = omega (arith, here.fits, length-drop at s, was.fits);
      counted = omega (arith, was.counted, ap length one);
      small = omega (arith, was.small, here.some);
    }

pub counted_all : (s : List ℕ) (at n : ℕ) → IsCount s at n → message_at (take (length s - at) (drop at s)) ≡ None → n ≡ length (messages s)
counted_all s at n was none =
    omega (arith, was.counted, ap length (messages_of_none (drop at s) (ap message_at (sym (rest_is s at)) ∙ none)))
