-- A startup, message by message.
use Rattle.std.proofs.Common.{◌≡◌, ℕ, List, [], ◌∷◌, Some, None, Bool, true, false, refl, sym, ap, ◌∙◌, ◌&&◌, drop, length}
use Rattle.std.specs.Prelude.{if◌then◌else◌, ◌==◌}
use Rattle.std.proofs.Common.{arith}
use Rattle.std.proofs.lemmas.Bool.{ne_eqb}
use Rattle.pg_spec.specs.Batches.{is_nothing}
use Rattle.pg_spec.specs.RawMessages.{RawMessage, message_at, messages, bytes_left, is_ready}
use Rattle.pg_wire.specs.Fronts.{IsWhole, message_of_bytes}
use Rattle.pg_wire.proofs.Cuts.{messages_of_one, left_of_one, messages_of_none, left_of_none}
use Rattle.pg_server.specs.Startups.{is_report, are_settled, is_settled, are_startup, is_startup, is_authentication_ok}

both : (a b c d : Bool) → a ≡ c → b ≡ d → (a && b) ≡ (c && d)
both a b c d p q = ap (λ x. x && b) p ∙ ap (λ y. c && y) q

and_false : (b : Bool) → (b && false) ≡ false
and_false true = refl
and_false false = refl

swap : (a b c : Bool) → (a && (b && c)) ≡ (b && (a && c))
swap true true c = refl
swap true false c = refl
swap false true c = refl
swap false false c = refl

-- one message more
abbrev settled_by : Bool → Bool → List RawMessage → Bool → Bool
settled_by ready report ms nothing = nothing && (if ready then is_nothing ms else report && are_settled ms)

behind : (s : List ℕ) (n : ℕ) → IsWhole s n →
    is_settled s ≡ settled_by (is_ready (message_of_bytes n s)) (is_report (message_of_bytes n s)) (messages (drop n s)) (is_nothing (bytes_left (drop n s)))
behind s n whole =
    both (is_nothing (bytes_left s)) (are_settled (messages s)) (is_nothing (bytes_left (drop n s))) (are_settled (message_of_bytes n s ∷ messages (drop n s)))
    (ap is_nothing (left_of_one s (message_of_bytes n s) (drop n s) whole.front)) (ap are_settled (messages_of_one s (message_of_bytes n s) (drop n s) whole.front))

pub settled_further : (s : List ℕ) (n : ℕ) → IsWhole s n → is_ready (message_of_bytes n s) ≡ false → is_report (message_of_bytes n s) ≡ true → is_settled s ≡ is_settled (drop n s)
settled_further s n whole unready report =
    behind s n whole
    ∙ ap (λ b. settled_by b (is_report (message_of_bytes n s)) (messages (drop n s)) (is_nothing (bytes_left (drop n s)))) unready
    ∙ ap (λ b. settled_by false b (messages (drop n s)) (is_nothing (bytes_left (drop n s)))) report

pub settled_never : (s : List ℕ) (n : ℕ) → IsWhole s n → is_ready (message_of_bytes n s) ≡ false → is_report (message_of_bytes n s) ≡ false → is_settled s ≡ false
settled_never s n whole unready report =
    behind s n whole
    ∙ ap (λ b. settled_by b (is_report (message_of_bytes n s)) (messages (drop n s)) (is_nothing (bytes_left (drop n s)))) unready
    ∙ ap (λ b. settled_by false b (messages (drop n s)) (is_nothing (bytes_left (drop n s)))) report
    ∙ and_false (is_nothing (bytes_left (drop n s)))

-- nothing whole and nothing else stands there
nothing_there : (s : List ℕ) → (is_nothing (bytes_left s) && is_nothing (messages s)) ≡ is_nothing s
nothing_there s =
    elim (message_at s) as (λ o. message_at s ≡ o → (is_nothing (bytes_left s) && is_nothing (messages s)) ≡ is_nothing s) [
      | None ↦ λ at. both (is_nothing (bytes_left s)) (is_nothing (messages s)) (is_nothing s) true (ap is_nothing (left_of_none s at)) (ap is_nothing (messages_of_none s at)) ∙ and_true (is_nothing s)
      | Some p ↦ λ at. both (is_nothing (bytes_left s)) (is_nothing (messages s)) (is_nothing (bytes_left s)) false refl (ap is_nothing (messages_of_one s p.0 p.1 at))
          ∙ and_false (is_nothing (bytes_left s)) ∙ sym (some_there s p at)
    ] refl
  where
    and_true : (b : Bool) → (b && true) ≡ b
    and_true true = refl
    and_true false = refl

    some_there : (s : List ℕ) (p : RawMessage × List ℕ) → message_at s ≡ Some p → is_nothing s ≡ false
    some_there [] p at = absurd cc
    some_there (b ∷ s) p at = refl

pub settled_now : (s : List ℕ) (n : ℕ) → IsWhole s n → is_ready (message_of_bytes n s) ≡ true → is_settled s ≡ is_nothing (drop n s)
settled_now s n whole ready =
    behind s n whole
    ∙ ap (λ b. settled_by b (is_report (message_of_bytes n s)) (messages (drop n s)) (is_nothing (bytes_left (drop n s)))) ready
    ∙ nothing_there (drop n s)

pub none_settled : (s : List ℕ) → message_at s ≡ None → is_settled s ≡ false
none_settled s none = ap (λ ms. is_nothing (bytes_left s) && are_settled ms) (messages_of_none s none) ∙ and_false (is_nothing (bytes_left s))

pub none_started : (s : List ℕ) → message_at s ≡ None → is_startup s ≡ false
none_started s none = ap (λ ms. is_nothing (bytes_left s) && are_startup ms) (messages_of_none s none) ∙ and_false (is_nothing (bytes_left s))

pub started : (s : List ℕ) (n : ℕ) → IsWhole s n → is_startup s ≡ (is_authentication_ok (message_of_bytes n s) && is_settled (drop n s))
started s n whole =
    both (is_nothing (bytes_left s)) (are_startup (messages s)) (is_nothing (bytes_left (drop n s))) (are_startup (message_of_bytes n s ∷ messages (drop n s)))
    (ap is_nothing (left_of_one s (message_of_bytes n s) (drop n s) whole.front)) (ap are_startup (messages_of_one s (message_of_bytes n s) (drop n s) whole.front))
    ∙ swap (is_nothing (bytes_left (drop n s))) (is_authentication_ok (message_of_bytes n s)) (are_settled (messages (drop n s)))

-- no byte stands there
pub empties : (s : List ℕ) (b : Bool) → b ≡ (length s == 0) → b ≡ is_nothing s
empties [] b e = e
empties (x ∷ s) b e = e ∙ ne_eqb (length (x ∷ s)) 0 (λ none. omega arith)
