-- The tags of a reply are heard message by message.
use Rattle.std.proofs.Common.{◌≡◌, ℕ, ◌+◌, ◌-◌, ◌≤◌, Bool, true, false, ◌||◌, ◌&&◌, List, [], ◌∷◌, None, refl, sym, ap, ◌∙◌, subst, arith, length, take, drop, get_or, eqb}
use Rattle.std.specs.List.{list_any}
use Rattle.std.proofs.Math.Seq.{take-length}
use Rattle.std.proofs.lemmas.Bool.{eq-eqb, ne_eqb}
use Rattle.std.proofs.lemmas.List.{length-drop, drop-drop, get_or-drop}
use Rattle.pg_spec.specs.Batches.{is_nothing}
use Rattle.pg_spec.specs.RawMessages.{RawMessage, message_at, messages, bytes_left, is_ready, ends_in}
use Rattle.pg_machine.specs.declared.front.Found.{Found}
use Rattle.pg_machine.specs.declared.front.Found.TheVariants.{Whole, Short, Bad}
use Rattle.pg_wire.specs.Fronts.{IsWhole, message_of_bytes}
use Rattle.pg_machine.specs.Fronts.{FrontIs}
use Rattle.pg_wire.proofs.Cuts.{messages_of_one, left_of_one, messages_of_none, left_of_none}
use Rattle.pg_machine.specs.declared.tags.Tags.{Tags}
use Rattle.pg_machine.specs.Serving.{is_error}
use Rattle.pg_machine.specs.Requests.{is_copy_in}
use Rattle.pg_machine.specs.Tags.{heard, heard_all, unheard, has_two}

-- so much was heard, up to here
pub record IsHeard (s : List ℕ) (at : ℕ) (t : Tags) : Type 0 where
  pub fits : at ≤ length s
  pub heard : heard_all t (messages (drop at s)) ≡ heard_all unheard (messages s)
  pub left : bytes_left (drop at s) ≡ bytes_left s

rest_is : (s : List ℕ) (at : ℕ) → take (length s - at) (drop at s) ≡ drop at s
rest_is s at = ap (λ k. take k (drop at s)) (sym (length-drop at s)) ∙ take-length (drop at s)

pub heard_more : (s : List ℕ) (at n : ℕ) (t : Tags) → IsHeard s at t → IsWhole (take (length s - at) (drop at s)) n →
    IsHeard s (at + n) (heard t (get_or s at 0))
heard_more s at n t was whole =
    let here : IsWhole (drop at s) n = subst (λ (x : List ℕ). IsWhole x n) (rest_is s at) whole in
    let one : messages (drop at s) ≡ message_of_bytes n (drop at s) ∷ messages (drop (at + n) s)
    = messages_of_one (drop at s) _ _ here.front ∙ ap (λ (x : List ℕ). message_of_bytes n (drop at s) ∷ messages x) (drop-drop n at s) in
    let tag : (message_of_bytes n (drop at s)).tag ≡ get_or s at 0 = get_or-drop at s 0 0 ∙ ap (λ i. get_or s i 0) (let e : at + 0 ≡ at = omega arith in e) in
    record {
      fits = omega (arith, here.fits, length-drop at s, was.fits);
      heard = ap (λ tag. heard_all (heard t tag) (messages (drop (at + n) s))) (sym tag) ∙ sym (ap (heard_all t) one) ∙ was.heard;
      left = ap bytes_left (sym (drop-drop n at s)) ∙ sym (left_of_one (drop at s) _ _ here.front) ∙ was.left;
    }

-- ---- what was heard is what stands there

or_none : (b : Bool) → b ≡ (b || false)
or_none true = refl
or_none false = refl

or_assoc : (a b c : Bool) → ((a || b) || c) ≡ (a || (b || c))
or_assoc true b c = refl
or_assoc false b c = refl

heard-ready : (t : Tags) (ms : List RawMessage) → (heard_all t ms).ready ≡ (t.ready || list_any is_ready ms)
heard-ready t [] = or_none t.ready
heard-ready t (m ∷ ms) = heard-ready (heard t m.tag) ms ∙ or_assoc t.ready (is_ready m) (list_any is_ready ms)

heard-error : (t : Tags) (ms : List RawMessage) → (heard_all t ms).error ≡ (t.error || list_any is_error ms)
heard-error t [] = or_none t.error
heard-error t (m ∷ ms) = heard-error (heard t m.tag) ms ∙ or_assoc t.error (is_error m) (list_any is_error ms)

heard-copy_in : (t : Tags) (ms : List RawMessage) → (heard_all t ms).copy_in ≡ (t.copy_in || list_any is_copy_in ms)
heard-copy_in t [] = or_none t.copy_in
heard-copy_in t (m ∷ ms) = heard-copy_in (heard t m.tag) ms ∙ or_assoc t.copy_in (is_copy_in m) (list_any is_copy_in ms)

again-more : (a k c l h : Bool) → (((a || (k && c)) || ((k || c) && l)) || h) ≡ ((a || (k && (c || l))) || ((c && l) || h))
again-more true k c l h = refl
again-more false true true l h = refl
again-more false true false l h = refl
again-more false false true l h = refl
again-more false false false l h = refl

again-none : (a k : Bool) → a ≡ ((a || (k && false)) || false)
again-none true k = refl
again-none false true = refl
again-none false false = refl

heard-again : (t : Tags) (ms : List RawMessage) → (heard_all t ms).again ≡ ((t.again || (t.copy_in && list_any is_copy_in ms)) || has_two is_copy_in ms)
heard-again t [] = again-none t.again t.copy_in
heard-again t (m ∷ ms) = heard-again (heard t m.tag) ms ∙ again-more t.again t.copy_in (is_copy_in m) (list_any is_copy_in ms) (has_two is_copy_in ms)

heard-last : (t : Tags) (m : RawMessage) (ms : List RawMessage) → (heard_all t (m ∷ ms)).ends ≡ ends_in is_copy_in (m ∷ ms)
heard-last t m [] = refl
heard-last t m (n ∷ ms) = heard-last (heard t m.tag) n ms

heard-ends : (ms : List RawMessage) → (heard_all unheard ms).ends ≡ ends_in is_copy_in ms
heard-ends [] = refl
heard-ends (m ∷ ms) = heard-last unheard m ms

-- all was heard
pub record AreTags (s : List ℕ) (at : ℕ) (t : Tags) : Type 0 where
  pub whole : (eqb at (length s)) ≡ is_nothing (bytes_left s)
  pub ready : t.ready ≡ list_any is_ready (messages s)
  pub error : t.error ≡ list_any is_error (messages s)
  pub copy_in : t.copy_in ≡ list_any is_copy_in (messages s)
  pub again : t.again ≡ has_two is_copy_in (messages s)
  pub ends : t.ends ≡ ends_in is_copy_in (messages s)

nothing_behind : (s : List ℕ) (at : ℕ) → at ≤ length s → eqb at (length s) ≡ is_nothing (drop at s)
nothing_behind s at fits = by_rest (drop at s) (length-drop at s)
  where
    by_rest : (rest : List ℕ) → length rest ≡ length s - at → eqb at (length s) ≡ is_nothing rest
    by_rest [] e = eq-eqb at (length s) (omega (arith, e))
    by_rest (b ∷ rest) e = ne_eqb at (length s) (λ same. absurd (omega (arith, e)))

pub heard_whole : (s : List ℕ) (at : ℕ) (t : Tags) → IsHeard s at t → message_at (take (length s - at) (drop at s)) ≡ None → AreTags s at t
heard_whole s at t was none =
    let none_here : message_at (drop at s) ≡ None = ap message_at (sym (rest_is s at)) ∙ none in
    let same : t ≡ heard_all unheard (messages s) = ap (heard_all t) (sym (messages_of_none (drop at s) none_here)) ∙ was.heard in
    record {
      whole = nothing_behind s at was.fits ∙ ap is_nothing (sym (left_of_none (drop at s) none_here) ∙ was.left);
      ready = ap (λ (t : Tags). t.ready) same ∙ heard-ready unheard (messages s);
      error = ap (λ (t : Tags). t.error) same ∙ heard-error unheard (messages s);
      copy_in = ap (λ (t : Tags). t.copy_in) same ∙ heard-copy_in unheard (messages s);
      again = ap (λ (t : Tags). t.again) same ∙ heard-again unheard (messages s);
      ends = ap (λ (t : Tags). t.ends) same ∙ heard-ends (messages s);
    }

-- where no whole message was found none stands there
pub none_found : (s : List ℕ) (r : Found) → FrontIs s r → ((n : ℕ) → r ≡ Whole n → ⊥) → message_at s ≡ None
none_found s (Whole n) is none = absurd (none n refl)
none_found s Short is none = is.0
none_found s Bad is none = is.0
