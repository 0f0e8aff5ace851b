-- What is left of the requests behind the first ones, which went out whole.
use Rattle.std.proofs.Common.{◌≡◌, ◌<◌, ◌≤◌, ℕ, zero, suc, ◌+◌, ◌-◌, List, [], ◌∷◌, ◌++◌, length, Bool, true, refl, sym, ◌∙◌, ap, subst, arith, inl, inr, slice_set, drop}
use Rattle.std.proofs.lemmas.List.{length-set}
use Rattle.pg_hub.specs.Rests.{Rest, Outbound, rest_at, rests_of, nothing_left, weight_in, PopsFirst}
use Rattle.pg_hub.specs.Standing.{StandsOut}
use Rattle.pg_hub.specs.Waiting.{parts_in}
use Rattle.pg_hub.proofs.Keeping.{write-same}
use Rattle.pg_hub.proofs.Simulation.{parts-set, stands-went, weight-less}

pub length-rests-of : (w : ℕ) (left : List Rest) → length (rests_of w left) ≡ w + length left
length-rests-of zero left = omega arith
length-rests-of (suc w) left = let r : length (rests_of w left) ≡ w + length left = length-rests-of w left in omega arith

pub at-sent : (w : ℕ) (left : List Rest) (k : ℕ) → k < w → rest_at (rests_of w left) k ≡ nothing_left
at-sent zero left k low = absurd (omega arith)
at-sent (suc w) left zero low = refl
at-sent (suc w) left (suc k) low = at-sent w left k (omega arith)

pub at-left : (w : ℕ) (left : List Rest) (i k : ℕ) → k ≡ w + i → rest_at (rests_of w left) k ≡ rest_at left i
at-left zero left i k e = ap (rest_at left) (omega (arith, e))
at-left (suc w) left i zero e = absurd (omega (arith, e))
at-left (suc w) left i (suc k) e = at-left w left i k (omega (arith, e))

pub set-left : (w : ℕ) (left : List Rest) (i k : ℕ) (r : Rest) → k ≡ w + i → slice_set (rests_of w left) k r ≡ rests_of w (slice_set left i r)
set-left zero left i k r e = ap (λ (n : ℕ). slice_set left n r) (omega (arith, e))
set-left (suc w) left i zero r e = absurd (omega (arith, e))
set-left (suc w) left i (suc k) r e = ap (λ (l : List Rest). nothing_left ∷ l) (set-left w left i k r (omega (arith, e)))

pub push-left : (w : ℕ) (left : List Rest) (r : Rest) → rests_of w (left ++ r ∷ []) ≡ rests_of w left ++ r ∷ []
push-left zero left r = refl
push-left (suc w) left r = ap (λ (l : List Rest). nothing_left ∷ l) (push-left w left r)

-- the first of those that are left, where nothing of it is left any more
pub whole-more : (w : ℕ) (left : List Rest) → rests_of w (nothing_left ∷ left) ≡ rests_of (w + 1) left
whole-more w left = let e : suc w ≡ w + 1 = omega arith in by_suc w ∙ ap (λ (n : ℕ). rests_of n left) e
  where
    by_suc : (w : ℕ) → rests_of w (nothing_left ∷ left) ≡ rests_of (suc w) left
    by_suc zero = refl
    by_suc (suc w) = ap (λ (l : List Rest). nothing_left ∷ l) (by_suc w)

-- a copy isn't among the first ones
pub copy-is-left : (w : ℕ) (left : List Rest) (k : ℕ) → (rest_at (rests_of w left) k).copying ≡ true → w ≤ k
copy-is-left zero left k c = omega arith
copy-is-left (suc w) left zero c = absurd cc
copy-is-left (suc w) left (suc k) c = let r : w ≤ k = copy-is-left w left k c in omega arith

-- a copy is written to
pub written : (w : ℕ) (left : List Rest) (place : ℕ) (old new : Rest) (part : List ℕ) (on : Bool) → (rest_at (rests_of w left) place).copying ≡ true → old ≡ rest_at left (place - w) →
    new ≡ record { parts = old.parts ++ part ∷ []; copying = on } →
    rests_of w (slice_set left (place - w) new) ≡ slice_set (rests_of w left) place (record { parts = (rest_at (rests_of w left) place).parts ++ part ∷ []; copying = on })
written w left place old new part on copies here is =
    let behind = copy-is-left w left place copies in
    let e : place ≡ w + (place - w) = omega (arith, behind) in
    let at = at-left w left (place - w) place e ∙ sym here in
    sym (set-left w left (place - w) place new e)
    ∙ ap (λ (r : Rest). slice_set (rests_of w left) place r) (is ∙ ap (λ (r : Rest). record { parts = r.parts ++ part ∷ []; copying = on }) (sym at))

no_more : (w : ℕ) → w ≡ w + 0
no_more w = omega arith

-- ---- the oldest part goes out

-- none waits
pub none-pops : (w : ℕ) (left : List Rest) (first now : Rest) → first ≡ rest_at left 0 → first.parts ≡ [] → now ≡ first →
    ((rest_at (rests_of w left) w).parts ≡ []) × (rests_of w (slice_set left 0 now) ≡ rests_of w left)
none-pops w left first now e none same = (
  ap (λ (r : Rest). r.parts) (at-left w left 0 w (no_more w) ∙ sym e) ∙ none,
  ap (rests_of w) (write-same left 0 now nothing_left (same ∙ e)),
)

-- one does
pub one-pops : (w : ℕ) (left : List Rest) (first now : Rest) (part : List ℕ) → first ≡ rest_at left 0 → first.parts ≡ part ∷ now.parts → now.copying ≡ first.copying → (now ≡ nothing_left → ⊥) →
    PopsFirst (record { rests = rests_of w left; whole = w }) (record { rests = rests_of w (slice_set left 0 now); whole = w }) part
one-pops w left first now part e parts copying apart =
    let at = at-left w left 0 w (no_more w) ∙ sym e in
    record {
      left = now;
      parts = ap (λ (r : Rest). r.parts) at ∙ parts;
      copying = copying ∙ sym (ap (λ (r : Rest). r.copying) at);
      rests = sym (set-left w left 0 w now (no_more w));
      whole = inr (apart, refl);
    }

-- the last
pub last-pops : (w : ℕ) (left rest : List Rest) (first now : Rest) (part : List ℕ) → 0 < length left → first ≡ rest_at left 0 → first.parts ≡ part ∷ now.parts → now.copying ≡ first.copying → now ≡ nothing_left →
    rest ≡ drop 1 (slice_set left 0 now) → PopsFirst (record { rests = rests_of w left; whole = w }) (record { rests = rests_of (w + 1) rest; whole = w + 1 }) part
last-pops w [] rest first now part some e parts copying is behind = absurd (omega arith)
last-pops w (x ∷ left) rest first now part some e parts copying is behind =
    let at = at-left w (x ∷ left) 0 w (no_more w) ∙ sym e in
    record {
      left = now;
      parts = ap (λ (r : Rest). r.parts) at ∙ parts;
      copying = copying ∙ sym (ap (λ (r : Rest). r.copying) at);
      rests = ap (rests_of (w + 1)) behind ∙ sym (whole-more w left) ∙ ap (λ (r : Rest). rests_of w (r ∷ left)) (sym is) ∙ sym (set-left w (x ∷ left) 0 w now (no_more w));
      whole = inl (is, refl);
    }

-- one less waits then
pub pops-less : (old new : Outbound) (part : List ℕ) → PopsFirst old new part → old.whole < length old.rests → parts_in new.rests + 1 ≡ parts_in old.rests
pops-less old new part p low =
    let count : parts_in (slice_set old.rests old.whole p.left) + length (rest_at old.rests old.whole).parts ≡ parts_in old.rests + length p.left.parts = parts-set old.rests old.whole p.left low in
    let one : length (rest_at old.rests old.whole).parts ≡ suc (length p.left.parts) = ap length p.parts in
    let same : parts_in new.rests ≡ parts_in (slice_set old.rests old.whole p.left) = ap parts_in p.rests in
    omega (arith, count, one, same)

pub pops-lighter : (old new : Outbound) (part : List ℕ) → PopsFirst old new part → old.whole < length old.rests → weight_in new.rests + (length part + 1) ≡ weight_in old.rests
pops-lighter old new part p low = ap (λ (n : ℕ). n + (length part + 1)) (ap weight_in p.rests) ∙ weight-less old.rests old.whole part p.left low p.parts

pub pops-size : (old new : Outbound) (part : List ℕ) → PopsFirst old new part → length new.rests ≡ length old.rests
pops-size old new part p = ap length p.rests ∙ length-set old.rests old.whole p.left

pub pops-stands : (old new : Outbound) (unsent unsent' started : ℕ) (part : List ℕ) → PopsFirst old new part → old.whole < length old.rests → StandsOut (length old.rests) old.rests unsent old.whole started →
    unsent' + (length part + 1) ≡ unsent → StandsOut (length new.rests) new.rests unsent' new.whole (old.whole + 1)
pops-stands old new unsent unsent' started part p low o eu =
    subst (λ (n : ℕ). StandsOut n new.rests unsent' new.whole (old.whole + 1)) (sym (pops-size old new part p))
    (stands-went (length old.rests) old.rests new.rests unsent unsent' old.whole new.whole started part p.left o low p.parts p.rests eu
    (elim p.whole [ inl w ↦ inl w.1 | inr w ↦ inr w.1 ]))
