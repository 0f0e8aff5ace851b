-- What a search among those that are kept finds.
use Rattle.std.proofs.Common.{◌≡◌, ◌≢◌, ◌<◌, ◌≤◌, ℕ, zero, suc, List, [], ◌∷◌, length, false, Result, Ok, Err, MatchResult, refl, sym, ◌∙◌, subst, arith, inl, inr}
use Rattle.std.specs.List.Sorted.{IsSearchInRange, IsBinarySearchResult, IsNonDecreasingBy}
use Rattle.std.specs.Ordering.{nat_cmp, ordering_index}
use Rattle.std.proofs.lemmas.Cmp.{ranked}
use Rattle.std.proofs.lemmas.List.Sorted.{IsNonDecreasingBy-from_default}
use Rattle.std.proofs.lemmas.Bool.Decides.{nat_tests, leb_tells}
use Rattle.pg_hub.specs.declared.mailbox.Mailbox.TheVariants.{Empty}
use Rattle.pg_hub.specs.declared.mailbox.Kept.{Kept}
use Rattle.pg_hub.specs.Mail.{has, Ascending}
use Rattle.pg_hub.specs.Places.{IsAt, kept_at}
use Rattle.pg_hub.proofs.Keeping.{has-there, is-at}

abbrev id_at : List Kept → ℕ → ℕ
id_at ms i = (kept_at ms i).id

above : (k : ℕ) (ms : List Kept) (i : ℕ) → Ascending k ms → i < length ms → k ≤ id_at ms i
above k [] i a low = absurd (omega arith)
above k (m ∷ ms) zero a low = a.0
above k (m ∷ ms) (suc i) a low = let r : suc m.id ≤ id_at ms i = above (suc m.id) ms i a.1 (omega arith) in omega (arith, a.0, r)

rising : (k : ℕ) (ms : List Kept) (i j : ℕ) → Ascending k ms → i < j → j < length ms → id_at ms i < id_at ms j
rising k [] i j a low inside = absurd (omega arith)
rising k (m ∷ ms) i zero a low inside = absurd (omega (arith, low))
rising k (m ∷ ms) zero (suc j) a low inside = above (suc m.id) ms j a.1 (omega arith)
rising k (m ∷ ms) (suc i) (suc j) a low inside = rising (suc m.id) ms i j a.1 (omega arith) (omega arith)

not-falling : (ms : List Kept) (i j : ℕ) → Ascending 0 ms → i ≤ j → j < length ms → id_at ms i ≤ id_at ms j
not-falling ms i j a low inside = elim (leb_tells (suc i) j) [
  | inl e ↦ let r = rising 0 ms i j a e.1 inside in omega (arith, r)
  | inr e ↦ let same : i ≡ j = omega (arith, low, e.1) in subst (λ (n : ℕ). id_at ms i ≤ id_at ms n) same (omega arith)
]

comparisons_rise : (ms : List Kept) (id : ℕ) → Ascending 0 ms → IsNonDecreasingBy (λ (m : Kept). ordering_index (nat_cmp m.id id)) ms
comparisons_rise ms id a = IsNonDecreasingBy-from_default (λ (m : Kept). ordering_index (nat_cmp m.id id)) ms (record { id = 0; mailbox = Empty }) (λ i j low inside.
    let ids : id_at ms i ≤ id_at ms j = not-falling ms i j a low inside in
    grind (arith, nat_tests))

none-has : (id : ℕ) (ms : List Kept) → ((j : ℕ) → j < length ms → id_at ms j ≢ id) → has id ms ≡ false
none-has id [] h = refl
none-has id (m ∷ ms) h = has-there m ms id (h zero (omega arith)) ∙ none-has id ms (λ j low. h (suc j) (omega (arith, low)))

pub searched : (ms : List Kept) (id : ℕ) (r : Result ℕ ℕ) → Ascending 0 ms → IsSearchInRange r (length ms) → IsBinarySearchResult (λ (m : Kept). nat_cmp m.id id) ms r →
    MatchResult r (IsAt id ms) (λ _. has id ms ≡ false)
searched ms id (Ok at) a in_range equal = is-at id ms at in_range (ranked _ id _ (sym (equal (record { id = 0; mailbox = Empty }))))
searched ms id (Err at) a in_range parted =
    let rise = comparisons_rise ms id a in
    none-has id ms (λ j low. elim (leb_tells at j) [
      | inl e ↦ let r : id < id_at ms j = ranked _ id _ (sym ((parted rise).1 j (record { id = 0; mailbox = Empty }) e.1 low)) in λ is. absurd (omega (arith, r, is))
      | inr e ↦ let r : id_at ms j < id = ranked _ id _ (sym ((parted rise).0 j (record { id = 0; mailbox = Empty }) (omega arith) e.1)) in λ is. absurd (omega (arith, r, is))
    ])
