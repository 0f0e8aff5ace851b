-- Plans, and the bytes before and behind a place in them.
use Rattle.std.proofs.Common.{◌≡◌, ℕ, zero, suc, ◌+◌, ◌-◌, ◌<◌, ◌≤◌, inl, inr, Bool, true, cond, List, [], ◌∷◌, ◌++◌, length, take, drop, count_by, refl, sym, ap, ◌∙◌, append_assoc, append-nil, arith, add-one}
use Rattle.std.specs.List.{concat}
use Rattle.std.proofs.Math.Seq.{drop-append-add, drop-cons, take-length, take-add}
use Rattle.std.proofs.lemmas.List.{take-append-drop, take_more, length-append, length-take, drop-append-le}
use Rattle.std.proofs.Math.ListN.{drop_of_length-le}
use Rattle.std.proofs.lemmas.List.Folds.{concat-append}
use Rattle.std.proofs.lemmas.List.Sums.{sum_by-cons}
use Rattle.pg_wire.specs.Giving.{has_bytes, entry_of, bytes_before, bytes_due, IsPlace, PassesBy}

-- ---- entries

-- the entries up to one more
concat-one-more : (entries : List (List ℕ)) (entry : ℕ) → entry < length entries → concat (take (entry + 1) entries) ≡ concat (take entry entries) ++ entry_of entries entry
concat-one-more entries entry low =
    ap concat (take_more entries entry [] low) ∙ concat-append (take entry entries) (entry_of entries entry ∷ [])
    ∙ ap (λ l. concat (take entry entries) ++ l) (append-nil (entry_of entries entry))

-- those from one on
drop-one : (entries : List (List ℕ)) (entry : ℕ) → entry < length entries → drop entry entries ≡ entry_of entries entry ∷ drop (entry + 1) entries
drop-one entries entry low = drop-cons entries entry [] low ∙ ap (λ (n : ℕ). entry_of entries entry ∷ drop n entries) (sym (add-one entry))

count-one : (entries : List (List ℕ)) (entry : ℕ) → entry < length entries →
    count_by has_bytes (drop entry entries) ≡ cond (has_bytes (entry_of entries entry)) 1 0 + count_by has_bytes (drop (entry + 1) entries)
count-one entries entry low = ap (count_by has_bytes) (drop-one entries entry low) ∙ sum_by-cons (λ e. cond (has_bytes e) 1 0) (entry_of entries entry) (drop (entry + 1) entries)

-- fewer entries have no more bytes
concat-fewer : (n m : ℕ) (entries : List (List ℕ)) → n ≤ m → length (concat (take n entries)) ≤ length (concat (take m entries))
concat-fewer zero m entries le = omega arith
concat-fewer (suc n) zero entries le = absurd (omega arith)
concat-fewer (suc n) (suc m) [] le = omega arith
concat-fewer (suc n) (suc m) (e ∷ es) le = let h = concat-fewer n m es (omega arith) in omega (arith, length-append e (concat (take n es)), length-append e (concat (take m es)))

concat-all : (n : ℕ) (entries : List (List ℕ)) → length (concat (take n entries)) ≤ length (concat entries)
concat-all zero entries = omega arith
concat-all (suc n) [] = omega arith
concat-all (suc n) (e ∷ es) = let h = concat-all n es in omega (arith, length-append e (concat (take n es)), length-append e (concat es))

-- where no entry has bytes there are none
concat-none : (entries : List (List ℕ)) → count_by has_bytes entries ≡ 0 → concat entries ≡ []
concat-none [] none = refl
concat-none ([] ∷ es) none = concat-none es (sym (sum_by-cons (λ e. cond (has_bytes e) 1 0) [] es ∙ zero-add-count es) ∙ none)
  where
    zero-add-count : (es : List (List ℕ)) → 0 + count_by has_bytes es ≡ count_by has_bytes es
    zero-add-count es = omega arith
concat-none ((b ∷ bs) ∷ es) none = let one = sum_by-cons (λ e. cond (has_bytes e) 1 0) (b ∷ bs) es in absurd (omega (arith, one, none))

-- and where one has, there are some
concat-some : (entries : List (List ℕ)) → 0 < count_by has_bytes entries → 0 < length (concat entries)
concat-some [] some = absurd (omega (arith, some))
concat-some ([] ∷ es) some = let one = sum_by-cons (λ e. cond (has_bytes e) 1 0) [] es in concat-some es (omega (arith, one, some))
concat-some ((b ∷ bs) ∷ es) some = omega (arith, length-append (b ∷ bs) (concat es))

-- ---- places

-- a place is no farther than its entry
pub place-fits : (entries : List (List ℕ)) (entry at left : ℕ) → IsPlace entries entry at left → at ≤ length (entry_of entries entry)
place-fits entries entry at left p = elim (p.inside) [ inl e ↦ omega arith | inr h ↦ omega arith ]

length-before : (entries : List (List ℕ)) (entry at : ℕ) → at ≤ length (entry_of entries entry) → length (bytes_before entries entry at) ≡ length (concat (take entry entries)) + at
length-before entries entry at fits = length-append (concat (take entry entries)) (take at (entry_of entries entry)) ∙ omega (arith, length-take at (entry_of entries entry))

-- nothing is due before its turn
pub due-later : (entries : List (List ℕ)) (turns entry at : ℕ) → turns ≤ entry → bytes_due entries turns entry at ≡ []
due-later entries turns entry at later =
    let few = concat-fewer turns entry entries later in
    drop_of_length-le (concat (take turns entries)) (omega (arith, length-append (concat (take entry entries)) (take at (entry_of entries entry)), few))

take-past : {X : Type 0} (n : ℕ) (xs : List X) → length xs ≤ n → take n xs ≡ xs
take-past zero [] le = refl
take-past zero (x ∷ xs) le = absurd (omega arith)
take-past (suc n) [] le = refl
take-past (suc n) (x ∷ xs) le = ap (λ l. x ∷ l) (take-past n xs (omega arith))

-- nor behind the last entry
pub due-ended : (entries : List (List ℕ)) (turns entry at : ℕ) → length entries ≤ entry → bytes_due entries turns entry at ≡ []
due-ended entries turns entry at past =
    let few = concat-all turns entries in
    let all : length (concat (take entry entries)) ≡ length (concat entries) = ap (λ (l : List (List ℕ)). length (concat l)) (take-past entry entries past) in
    drop_of_length-le (concat (take turns entries)) (omega (arith, length-append (concat (take entry entries)) (take at (entry_of entries entry)), few))

-- what is due from a place on begins with the rest of its entry
pub due-here : (entries : List (List ℕ)) (turns entry at : ℕ) → entry < turns → entry < length entries → at ≤ length (entry_of entries entry) →
    bytes_due entries turns entry at ≡ drop at (entry_of entries entry) ++ concat (drop (entry + 1) (take turns entries))
due-here [] turns entry at turn low fits = absurd (omega arith)
due-here (e ∷ es) zero entry at turn low fits = absurd (omega arith)
due-here (e ∷ es) (suc t) zero at turn low fits =
    ap (λ (n : ℕ). drop n (e ++ concat (take t es))) (omega (arith, length-take at e)) ∙ drop-append-le at e (concat (take t es)) fits
due-here (e ∷ es) (suc t) (suc n) at turn low fits =
    let front : length (bytes_before (e ∷ es) (suc n) at) ≡ length e + length (bytes_before es n at) =
    ap length (append_assoc e (concat (take n es)) (take at (entry_of es n))) ∙ length-append e (bytes_before es n at) in
    let place : n + 1 ≡ suc n = omega arith in
    let place' : suc n + 1 ≡ suc (n + 1) = omega arith in
    ap (λ (k : ℕ). drop k (e ++ concat (take t es))) front ∙ drop-append-add e (concat (take t es)) (length (bytes_before es n at))
    ∙ due-here es t n at (omega arith) (omega arith) fits
    ∙ ap (λ (k : ℕ). drop at (entry_of es n) ++ concat (drop k (e ∷ take t es))) (sym place')

-- one empty entry more is passed by
pub passes-one : (entries : List (List ℕ)) (from entry : ℕ) → PassesBy entries from entry → entry < length entries → entry_of entries entry ≡ [] →
    PassesBy entries from (entry + 1)
passes-one entries from entry p low none = record {
  before = append-nil (concat (take (entry + 1) entries)) ∙ concat-one-more entries entry low ∙ ap (λ l. concat (take entry entries) ++ l) none ∙ p.before;
  count = sym (count-one entries entry low ∙ ap (λ l. cond (has_bytes l) 1 0 + count_by has_bytes (drop (entry + 1) entries)) none
      ∙ (let h : 0 + count_by has_bytes (drop (entry + 1) entries) ≡ count_by has_bytes (drop (entry + 1) entries) = omega arith in h)) ∙ p.count;
}

-- bytes of an entry are given, but not its last
pub gives-inside : (entries : List (List ℕ)) (entry at left n : ℕ) → IsPlace entries entry at left → at + n < length (entry_of entries entry) →
    (bytes_before entries entry (at + n) ≡ bytes_before entries entry at ++ take n (drop at (entry_of entries entry))) × IsPlace entries entry (at + n) left
gives-inside entries entry at left n p fits = (
  ap (λ l. concat (take entry entries) ++ l) (take-add at n (entry_of entries entry))
      ∙ sym (append_assoc (concat (take entry entries)) (take at (entry_of entries entry)) (take n (drop at (entry_of entries entry)))),
  record { inside = inr fits; count = p.count },
)

-- and its last
pub gives-rest : (entries : List (List ℕ)) (entry at left n : ℕ) → IsPlace entries entry at left → entry < length entries → 0 < n → at + n ≡ length (entry_of entries entry) →
    (bytes_before entries (entry + 1) 0 ≡ bytes_before entries entry at ++ take n (drop at (entry_of entries entry))) × (0 < left) × IsPlace entries (entry + 1) 0 (left - 1)
gives-rest entries entry at left n p low some all =
    let e = entry_of entries entry in
    let whole : take at e ++ take n (drop at e) ≡ e = sym (take-add at n e) ∙ ap (λ (k : ℕ). take k e) all ∙ take-length e in
    let has : has_bytes e ≡ true = has-some e (omega arith) in
    let one : left ≡ 1 + count_by has_bytes (drop (entry + 1) entries) =
    p.count ∙ count-one entries entry low ∙ ap (λ (b : Bool). cond b 1 0 + count_by has_bytes (drop (entry + 1) entries)) has in (
      append-nil (concat (take (entry + 1) entries)) ∙ concat-one-more entries entry low ∙ ap (λ l. concat (take entry entries) ++ l) (sym whole)
          ∙ sym (append_assoc (concat (take entry entries)) (take at e) (take n (drop at e))),
      omega arith,
      record { inside = inl refl; count = omega arith },
    )
  where
    has-some : (e : List ℕ) → 0 < length e → has_bytes e ≡ true
    has-some [] h = absurd (omega arith)
    has-some (b ∷ bs) h = refl

-- where no entry with bytes is left, all was given, and only there
pub all-given : (entries : List (List ℕ)) (entry at : ℕ) → IsPlace entries entry at 0 → length (bytes_before entries entry at) ≡ length (concat entries)
all-given entries entry at p =
    let rest : concat (drop entry entries) ≡ [] = concat-none (drop entry entries) (sym p.count) in
    let split : length (concat entries) ≡ length (concat (take entry entries)) + length (concat (drop entry entries)) =
    ap (λ l. length (concat l)) (sym (take-append-drop entry entries)) ∙ ap length (concat-append (take entry entries) (drop entry entries)) ∙ length-append _ _ in
    let none : length (concat (drop entry entries)) ≡ 0 = ap length rest in
    let front : at ≡ 0 = elim (p.inside) [ inl e ↦ e | inr h ↦ absurd (no-entry entries entry (sym p.count) (omega arith)) ] in
    length-before entries entry at (omega arith) ∙ omega arith
  where
    no-entry : (entries : List (List ℕ)) (entry : ℕ) → count_by has_bytes (drop entry entries) ≡ 0 → 0 < length (entry_of entries entry) → ⊥
    no-entry [] entry none some = omega arith
    no-entry ([] ∷ es) zero none some = omega arith
    no-entry ((b ∷ bs) ∷ es) zero none some = let one = sum_by-cons (λ e. cond (has_bytes e) 1 0) (b ∷ bs) es in omega (arith, one, none)
    no-entry (e ∷ es) (suc n) none some = no-entry es n none some

pub more-to-give : (entries : List (List ℕ)) (entry at left : ℕ) → IsPlace entries entry at left → 0 < left → length (bytes_before entries entry at) < length (concat entries)
more-to-give entries entry at left p some =
    let split : length (concat entries) ≡ length (concat (take entry entries)) + length (concat (drop entry entries)) =
    ap (λ l. length (concat l)) (sym (take-append-drop entry entries)) ∙ ap length (concat-append (take entry entries) (drop entry entries)) ∙ length-append _ _ in
    let l = length-before entries entry at (place-fits entries entry at left p) in
    elim (p.inside) [
      | inl e ↦ let more : 0 < length (concat (drop entry entries)) = concat-some (drop entry entries) (omega (arith, p.count)) in omega arith
      | inr h ↦ let more = entry-fits entries entry in omega arith
    ]
  where
    entry-fits : (entries : List (List ℕ)) (entry : ℕ) → length (entry_of entries entry) ≤ length (concat (drop entry entries))
    entry-fits [] zero = omega arith
    entry-fits [] (suc n) = omega arith
    entry-fits (e ∷ es) zero = omega (arith, length-append e (concat es))
    entry-fits (e ∷ es) (suc n) = entry-fits es n

-- an entry with bytes is one of the plan
pub entry-inside : (entries : List (List ℕ)) (entry : ℕ) → 0 < length (entry_of entries entry) → entry < length entries
entry-inside [] entry some = absurd (omega arith)
entry-inside (e ∷ es) zero some = omega arith
entry-inside (e ∷ es) (suc n) some = let h = entry-inside es n some in omega arith
