-- What `parse` of std reads is the number that a text writes.
use Rattle.std.proofs.Common.{◌≡◌, ℕ, zero, suc, eqb, cond, ◌^◌, ◌<◌, ◌&&◌, List, [], ◌∷◌, length, drop, Bool, true, false, Option, Some, None, Result, Ok, Err, refl, sym, ap, ◌∙◌, arith, ltb, if◌then◌else◌}
use Rattle.std.specs.Result.{result_ok}
use Rattle.std.specs.Str.{all_ascii_digits, IsUtf8, IsAscii}
use Rattle.std.specs.Str.Parse.{digits_value, without_leading_plus, ParsesUnsigned}
use Rattle.std.proofs.lemmas.Bool.{ltb-true, lt-ltb, eqb-true}
use Rattle.std.proofs.lemmas.Str.Parse.{IsNumeralModel, numerals_by_value, tells_all_ascii_digits}
use Rattle.std.proofs.lemmas.Fmt.{IsAscii-from_digits}
use Rattle.std.proofs.lemmas.Str.{IsUtf8-from_ascii, IsUtf8-nil}
use Rattle.pg_spec.specs.Numerals.{number_in}

digits : IsNumeralModel (λ ds. all_ascii_digits ds ≡ true) (digits_value 10)
digits = numerals_by_value (λ ds. all_ascii_digits ds ≡ true) tells_all_ascii_digits

-- the test of a numeral, by its three parts
written : (ds : List ℕ) (a b c : Bool) (n : ℕ) → a ≡ true → b ≡ true → c ≡ true → (if (a && b) && c then Some n else None) ≡ Some n
written ds true true true n e f g = refl
written ds false b c n e f g = absurd cc
written ds true false c n e f g = absurd cc
written ds true true false n e f g = absurd cc

not-written : (a b c : Bool) (n : ℕ) → (a ≡ true → b ≡ true → c ≡ true → ⊥) → ◌≡◌ {A = Option ℕ} (if (a && b) && c then Some n else None) None
not-written true true true n h = absurd (h refl refl refl)
not-written false b c n h = refl
not-written true false c n h = refl
not-written true true false n h = refl

-- the number that a text writes, by what `parse` answers
pub number-parsed : {E : Type 0} (k : ℕ) (text : List ℕ) (r : Result ℕ E) → ParsesUnsigned k 10 text r → number_in k text ≡ result_ok r
number-parsed k text (Ok x) h =
    let ds = without_leading_plus text in
    let some : 0 < length ds = h.0.0.0 in
    let fits : digits_value 10 ds < 2 ^ k = h.0.1 in
    written ds (ltb 0 (length ds)) (all_ascii_digits ds) (ltb (digits_value 10 ds) (2 ^ k)) (digits_value 10 ds)
    (lt-ltb _ _ some) (digits.from ds h.0.0.1) (lt-ltb _ _ fits) ∙ ap (λ n. Some n) (sym h.1)
number-parsed k text (Err e) h =
    let ds = without_leading_plus text in
    not-written (ltb 0 (length ds)) (all_ascii_digits ds) (ltb (digits_value 10 ds) (2 ^ k)) (digits_value 10 ds)
    (λ a b c. h ((ltb-true _ _ a, digits.to ds b), ltb-true _ _ c))

ascii-more : (c : ℕ) (cs : List ℕ) → c < 128 → IsAscii cs → IsAscii (c ∷ cs)
ascii-more c cs h k zero = h
ascii-more c cs h k (suc i) = k i

-- digits, with a plus in front or not, are a text
digits-text : (b : Bool) (c : ℕ) (cs : List ℕ) → eqb c 43 ≡ b → all_ascii_digits (drop (cond b 1 0) (c ∷ cs)) ≡ true → IsUtf8 (c ∷ cs)
digits-text true c cs e h = IsUtf8-from_ascii (c ∷ cs) (ascii-more c cs (let s : c ≡ 43 = eqb-true c 43 e in omega arith) (IsAscii-from_digits cs (digits.to cs h)))
digits-text false c cs e h = IsUtf8-from_ascii (c ∷ cs) (IsAscii-from_digits (c ∷ cs) (digits.to (c ∷ cs) h))

digits-utf8 : (text : List ℕ) → all_ascii_digits (without_leading_plus text) ≡ true → IsUtf8 text
digits-utf8 [] h = IsUtf8-nil
digits-utf8 (c ∷ cs) h = digits-text (eqb c 43) c cs refl h

-- bytes that aren't UTF-8 write no number
pub no-number : (k : ℕ) (text : List ℕ) → ¬ (IsUtf8 text) → number_in k text ≡ None
no-number k text h =
    let ds = without_leading_plus text in
    not-written (ltb 0 (length ds)) (all_ascii_digits ds) (ltb (digits_value 10 ds) (2 ^ k)) (digits_value 10 ds) (λ a b c. h (digits-utf8 text b))
