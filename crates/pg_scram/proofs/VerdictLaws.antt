-- The steps of reading a server's last message.
use Rattle.std.proofs.Common.{◌≡◌, ◌≢◌, ℕ, ◌+◌, ◌<◌, ◌==◌, ◌||◌, nat_eq, List, [], ◌∷◌, ◌++◌, length, get_or, take, true, false, Some, refl, sym, ap, ap₂, ◌∙◌, arith, inl, inr}
use lib.Bits.{bit_or, bit_xor, xor_self, xor_assoc, xor_zero_r, or_add_and, and_le_l, and_le_r}
use Rattle.std.proofs.lemmas.Bool.{cases_Bool, eqb-true, eq-eqb}
use Rattle.std.proofs.lemmas.Bool.Decides.{same_from_decides}
use Rattle.std.proofs.lemmas.List.{take_more, same_from_push}
use Rattle.std.proofs.lemmas.Slice.Eq.{bytes_eq-Decides}
use Rattle.std.proofs.lemmas.Str.{IsUtf8-from_is_utf8, is_utf8-from_IsUtf8}
use Rattle.std.specs.List.{list_any}
use Rattle.std.specs.Str.{byte, bytes_eq, is_utf8, IsUtf8}
use Rattle.pg_spec.specs.Faults.{BadMessage, ServerError}
use Rattle.pg_spec.specs.Passwords.{told_by}

-- ---- bytes that are compared

-- two numbers whose bits don't differ
same : (x y : ℕ) → bit_xor x y ≡ 0 → x ≡ y
same x y e = sym (xor_zero_r x) ∙ ap (bit_xor x) (sym (xor_self y)) ∙ sym (xor_assoc x y y) ∙ ap (λ z. bit_xor z y) e

-- the bytes up to an index differ exactly where a bit is set
pub record Compares (xs ys : List ℕ) (i differing : ℕ) : Type 0 where
  pub none : differing ≡ 0 → take i xs ≡ take i ys
  pub some : take i xs ≡ take i ys → differing ≡ 0

pub compares-start : (xs ys : List ℕ) → Compares xs ys 0 0
compares-start xs ys = record { none = λ e. refl; some = λ e. refl }

pub compares-more : (xs ys : List ℕ) (i differing : ℕ) → i < length xs → i < length ys → Compares xs ys i differing
    → Compares xs ys (i + 1) (bit_or differing (bit_xor (get_or xs i 0) (get_or ys i 0)))
compares-more xs ys i d in_x in_y h =
    let x : ℕ = get_or xs i 0 in
    let y : ℕ = get_or ys i 0 in
    let more_x : take (i + 1) xs ≡ take i xs ++ x ∷ [] = take_more xs i 0 in_x in
    let more_y : take (i + 1) ys ≡ take i ys ++ y ∷ [] = take_more ys i 0 in_y in
    record {
      none = λ e.
          let old : d ≡ 0 = omega (arith, or_add_and d (bit_xor x y), and_le_l d (bit_xor x y), and_le_r d (bit_xor x y)) in
          let new : bit_xor x y ≡ 0 = omega (arith, or_add_and d (bit_xor x y), and_le_l d (bit_xor x y), and_le_r d (bit_xor x y)) in
          more_x ∙ ap₂ (λ l z. l ++ z ∷ []) (h.none old) (same x y new) ∙ sym more_y;
      some = λ e.
          let both = same_from_push (take i xs) (take i ys) x y (sym more_x ∙ e ∙ more_y) in
          let old : d ≡ 0 = h.some both.0 in
          ap₂ bit_or old (ap (bit_xor x) (sym both.1) ∙ xor_self x);
    }

-- no bit is set exactly where the lists are equal
pub compared : (xs ys : List ℕ) (differing : ℕ) → (differing ≡ 0 → xs ≡ ys) → (xs ≡ ys → differing ≡ 0) → nat_eq differing 0 ≡ bytes_eq xs ys
compared xs ys d none some =
    same_from_decides (nat_eq d 0) (bytes_eq xs ys) (λ e. none (eqb-true d 0 e), λ e. eq-eqb d 0 (some e)) (bytes_eq-Decides xs ys)

false-true : false ≡ true → ⊥
false-true e = cc e

-- lists of two lengths are apart
pub apart : (xs ys : List ℕ) → length xs ≢ length ys → false ≡ bytes_eq xs ys
apart xs ys h = same_from_decides false (bytes_eq xs ys) (λ e. absurd (false-true e), λ e. absurd (h (ap length e))) (bytes_eq-Decides xs ys)

-- ---- an error that the server tells

pub not_text : (text : List ℕ) → (IsUtf8 text → ⊥) → told_by text ≡ Some BadMessage
not_text text h = elim (cases_Bool (is_utf8 text)) [
  | inl is ↦ absurd (h (IsUtf8-from_is_utf8 text is))
  | inr other ↦ rw other refl
]

pub told : (text : List ℕ) → IsUtf8 text → list_any (λ c. c == 0 || c == byte "=" || c == byte ",") text ≡ false → told_by text ≡ Some (ServerError text)
told text h free = rw (is_utf8-from_IsUtf8 text h, free) refl
