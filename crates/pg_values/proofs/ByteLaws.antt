-- What two fronts of the same bytes have in common.
use Rattle.std.proofs.Common.{◌≡◌, ℕ, ℤ, ◌<◌, ◌^◌, List, ◌++◌, length, take, drop, ap, refl, sym, ◌∙◌, rules, FitsSigned, w16, w32}
use Rattle.std.specs.Int.{to_be_bytes, from_be_bytes, cast_signed}
use Rattle.std.proofs.lemmas.List.{take_at, drop_at}
use Rattle.std.proofs.lemmas.Nat.{from_be_bytes-to_be_bytes_2, from_be_bytes-to_be_bytes_4}
use Rattle.pg_values.specs.Numbers.{i16_bytes, i32_bytes}

-- of one length, they are the same
pub same_front : (n : ℕ) (a b r s : List ℕ) → length a ≡ n → length b ≡ n → a ++ r ≡ b ++ s → a ≡ b
same_front n a b r s la lb e = sym (take_at a r n la) ∙ ap (λ (l : List ℕ). take n l) e ∙ take_at b s n lb

pub same_rest : (n : ℕ) (a b r s : List ℕ) → length a ≡ n → length b ≡ n → a ++ r ≡ b ++ s → r ≡ s
same_rest n a b r s la lb e = sym (drop_at a r n la) ∙ ap (λ (l : List ℕ). drop n l) e ∙ drop_at b s n lb

-- ---- numbers of two and of four bytes

pub word_same : (m n : ℕ) (r s : List ℕ) → m < 2 ^ 32 → n < 2 ^ 32 → to_be_bytes w32 m ++ r ≡ to_be_bytes w32 n ++ s → m ≡ n
word_same m n r s a b e =
    sym (from_be_bytes-to_be_bytes_4 m a)
    ∙ ap (λ (l : List ℕ). from_be_bytes w32 l) (same_front 4 (to_be_bytes w32 m) (to_be_bytes w32 n) r s refl refl e)
    ∙ from_be_bytes-to_be_bytes_4 n b

pub word_rest : (m n : ℕ) (r s : List ℕ) → to_be_bytes w32 m ++ r ≡ to_be_bytes w32 n ++ s → r ≡ s
word_rest m n r s e = same_rest 4 (to_be_bytes w32 m) (to_be_bytes w32 n) r s refl refl e

pub half_same : (m n : ℕ) (r s : List ℕ) → m < 2 ^ 16 → n < 2 ^ 16 → to_be_bytes w16 m ++ r ≡ to_be_bytes w16 n ++ s → m ≡ n
half_same m n r s a b e =
    sym (from_be_bytes-to_be_bytes_2 m a)
    ∙ ap (λ (l : List ℕ). from_be_bytes w16 l) (same_front 2 (to_be_bytes w16 m) (to_be_bytes w16 n) r s refl refl e)
    ∙ from_be_bytes-to_be_bytes_2 n b

pub half_rest : (m n : ℕ) (r s : List ℕ) → to_be_bytes w16 m ++ r ≡ to_be_bytes w16 n ++ s → r ≡ s
half_rest m n r s e = same_rest 2 (to_be_bytes w16 m) (to_be_bytes w16 n) r s refl refl e

-- signed numbers
back16 : (z : ℤ) → FitsSigned w16 z → cast_signed w16 (from_be_bytes w16 (i16_bytes z)) ≡ z
back16 z f = search rules

back32 : (z : ℤ) → FitsSigned w32 z → cast_signed w32 (from_be_bytes w32 (i32_bytes z)) ≡ z
back32 z f = search rules

pub int_same : (y z : ℤ) (r s : List ℕ) → FitsSigned w32 y → FitsSigned w32 z → i32_bytes y ++ r ≡ i32_bytes z ++ s → y ≡ z
int_same y z r s a b e =
    sym (back32 y a)
    ∙ ap (λ (l : List ℕ). cast_signed w32 (from_be_bytes w32 l)) (same_front 4 (i32_bytes y) (i32_bytes z) r s refl refl e)
    ∙ back32 z b

pub int_rest : (y z : ℤ) (r s : List ℕ) → i32_bytes y ++ r ≡ i32_bytes z ++ s → r ≡ s
int_rest y z r s e = same_rest 4 (i32_bytes y) (i32_bytes z) r s refl refl e

pub short_same : (y z : ℤ) (r s : List ℕ) → FitsSigned w16 y → FitsSigned w16 z → i16_bytes y ++ r ≡ i16_bytes z ++ s → y ≡ z
short_same y z r s a b e =
    sym (back16 y a)
    ∙ ap (λ (l : List ℕ). cast_signed w16 (from_be_bytes w16 l)) (same_front 2 (i16_bytes y) (i16_bytes z) r s refl refl e)
    ∙ back16 z b

pub short_rest : (y z : ℤ) (r s : List ℕ) → i16_bytes y ++ r ≡ i16_bytes z ++ s → r ≡ s
short_rest y z r s e = same_rest 2 (i16_bytes y) (i16_bytes z) r s refl refl e
