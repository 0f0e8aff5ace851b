-- Bytes joined by exclusive or.
use Rattle.std.proofs.Common.{◌≡◌, ℕ, zero, suc, ◌+◌, ◌<◌, List, [], ◌∷◌, ◌++◌, length, get_or, take, replicate, refl, ap, ap₂, arith, add-one}
use lib.Bits.{xor_zero_r}
use Rattle.std.specs.Prelude.{bit_xor}
use Rattle.pg_spec.specs.Passwords.{xor_bytes}

-- as many as the shorter has
pub length-xor_bytes : (a b : List ℕ) → length a ≡ length b → length (xor_bytes a b) ≡ length a
length-xor_bytes [] b e = refl
length-xor_bytes (x ∷ a) [] e = absurd cc
length-xor_bytes (x ∷ a) (y ∷ b) e = ap suc (length-xor_bytes a b cc)

-- one more of them
pub xor_bytes-more : (a b : List ℕ) (i : ℕ) → i < length a → length a ≡ length b
    → take (i + 1) (xor_bytes a b) ≡ take i (xor_bytes a b) ++ bit_xor (get_or a i 0) (get_or b i 0) ∷ []
xor_bytes-more [] b i h e = absurd (omega arith)
xor_bytes-more (x ∷ a) [] i h e = absurd cc
xor_bytes-more (x ∷ a) (y ∷ b) zero h e = refl
xor_bytes-more (x ∷ a) (y ∷ b) (suc i) h e = rw add-one (ap (λ l. bit_xor x y ∷ l) (rw add-one at (xor_bytes-more a b i (omega arith) cc)))

-- zeros change nothing
pub xor_bytes-zeros : (a : List ℕ) (n : ℕ) → length a ≡ n → xor_bytes a (replicate n 0) ≡ a
xor_bytes-zeros [] zero e = refl
xor_bytes-zeros [] (suc n) e = absurd cc
xor_bytes-zeros (x ∷ a) zero e = absurd cc
xor_bytes-zeros (x ∷ a) (suc n) e = ap₂ (λ y l. y ∷ l) (xor_zero_r x) (xor_bytes-zeros a n cc)
