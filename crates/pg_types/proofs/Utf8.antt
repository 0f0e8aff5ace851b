-- The test of a text that isn't UTF-8.
use Rattle.std.proofs.Common.{◌≡◌, ℕ, List, Bool, true, false, refl}
use Rattle.std.specs.Str.{IsUtf8, is_utf8}
use Rattle.std.proofs.lemmas.Str.{IsUtf8-from_is_utf8}

-- what isn't UTF-8 fails the test
pub not_utf8 : (s : List ℕ) → (IsUtf8 s → ⊥) → is_utf8 s ≡ false
not_utf8 s invalid = not_true (is_utf8 s) (λ e. invalid (IsUtf8-from_is_utf8 s e))
  where
    not_true : (b : Bool) → (b ≡ true → ⊥) → b ≡ false
    not_true true isnt = absurd (isnt refl)
    not_true false isnt = refl
