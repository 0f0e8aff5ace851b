-- Where no message is left there is no byte.
use Rattle.std.proofs.Common.{◌≡◌, ◌==◌, ℕ, suc, false, List, [], ◌∷◌, length, Option, Some, None, refl, sym, ap, ◌∙◌, arith}
use Rattle.std.proofs.lemmas.Bool.Decides.{nat_tests}
use Rattle.pg_spec.specs.RawMessages.{RawMessage, message_at, messages, bytes_left}
use Rattle.pg_wire.proofs.Cuts.{left_of_none, messages_of_one}

no-zero : (n : ℕ) → (suc n == 0) ≡ false
no-zero n = grind (arith, nat_tests)

pub empty-so : (s : List ℕ) (view : List RawMessage) → messages s ≡ view → bytes_left s ≡ [] → (length s == 0) ≡ (length view == 0)
empty-so [] view is none = ap (λ (v : List RawMessage). length v == 0) is
empty-so (b ∷ s) view is none = by (message_at (b ∷ s)) refl
  where
    by : (o : Option (RawMessage × List ℕ)) → message_at (b ∷ s) ≡ o → (length (b ∷ s) == 0) ≡ (length view == 0)
    by None e = let n : (b ∷ s) ≡ [] = sym (left_of_none (b ∷ s) e) ∙ none in absurd cc
    by (Some (m, rest)) e = no-zero (length s) ∙ sym (no-zero (length (messages rest))) ∙ ap (λ (v : List RawMessage). length v == 0) (sym (messages_of_one (b ∷ s) m rest e) ∙ is)
