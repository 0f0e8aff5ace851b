use Rattle.std.proofs.Common.{◌≡◌, ◌∙◌, ℕ, List, ◌∷◌, sym, rules}
use Rattle.pg_text.proofs.GivenLaws.{no_value}
use Rattle.pg_text.proofs.WordLaws.{other_text}
use Rattle.pg_text.proofs.given.value_of.Goals as goal

-- the word is no bytes in hex behind an `x`
other_bytes : (c : goal.In-None-int_of) (digits : List ℕ) → c.args.word.now ≡ 120 ∷ digits → ⊥
other_bytes c = search rules

pub returns-in-None-int_of : goal.returns-in-None-int_of
returns-in-None-int_of c =
    no_value c.args.word.now
    (λ same. other_text c.args.word.now _ (sym c.if-eq.ensures) (same ∙ sym c.as_slice.ensures))
    (λ same. other_text c.args.word.now _ (sym c.if-eq-2.ensures) (same ∙ sym c.as_slice-2.ensures))
    (λ same. other_text c.args.word.now _ (sym c.if-eq-3.ensures) (same ∙ sym c.as_slice-3.ensures))
    (other_bytes c)
    c.in-None-int_of.ensures
