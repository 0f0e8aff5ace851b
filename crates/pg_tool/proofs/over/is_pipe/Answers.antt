use Rattle.std.proofs.Common.{◌≡◌, ℕ, ◌≤◌, ◌<◌, Bool, List, [], ◌∷◌, length, get_or, map, codes, string_bytes, Decides, ap, sym, subst, ◌∙◌, arith}
use Rattle.std.specs.Prelude.{String}
use Rattle.std.specs.Str.{bytes_eq}
use Rattle.std.proofs.lemmas.Slice.Eq.{bytes_eq-Decides}
use Rattle.pg_tool.specs.Words.{IsPipe}
use Rattle.pg_tool.proofs.over.is_pipe.Goals as goal

first_of : (a b c v : List ℕ) (w x : List ℕ) → a ∷ b ∷ c ∷ [] ≡ v ∷ w ∷ x ∷ [] → a ≡ v
first_of a b c v w x e = cc e

-- three words are read
three_words : {Z : Type 0} (words : List (String Z)) (w : String Z) (b : Bool) → 3 ≤ length words → length words < 4 → w ≡ get_or words 0 w →
    Decides b (string_bytes w ≡ codes "pipe") → Decides b (IsPipe (map string_bytes words))
three_words [] w b low high is d = absurd (omega arith)
three_words (x ∷ []) w b low high is d = absurd (omega arith)
three_words (x ∷ y ∷ []) w b low high is d = absurd (omega arith)
three_words (x ∷ y ∷ z ∷ []) w b low high is d = (
  λ t. (string_bytes y, string_bytes z, ap (λ (v : List ℕ). v ∷ string_bytes y ∷ string_bytes z ∷ []) (ap string_bytes (sym is) ∙ d.0 t)),
  λ e. d.1 (ap string_bytes is ∙ first_of (string_bytes x) (string_bytes y) (string_bytes z) (codes "pipe") e.0 e.1 e.2),
)
three_words (x ∷ y ∷ z ∷ u ∷ rest) w b low high is d = absurd (omega arith)

pub returns-in-len3 : goal.returns-in-len3
returns-in-len3 c =
    let text = codes "pipe" in
    let w = c.word-item.result in
    let by_bytes : Decides (bytes_eq c.as_str.result.now text) (string_bytes w ≡ text) =
    subst (λ (t : List ℕ). Decides (bytes_eq t text) (string_bytes w ≡ text)) (sym c.as_str.ensures.value) (bytes_eq-Decides (string_bytes w) text) in
    three_words c.args.words.now w c.eq.result (omega arith) (omega arith) c.word-item.is
    (subst (λ (b : Bool). Decides b (string_bytes w ≡ text)) (sym c.eq.ensures) by_bytes)
