use Rattle.std.proofs.Common.{◌≡◌, ℕ, ◌≤◌, ◌<◌, Bool, List, [], ◌∷◌, length, get_or, map, codes, string_bytes, Decides, ap, sym, subst, ◌∙◌, arith}
use Rattle.std.specs.Prelude.{String}
use Rattle.std.specs.Str.{bytes_eq}
use Rattle.std.proofs.lemmas.Slice.Eq.{bytes_eq-Decides}
use Rattle.pg_tool.specs.Words.{play}
use Rattle.pg_tool.proofs.over.is_play.Goals as goal

same_head : (v w : List ℕ) → v ∷ [] ≡ w ∷ [] → v ≡ w
same_head v w e = cc e

-- one word is read
one_word : {Z : Type 0} (words : List (String Z)) (w : String Z) (b : Bool) → 1 ≤ length words → length words < 2 → w ≡ get_or words 0 w →
    Decides b (string_bytes w ≡ codes "play") → Decides b (map string_bytes words ≡ play)
one_word [] w b low high is d = absurd (omega arith)
one_word (x ∷ []) w b low high is d = (
  λ t. ap (λ (v : List ℕ). v ∷ []) (ap string_bytes (sym is) ∙ d.0 t),
  λ e. d.1 (ap string_bytes is ∙ same_head (string_bytes x) (codes "play") e),
)
one_word (x ∷ y ∷ rest) w b low high is d = absurd (omega arith)

pub returns-in-len1 : goal.returns-in-len1
returns-in-len1 c =
    let text = codes "play" in
    let w = c.word-item.result in
    let by_bytes : Decides (bytes_eq c.as_str.result.now text) (string_bytes w ≡ text) =
    subst (λ (t : List ℕ). Decides (bytes_eq t text) (string_bytes w ≡ text)) (sym c.as_str.ensures.value) (bytes_eq-Decides (string_bytes w) text) in
    one_word c.args.words.now w c.eq.result (omega arith) (omega arith) c.word-item.is
    (subst (λ (b : Bool). Decides b (string_bytes w ≡ text)) (sym c.eq.ensures) by_bytes)
