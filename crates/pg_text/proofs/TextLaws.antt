-- A text has one list of lines.
use Rattle.std.proofs.Common.{◌≡◌, ◌≢◌, ◌<◌, ◌≤◌, ◌+◌, ℕ, zero, suc, Bool, true, false, cond, not, ◌&&◌, ◌==◌, List, [], ◌∷◌, ◌++◌, length, get_or, take, drop, flat_map, refl, sym, ap, subst, ◌∙◌, append_assoc, append-nil, inl, inr, eqb-true, ne_eqb, arith}
use Rattle.std.specs.List.{list_all, onto_first}
use Rattle.std.proofs.lemmas.Bool.{cond-false}
use Rattle.std.proofs.lemmas.List.{take-append-drop, drop_more}
use Rattle.pg_spec.specs.SessionText.{AreLines, has_no_line_feed, with_line_feed}
use Rattle.pg_text.specs.Texts.{lines_of}

and_both : (a b : Bool) → (a && b) ≡ true → (a ≡ true) × (b ≡ true)
and_both true b e = (refl, e)
and_both false b e = cc e

both_and : (a b : Bool) → a ≡ true → b ≡ true → (a && b) ≡ true
both_and a b p q = rw (p, q) refl

feed_or_not : (b : ℕ) → not (b == 10) ≡ true → (b == 10) ≡ false
feed_or_not b e = elim (b == 10) as (λ t. not t ≡ true → t ≡ false) [ true ↦ λ h. cc h | false ↦ λ h. refl ] e

-- ---- what is in front

-- a line, its line feed and a text
feed_line : (line rest : List ℕ) → has_no_line_feed line ≡ true → lines_of (line ++ (10 ∷ rest)) ≡ line ∷ lines_of rest
feed_line [] rest e = refl
feed_line (b ∷ line) rest e =
    let parts = and_both (not (b == 10)) (has_no_line_feed line) e in
    cond-false (b == 10) _ _ (feed_or_not b parts.0) ∙ ap (onto_first b) (feed_line line rest parts.1)

last_line : (line : List ℕ) → has_no_line_feed line ≡ true → line ≢ [] → lines_of line ≡ line ∷ []
last_line [] e some = absurd (some refl)
last_line (b ∷ []) e some = cond-false (b == 10) _ _ (feed_or_not b (and_both (not (b == 10)) true e).0)
last_line (b ∷ c ∷ line) e some =
    let parts = and_both (not (b == 10)) (has_no_line_feed (c ∷ line)) e in
    cond-false (b == 10) _ _ (feed_or_not b parts.0) ∙ ap (onto_first b) (last_line (c ∷ line) parts.1 (λ none. cc none))

fed_lines : (lines : List (List ℕ)) (rest : List ℕ) → list_all has_no_line_feed lines ≡ true → lines_of (flat_map with_line_feed lines ++ rest) ≡ lines ++ lines_of rest
fed_lines [] rest e = refl
fed_lines (line ∷ lines) rest e =
    let parts = and_both (has_no_line_feed line) (list_all has_no_line_feed lines) e in
    ap lines_of (append_assoc (line ++ 10 ∷ []) (flat_map with_line_feed lines) rest ∙ append_assoc line (10 ∷ []) (flat_map with_line_feed lines ++ rest))
    ∙ feed_line line (flat_map with_line_feed lines ++ rest) parts.0 ∙ ap (λ ls. line ∷ ls) (fed_lines lines rest parts.1)

all_front : (front : List (List ℕ)) (last : List ℕ) → list_all has_no_line_feed (front ++ last ∷ []) ≡ true → (list_all has_no_line_feed front ≡ true) × (has_no_line_feed last ≡ true)
all_front [] last e = (refl, (and_both (has_no_line_feed last) true e).0)
all_front (line ∷ front) last e =
    let parts = and_both (has_no_line_feed line) (list_all has_no_line_feed (front ++ last ∷ [])) e in
    let rest = all_front front last parts.1 in
    (both_and (has_no_line_feed line) (list_all has_no_line_feed front) parts.0 rest.0, rest.1)

-- the lines of a text are these
pub lines_are : (lines : List (List ℕ)) (text : List ℕ) → AreLines lines text → lines ≡ lines_of text
lines_are lines text (all, inl is) =
    sym (ap lines_of (is ∙ sym (append-nil (flat_map with_line_feed lines))) ∙ fed_lines lines [] all ∙ append-nil lines)
lines_are lines text (all, inr (front, last, some, same, is)) =
    let parts = all_front front last (subst (λ (ls : List (List ℕ)). list_all has_no_line_feed ls ≡ true) same all) in
    same ∙ sym (ap lines_of is ∙ fed_lines front last parts.0 ∙ ap (λ ls. front ++ ls) (last_line last parts.1 some))

-- ---- they are its lines

add_byte : (b : ℕ) (rest : List ℕ) (lines : List (List ℕ)) → (b == 10) ≡ false → AreLines lines rest → AreLines (onto_first b lines) (b ∷ rest)
add_byte b rest [] other (all, inl is) = (
  both_and (not (b == 10) && true) true (ap (λ t. not t && true) other) refl,
  inr ([], b ∷ [], λ none. cc none, refl, ap (λ t. b ∷ t) is),
)
add_byte b rest [] other (all, inr ([], last, some, same, is)) = absurd (cc same)
add_byte b rest [] other (all, inr (f ∷ front, last, some, same, is)) = absurd (cc same)
add_byte b rest (line ∷ lines) other (all, inl is) = (
  ap (λ t. (not t && has_no_line_feed line) && list_all has_no_line_feed lines) other ∙ all,
  inl (ap (λ t. b ∷ t) is),
)
add_byte b rest (line ∷ lines) other (all, inr ([], last, some, same, is)) = (
  ap (λ t. (not t && has_no_line_feed line) && list_all has_no_line_feed lines) other ∙ all,
  inr (let head : line ≡ last = cc in let tail : lines ≡ [] = cc in ([], b ∷ last, λ none. cc none, (λ i. (b ∷ head i) ∷ tail i), ap (λ t. b ∷ t) is)),
)
add_byte b rest (line ∷ lines) other (all, inr (f ∷ front, last, some, same, is)) = (
  ap (λ t. (not t && has_no_line_feed line) && list_all has_no_line_feed lines) other ∙ all,
  inr (let head : line ≡ f = cc in let tail : lines ≡ front ++ last ∷ [] = cc in ((b ∷ f) ∷ front, last, some, (λ i. (b ∷ head i) ∷ tail i), ap (λ t. b ∷ t) is)),
)

add_feed : (b : ℕ) (rest : List ℕ) (lines : List (List ℕ)) → b ≡ 10 → AreLines lines rest → AreLines ([] ∷ lines) (b ∷ rest)
add_feed b rest lines feed (all, inl is) = (all, inl (λ i. feed i ∷ is i))
add_feed b rest lines feed (all, inr (front, last, some, same, is)) = (all, inr ([] ∷ front, last, some, ap (λ ls. [] ∷ ls) same, (λ i. feed i ∷ is i)))

pub are_lines : (text : List ℕ) → AreLines (lines_of text) text
are_lines [] = (refl, inl refl)
are_lines (b ∷ rest) =
    let later = are_lines rest in
    elim (b == 10) as (λ t. (b == 10) ≡ t → AreLines (cond t ([] ∷ lines_of rest) (onto_first b (lines_of rest))) (b ∷ rest)) [
      | true ↦ λ e. add_feed b rest (lines_of rest) (eqb-true b 10 e) later
      | false ↦ λ e. add_byte b rest (lines_of rest) e later
    ] refl

-- ---- a line cut off

no_feed : (text : List ℕ) (n : ℕ) → n ≤ length text → ((k : ℕ) → k < n → get_or text k 0 ≢ 10) → has_no_line_feed (take n text) ≡ true
no_feed text zero fits none = refl
no_feed [] (suc n) fits none = refl
no_feed (b ∷ text) (suc n) fits none =
    both_and (not (b == 10)) (has_no_line_feed (take n text)) (ap not (ne_eqb b 10 (none 0 (omega arith)))) (no_feed text n (omega arith) (λ k h. none (suc k) (omega arith)))

no_feed_all : (text : List ℕ) → ((k : ℕ) → k < length text → get_or text k 0 ≢ 10) → has_no_line_feed text ≡ true
no_feed_all [] none = refl
no_feed_all (b ∷ text) none =
    both_and (not (b == 10)) (has_no_line_feed text) (ap not (ne_eqb b 10 (none 0 (omega arith)))) (no_feed_all text (λ k h. none (suc k) (omega arith)))

pub cut_at_feed : (text : List ℕ) (at : ℕ) (behind : List ℕ) → behind ≡ drop (at + 1) text → at < length text → get_or text at 0 ≡ 10 →
    ((k : ℕ) → k < at → get_or text k 0 ≢ 10) → lines_of text ≡ take at text ∷ lines_of behind
cut_at_feed text at behind is fits here none =
    ap lines_of (sym (take-append-drop at text) ∙ ap (λ t. take at text ++ t) (drop_more text at 0 fits ∙ (λ i. here i ∷ sym is i)))
    ∙ feed_line (take at text) behind (no_feed text at (omega arith) none)

pub cut_at_end : (text : List ℕ) → 0 < length text → ((k : ℕ) → k < length text → get_or text k 0 ≢ 10) → lines_of text ≡ text ∷ []
cut_at_end text some none = last_line text (no_feed_all text none) (λ e. absurd (omega (arith, some, ap (λ (t : List ℕ). length t) e)))
