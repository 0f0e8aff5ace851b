-- A text is cut at a mark in one way.
use Rattle.std.proofs.Common.{◌≡◌, ◌≢◌, ◌<◌, ◌≤◌, ◌+◌, ◌==◌, ℕ, zero, suc, cond, List, [], ◌∷◌, ◌++◌, length, get_or, take, drop, Option, Some, None, refl, sym, ap, ◌∙◌, arith, eq-eqb, ne_eqb}
use Rattle.std.proofs.lemmas.List.{take-append-drop, drop_more, length-append}
use Rattle.std.proofs.lemmas.List.Splits.{slice_split-cons_yes, slice_split-cons_no}
use Rattle.std.specs.List.{onto_first}
use Rattle.pg_config.specs.Pieces.{IsCut, Lacks, before, behind, pieces}
use Rattle.pg_config.specs.Reading.{pieces_left}

lacks_before : (mark : ℕ) (text : List ℕ) (at : ℕ) → at ≤ length text → ((k : ℕ) → k < at → get_or text k 0 ≢ mark) → Lacks mark (take at text)
lacks_before mark text zero fits none = tt
lacks_before mark [] (suc at) fits none = tt
lacks_before mark (b ∷ text) (suc at) fits none = (none 0 (omega arith), lacks_before mark text at (omega arith) (λ k h. none (suc k) (omega arith)))

-- the mark stands there, and not before
pub cut_before : (mark : ℕ) (text : List ℕ) (at : ℕ) (behind : List ℕ) → behind ≡ drop (at + 1) text →
    at < length text → get_or text at 0 ≡ mark → ((k : ℕ) → k < at → get_or text k 0 ≢ mark) → IsCut mark text (take at text) (Some behind)
cut_before mark text at behind goes_on fits here none = (
  lacks_before mark text at (omega arith) none,
  sym (take-append-drop at text) ∙ ap (λ t. take at text ++ t) (drop_more text at 0 fits ∙ (λ i. here i ∷ sym goes_on i)),
)

-- the mark stands nowhere
pub cut_none : (mark : ℕ) (text : List ℕ) → ((k : ℕ) → k < length text → get_or text k 0 ≢ mark) → IsCut mark text text None
cut_none mark text none = (lacks_all text none, refl) where
  lacks_all : (text : List ℕ) → ((k : ℕ) → k < length text → get_or text k 0 ≢ mark) → Lacks mark text
  lacks_all [] none = tt
  lacks_all (b ∷ text) none = (none 0 (omega arith), lacks_all text (λ k h. none (suc k) (omega arith)))

lacking_pieces : (mark : ℕ) (front : List ℕ) → Lacks mark front → pieces mark front ≡ front ∷ []
lacking_pieces mark [] lacks = refl
lacking_pieces mark (b ∷ front) lacks =
    slice_split-cons_no (λ c. c == mark) b front (ne_eqb b mark lacks.0) ∙ ap (λ ps. onto_first b ps) (lacking_pieces mark front lacks.1)

pieces_around : (mark : ℕ) (front rest : List ℕ) → Lacks mark front → pieces mark (front ++ mark ∷ rest) ≡ front ∷ pieces mark rest
pieces_around mark [] rest lacks = slice_split-cons_yes (λ c. c == mark) mark rest (eq-eqb mark mark refl)
pieces_around mark (b ∷ front) rest lacks =
    slice_split-cons_no (λ c. c == mark) b (front ++ mark ∷ rest) (ne_eqb b mark lacks.0) ∙ ap (λ ps. onto_first b ps) (pieces_around mark front rest lacks.1)

-- the first piece, and the others
pub pieces_cut : (mark : ℕ) (text front : List ℕ) (behind : Option (List ℕ)) → IsCut mark text front behind → pieces mark text ≡ front ∷ pieces_left mark behind
pieces_cut mark text front None is = ap (pieces mark) is.1 ∙ lacking_pieces mark front is.0
pieces_cut mark text front (Some rest) is = ap (pieces mark) is.1 ∙ pieces_around mark front rest is.0

lacking : (mark : ℕ) (text : List ℕ) → ((k : ℕ) → k < length text → get_or text k 0 ≢ mark) → Lacks mark text
lacking mark [] none = tt
lacking mark (b ∷ text) none = (none 0 (omega arith), lacking mark text (λ k h. none (suc k) (omega arith)))

-- two parts stand around the mark
pub cut_around : (mark : ℕ) (text front behind : List ℕ) → text ≡ front ++ mark ∷ behind →
    ((k : ℕ) → k < length front → get_or front k 0 ≢ mark) → IsCut mark text front (Some behind)
cut_around mark text front behind is none = (lacking mark front none, is)

front_lacking : (mark : ℕ) (front : List ℕ) → Lacks mark front → front ≡ before mark front
front_lacking mark [] lacks = refl
front_lacking mark (b ∷ front) lacks =
    ap (λ t. b ∷ t) (front_lacking mark front lacks.1) ∙ sym (ap (λ t. cond t [] (b ∷ before mark front)) (ne_eqb b mark lacks.0))

front_around : (mark : ℕ) (front rest : List ℕ) → Lacks mark front → front ≡ before mark (front ++ mark ∷ rest)
front_around mark [] rest lacks = sym (ap (λ t. cond t [] (mark ∷ before mark rest)) (eq-eqb mark mark refl))
front_around mark (b ∷ front) rest lacks =
    ap (λ t. b ∷ t) (front_around mark front rest lacks.1) ∙ sym (ap (λ t. cond t [] (b ∷ before mark (front ++ mark ∷ rest))) (ne_eqb b mark lacks.0))

behind_lacking : (mark : ℕ) (front : List ℕ) → Lacks mark front → None ≡ behind mark front
behind_lacking mark [] lacks = refl
behind_lacking mark (b ∷ front) lacks = behind_lacking mark front lacks.1 ∙ sym (ap (λ t. cond t (Some front) (behind mark front)) (ne_eqb b mark lacks.0))

behind_around : (mark : ℕ) (front rest : List ℕ) → Lacks mark front → Some rest ≡ behind mark (front ++ mark ∷ rest)
behind_around mark [] rest lacks = sym (ap (λ t. cond t (Some rest) (behind mark rest)) (eq-eqb mark mark refl))
behind_around mark (b ∷ front) rest lacks =
    behind_around mark front rest lacks.1 ∙ sym (ap (λ t. cond t (Some (front ++ mark ∷ rest)) (behind mark (front ++ mark ∷ rest))) (ne_eqb b mark lacks.0))

-- what a cut gives, as functions
pub front_of_cut : (mark : ℕ) (text front : List ℕ) (after : Option (List ℕ)) → IsCut mark text front after → front ≡ before mark text
front_of_cut mark text front None is = front_lacking mark front is.0 ∙ sym (ap (before mark) is.1)
front_of_cut mark text front (Some rest) is = front_around mark front rest is.0 ∙ sym (ap (before mark) is.1)

pub behind_cut : (mark : ℕ) (text front : List ℕ) (after : Option (List ℕ)) → IsCut mark text front after → after ≡ behind mark text
behind_cut mark text front None is = behind_lacking mark front is.0 ∙ sym (ap (behind mark) is.1)
behind_cut mark text front (Some rest) is = behind_around mark front rest is.0 ∙ sym (ap (behind mark) is.1)

pub shorter_cut : (mark : ℕ) (text front rest : List ℕ) → IsCut mark text front (Some rest) → length rest < length text
shorter_cut mark text front rest is = let long = ap length is.1 ∙ length-append front (mark ∷ rest) in omega (arith, long)
