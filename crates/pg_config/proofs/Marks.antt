-- A text cut at a mark, and a text with a mark in it.
use Rattle.std.proofs.Common.{◌≡◌, ◌≢◌, ◌==◌, ℕ, cond, List, [], ◌∷◌, ◌++◌, Option, Some, None, refl, sym, ap, subst, ◌∙◌, append-nil, eqb-true}
use Rattle.std.proofs.lemmas.Bool.{eqb-false}
use Rattle.pg_config.specs.Urls.{marked}
use Rattle.pg_config.specs.Pieces.{IsCut, Lacks, before, behind}
use Rattle.pg_config.proofs.Spelling.{by_cases}

cut_more : (mark b : ℕ) (text front : List ℕ) (o : Option (List ℕ)) → b ≢ mark → IsCut mark text front o → IsCut mark (b ∷ text) (b ∷ front) o
cut_more mark b text front None other is = ((other, is.0), ap (λ t. b ∷ t) is.1)
cut_more mark b text front (Some rest) other is = ((other, is.0), ap (λ t. b ∷ t) is.1)

pub cut_is : (mark : ℕ) (text : List ℕ) → IsCut mark text (before mark text) (behind mark text)
cut_is mark [] = (tt, refl)
cut_is mark (b ∷ text) = by_cases (b == mark)
    (λ hit. subst (λ t. IsCut mark (b ∷ text) (cond t [] (b ∷ before mark text)) (cond t (Some text) (behind mark text))) (sym hit)
    (tt, ap (λ c. c ∷ text) (eqb-true b mark hit)))
    (λ miss. subst (λ t. IsCut mark (b ∷ text) (cond t [] (b ∷ before mark text)) (cond t (Some text) (behind mark text))) (sym miss)
    (cut_more mark b text (before mark text) (behind mark text) (eqb-false b mark miss) (cut_is mark text)))

pub marked_cut : (mark : ℕ) (front : List ℕ) (o : Option (List ℕ)) → Lacks mark front → IsCut mark (front ++ marked mark o) front o
marked_cut mark front None lacks = (lacks, append-nil front)
marked_cut mark front (Some rest) lacks = (lacks, refl)

pub cut_marked : (mark : ℕ) (text front : List ℕ) (o : Option (List ℕ)) → IsCut mark text front o → text ≡ front ++ marked mark o
cut_marked mark text front None is = is.1 ∙ sym (append-nil front)
cut_marked mark text front (Some rest) is = is.1

pub cut_lacks : (mark : ℕ) (text front : List ℕ) (o : Option (List ℕ)) → IsCut mark text front o → Lacks mark front
cut_lacks mark text front None is = is.0
cut_lacks mark text front (Some rest) is = is.0

pub lacks_not_in : (mark : ℕ) (front rest : List ℕ) → Lacks mark (front ++ mark ∷ rest) → ⊥
lacks_not_in mark [] rest lacks = lacks.0 refl
lacks_not_in mark (b ∷ front) rest lacks = lacks_not_in mark front rest lacks.1
