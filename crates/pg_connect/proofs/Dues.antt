-- What was due before bytes were given.
use Rattle.std.proofs.Common.{◌≡◌, ℕ, List, [], ◌++◌, take, drop, Option, None, Some, option_map, sym, ap, subst, ◌∙◌, append_assoc}
use Rattle.std.proofs.lemmas.List.{take-append-drop}
use Rattle.std.specs.Prelude.{IfSome}
use Rattle.pg_connect.specs.Reads.{GaveDue}

-- nothing was given
pub due_none : (o p : Option (List ℕ)) (got : List ℕ) → p ≡ o → got ≡ [] → GaveDue o p got
due_none None p got same none = tt
due_none (Some due) p got same none = (due, ap (λ (x : List ℕ). x ++ due) (sym none), same)

-- a piece was given
pub due_front : (o p : Option (List ℕ)) (n : ℕ) (piece : List ℕ) → IfSome o (λ due. take n due ≡ piece) → p ≡ option_map (λ due. drop n due) o → GaveDue o p piece
due_front None p n piece front left = tt
due_front (Some due) p n piece front left = (drop n due, sym (take-append-drop n due) ∙ ap (λ (x : List ℕ). x ++ drop n due) front, left)

-- some bytes, and then others
pub due_then : (o p q : Option (List ℕ)) (g h : List ℕ) → GaveDue o p g → GaveDue p q h → GaveDue o q (g ++ h)
due_then None p q g h first then = tt
due_then (Some due) p q g h first then =
    let more : GaveDue (Some first.0) q h = subst (λ (x : Option (List ℕ)). GaveDue x q h) first.2 then in
    (more.0, first.1 ∙ ap (λ (x : List ℕ). g ++ x) more.1 ∙ sym (append_assoc g h more.0), more.2)

-- so it was due
pub was_due : (o p : Option (List ℕ)) (got : List ℕ) → GaveDue o p got → IfSome o (λ due. (rest : List ℕ) × (due ≡ got ++ rest))
was_due None p got is = tt
was_due (Some due) p got is = (is.0, is.1)

-- nothing is always due
pub none_due : (o : Option (List ℕ)) (got : List ℕ) → got ≡ [] → IfSome o (λ due. (rest : List ℕ) × (due ≡ got ++ rest))
none_due None got none = tt
none_due (Some due) got none = (due, ap (λ (x : List ℕ). x ++ due) (sym none))
