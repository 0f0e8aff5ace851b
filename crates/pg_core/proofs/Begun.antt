-- Requests as far as they were booked, none of which is a copy, are whole.
use Rattle.std.proofs.Common.{◌≡◌, ℕ, List, [], ◌∷◌, Bool, true, false, refl, ap, ◌∙◌}
use Rattle.std.specs.List.{list_any}
use Rattle.pg_desk.specs.History.{IsFrontOf}
use Rattle.pg_core.specs.Outcomes.{AreBegun}

pub begun-whole : (copies : List Bool) (begun all : List (List (List ℕ))) → list_any (λ c. c) copies ≡ false → AreBegun copies begun all → IsFrontOf begun all
begun-whole copies [] all none h = (all, refl)
begun-whole [] (x ∷ xs) all none h = absurd h
begun-whole (c ∷ copies) (x ∷ xs) [] none h = absurd h
begun-whole (true ∷ copies) (x ∷ xs) (y ∷ ys) none h = absurd cc
begun-whole (false ∷ copies) (x ∷ xs) (y ∷ ys) none h =
    let more = begun-whole copies xs ys none h.1 in
    (more.0, ap (λ (l : List (List (List ℕ))). x ∷ l) more.1 ∙ ap (λ (p : List (List ℕ)). p ∷ ys) h.0)
