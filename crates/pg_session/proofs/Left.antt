-- How many commands are left, as they are answered.
use Rattle.std.proofs.Common.{◌≡◌, ℕ, zero, suc, ◌+◌, ◌-◌, ◌≤◌, List, [], ◌∷◌, length, set, Some, refl, ap, arith, slice_get}
use Rattle.std.proofs.lemmas.List.Sums.{sum_by-cons}
use Rattle.pg_session.specs.Handles.{HandleState}
use Rattle.pg_session.specs.SessionKept.{left}
use Rattle.pg_session.specs.States.{commands_in, new_handles}

pub left-new : {C E : Type 0} (T A : Type 0) (begins : E) (scripts : List (List C)) → left scripts (new_handles {C = C} {T = T} {A = A} {E = E} begins scripts) ≡ commands_in scripts
left-new T A begins [] = refl
left-new {C} {E} T A begins (script ∷ scripts) =
    let more = left-new T A begins scripts in
    let sum = sum_by-cons (λ (s : List C). length s) script scripts in
    omega (arith, more, sum)

pub left-at : {C T A E : Type 0} (scripts : List (List C)) (handles : List (HandleState T A E)) (i : ℕ) (script : List C) (h : HandleState T A E) → slice_get scripts i ≡ Some script → slice_get handles i ≡ Some h →
    length script - length h.answers ≤ left scripts handles
left-at [] handles i script h e f = absurd cc
left-at (s ∷ scripts) [] i script h e f = absurd cc
left-at {C} {T} {A} {E} (s ∷ scripts) (g ∷ handles) zero script h e f =
    let same : s ≡ script = cc in
    let too : g ≡ h = cc in
    omega (arith, ap (λ (x : List C). length x) same, ap (λ (x : HandleState T A E). length x.answers) too)
left-at (s ∷ scripts) (g ∷ handles) (suc i) script h e f = omega (arith, left-at scripts handles i script h e f)

pub left-set : {C T A E : Type 0} (scripts : List (List C)) (handles : List (HandleState T A E)) (i : ℕ) (script : List C) (old new : HandleState T A E) → slice_get scripts i ≡ Some script → slice_get handles i ≡ Some old →
    left scripts (set handles i new) + (length script - length old.answers) ≡ left scripts handles + (length script - length new.answers)
left-set [] handles i script old new e f = absurd cc
left-set (s ∷ scripts) [] i script old new e f = absurd cc
left-set {C} {T} {A} {E} (s ∷ scripts) (g ∷ handles) zero script old new e f =
    let same : s ≡ script = cc in
    let too : g ≡ old = cc in
    omega (
      arith,
      ap (λ (x : List C). length x - length new.answers) same,
      ap (λ (x : List C). length x - length g.answers) same,
      ap (λ (x : HandleState T A E). length script - length x.answers) too,
    )
left-set (s ∷ scripts) (g ∷ handles) (suc i) script old new e f = omega (arith, left-set scripts handles i script old new e f)
