-- What is unsent is the rest of the part that went out last.
use Rattle.std.proofs.Common.{◌≡◌, ℕ, Bool, true, false, IsTrue, List, [], ◌∷◌, ◌++◌, Ok, ◌⊎◌, inl, inr, refl, sym, ap, subst, ◌∙◌, append_assoc}
use Rattle.std.proofs.lemmas.List.{append-nil}
use Rattle.pg_spec.specs.Frames.{terminate_frame}
use Rattle.pg_desk.specs.declared.event.Out.TheVariants.{Part}
use Rattle.pg_desk.specs.declared.event.Event.{Event}
use Rattle.pg_desk.specs.declared.event.Event.TheVariants.{NextOut}
use Rattle.pg_connect.specs.Passed.{bytes_out_in, bytes_out_by, last_part, parts_out_in, parts_out_by}
use Rattle.pg_connect.specs.Passes.{StandsLast, farewell}

pub farewell_same : (c : Bool) → farewell c c ≡ []
farewell_same true = refl
farewell_same false = refl

parts_out_by-append : (es fs : List Event) → parts_out_by (es ++ fs) ≡ parts_out_by es ++ parts_out_by fs
parts_out_by-append [] fs = refl
parts_out_by-append (e ∷ es) fs = ap (λ x. parts_out_in e ++ x) (parts_out_by-append es fs) ∙ sym (append_assoc (parts_out_in e) (parts_out_by es) (parts_out_by fs))

last_part-append : (bytes : List ℕ) (xs ys : List (List ℕ)) → last_part bytes (xs ++ ys) ≡ last_part (last_part bytes xs) ys
last_part-append bytes [] ys = refl
last_part-append bytes (x ∷ xs) ys = last_part-append x xs ys

-- the rest of what is left of the last part, or of those that went out behind it
rest_behind : (w b c : List ℕ) (parts : List (List ℕ)) → StandsLast b w → StandsLast c (last_part b parts) → StandsLast c (last_part w parts)
rest_behind w b c [] first then = (first.0 ++ then.0, first.1 ∙ ap (λ (x : List ℕ). first.0 ++ x) then.1 ∙ sym (append_assoc first.0 then.0 c))
rest_behind w b c (part ∷ parts) first then = then

first_none : (xs ys : List ℕ) → xs ++ ys ≡ [] → xs ≡ []
first_none [] ys none = refl
first_none (x ∷ xs) ys none = absurd cc

second_none : (xs ys : List ℕ) → xs ++ ys ≡ [] → ys ≡ []
second_none [] ys none = none
second_none (x ∷ xs) ys none = absurd cc

one_or_none : (e : Event) → (parts_out_in e ≡ []) ⊎ (parts_out_in e ≡ bytes_out_in e ∷ [])
one_or_none (NextOut (Ok (Part part))) = inr refl
one_or_none _ = inl refl

rest_of_none : (bytes rest : List ℕ) → StandsLast rest [] → StandsLast rest bytes
rest_of_none bytes rest is = (bytes, sym (append-nil bytes) ∙ ap (λ (x : List ℕ). bytes ++ x) (sym (second_none is.0 rest (sym is.1))))

-- parts without a byte change nothing
rest_of_empty : (bytes rest : List ℕ) (es : List Event) → bytes_out_by es ≡ [] → StandsLast rest (last_part bytes (parts_out_by es)) → StandsLast rest bytes
rest_of_empty bytes rest [] none is = is
rest_of_empty bytes rest (e ∷ es) none is = elim (one_or_none e) [
  | inl no_part ↦
      rest_of_empty bytes rest es (second_none (bytes_out_in e) (bytes_out_by es) none)
      (subst (λ (x : List (List ℕ)). StandsLast rest (last_part bytes (x ++ parts_out_by es))) no_part is)
  | inr part ↦
      let empty : bytes_out_in e ≡ [] = first_none (bytes_out_in e) (bytes_out_by es) none in
      rest_of_none bytes rest
      (rest_of_empty [] rest es (second_none (bytes_out_in e) (bytes_out_by es) none)
      (subst (λ (x : List ℕ). StandsLast rest (last_part x (parts_out_by es))) empty
      (subst (λ (x : List (List ℕ)). StandsLast rest (last_part bytes (x ++ parts_out_by es))) part is)))
]

-- nothing was queued in the first calls but parts
behind_parts : (a b f : List ℕ) (es fs : List Event) (queued : List (List ℕ)) → StandsLast b (last_part a (parts_out_by es ++ [])) → StandsLast f (last_part b (parts_out_by fs ++ queued)) →
    StandsLast f (last_part a (parts_out_by (es ++ fs) ++ queued))
behind_parts a b f es fs queued first then =
    subst (λ (x : List ℕ). StandsLast f x)
    (ap (λ (x : List (List ℕ)). last_part (last_part a x) (parts_out_by fs ++ queued)) (append-nil (parts_out_by es))
    ∙ sym (last_part-append a (parts_out_by es) (parts_out_by fs ++ queued))
    ∙ ap (λ (x : List (List ℕ)). last_part a x) (sym (append_assoc (parts_out_by es) (parts_out_by fs) queued) ∙ ap (λ (x : List (List ℕ)). x ++ queued) (sym (parts_out_by-append es fs))))
    (rest_behind (last_part a (parts_out_by es ++ [])) b f (parts_out_by fs ++ queued) first then)

-- Terminate was queued in the first calls
behind_terminate : (a b f : List ℕ) (es fs : List Event) → bytes_out_by fs ≡ [] → StandsLast b (last_part a (parts_out_by es ++ terminate_frame ∷ [])) → StandsLast f (last_part b (parts_out_by fs ++ [])) →
    StandsLast f (last_part a (parts_out_by (es ++ fs) ++ terminate_frame ∷ []))
behind_terminate a b f es fs none first then =
    let queued : StandsLast b terminate_frame = subst (λ (x : List ℕ). StandsLast b x) (last_part-append a (parts_out_by es) (terminate_frame ∷ [])) first in
    let left : StandsLast f (last_part b (parts_out_by fs)) = subst (λ (x : List (List ℕ)). StandsLast f (last_part b x)) (append-nil (parts_out_by fs)) then in
    subst (λ (x : List ℕ). StandsLast f x) (sym (last_part-append a (parts_out_by (es ++ fs)) (terminate_frame ∷ [])))
    (rest_of_empty terminate_frame f fs none (rest_behind terminate_frame b f (parts_out_by fs) queued left))

-- some calls, and then others
pub rest-then : (c d e : Bool) (a b f : List ℕ) (es fs : List Event) → (IsTrue c → IsTrue d) → (IsTrue d → IsTrue e) → (IsTrue d → bytes_out_by fs ≡ []) →
    StandsLast b (last_part a (parts_out_by es ++ farewell c d)) → StandsLast f (last_part b (parts_out_by fs ++ farewell d e)) →
    StandsLast f (last_part a (parts_out_by (es ++ fs) ++ farewell c e))
rest-then true true true a b f es fs st su none first then = behind_parts a b f es fs [] first then
rest-then false true true a b f es fs st su none first then = behind_terminate a b f es fs (none refl) first then
rest-then false false e a b f es fs st su none first then = behind_parts a b f es fs (farewell false e) first then
rest-then true false e a b f es fs st su none first then = let no : false ≡ true = st refl in cc
rest-then c true false a b f es fs st su none first then = let no : false ≡ true = su refl in cc
