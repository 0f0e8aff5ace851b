-- What the worked commands ask of a desk, and what it tells.
use Rattle.std.specs.Prelude.{ℕ, ◌==◌, List, [], ◌∷◌, Bool, true, false, if◌then◌else◌, Option, Some, None, count_by}

-- a question to the desk, or something that it is to keep
pub data Question : Type 0 where
  NextStatement : Question
  TypeOf : (oid : ℕ) → Question
  SetType : (oid : ℕ) → (name : List ℕ) → Question

-- what it tells
pub data Told : Type 0 where
  Number : ℕ → Told
  Named : Option (List ℕ) → Told

-- whether a question draws a number
abbrev pub is_next : Question → Bool
is_next NextStatement = true
is_next other = false

-- the name that is kept of a type behind these questions, where this one was before: the last one that was set
abbrev pub name_after : ℕ → Option (List ℕ) → List Question → Option (List ℕ)
name_after oid kept [] = kept
name_after oid kept (SetType other name ∷ qs) = name_after oid (if other == oid then Some name else kept) qs
name_after oid kept (q ∷ qs) = name_after oid kept qs

-- What a desk tells, by all that it was asked before.
abbrev pub tells : List Question → Question → Told
tells before NextStatement = Number (count_by is_next before)
tells before (TypeOf oid) = Named (name_after oid None before)
tells before (SetType oid name) = Named (Some name)
