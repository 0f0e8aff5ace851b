-- How parameters of either form are read one after another. What stands there is defined in `Parameters`.
use Rattle.std.specs.Prelude.{◌≡◌, ◌⊎◌, ℕ, List, [], ◌∷◌, Result, Ok, Err}
use Rattle.pg_spec.specs.Faults.{Cause, Syntax}
use Rattle.pg_config.specs.declared.config.Config.{Config}

-- what a text begins with
pub data Front : Type 0 where
  -- nothing more
  Done : Front
  -- no whole parameter
  Broken : Front
  Parameter : (key value rest : List ℕ) → Front

-- How a form of parameters is read: what stands in front, and what a parameter means. `ReadsAs text s
-- parameters said` holds where `text`, read with the settings `s` so far, begins with these parameters,
-- and this is said: the settings at the end, or the first fault, behind which nothing is read.
module _ (front : List ℕ → Front) (meaning : (key value : List ℕ) → Config → Result Config Cause) where
  abbrev pub ReadsAs : List ℕ → Config → List (List ℕ × List ℕ) → Result Config Cause → Type 0
  ReadsAs text s [] said = ((front text ≡ Done) × (said ≡ Ok s)) ⊎ ((front text ≡ Broken) × (said ≡ Err Syntax))
  ReadsAs text s (p ∷ parameters) said = (rest : List ℕ) × (front text ≡ Parameter p.0 p.1 rest)
      × (elim (meaning p.0 p.1 s) [ Err fault ↦ said ≡ Err fault | Ok next ↦ ReadsAs rest next parameters said ])

  -- the whole text says so
  abbrev pub Says : List ℕ → Config → Result Config Cause → Type 0
  Says text s said = (parameters : List (List ℕ × List ℕ)) × ReadsAs text s parameters said
