-- Values of Bind, as they were written.
use Rattle.std.specs.Prelude.{◌≡◌, ℕ, List, [], ◌∷◌, ◌++◌, map, flat_map, Option, Result, Ok, Err, pos}
use Rattle.pg_spec.specs.Frames.{value_bytes}
use Rattle.pg_types.specs.declared.error.Error.{Error}
use Rattle.pg_execute.specs.declared.given_values.GivenValues.{GivenValues}

-- these values were written, each in binary form
pub record IsGiven (given : List (Option (List ℕ))) (g : GivenValues) : Type 0 where
  pub formats : g.formats.items ≡ map (λ v. pos 1) given
  pub bytes : flat_map value_bytes given ≡ g.bytes.items

-- a value was written behind these, or is refused by this error
abbrev pub Adds : List (Option (List ℕ)) → Result (Option (List ℕ)) Error → Result (Unit {0}) Error → GivenValues → Type 0
Adds given (Ok v) (Ok done) g = IsGiven (given ++ v ∷ []) g
Adds given (Err e) (Err told) g = e ≡ told
Adds given wanted told g = ⊥

-- the values were written, or this is the error by which they are refused
abbrev pub AreGiven : Result (List (Option (List ℕ))) Error → Result GivenValues Error → Type 0
AreGiven (Ok given) (Ok g) = IsGiven given g
AreGiven (Err e) (Err told) = e ≡ told
AreGiven wanted told = ⊥
