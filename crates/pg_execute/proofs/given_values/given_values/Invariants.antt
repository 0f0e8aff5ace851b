use Rattle.std.proofs.Common.{◌≡◌, ℕ, List, [], length, drop, Option}
use Rattle.pg_execute.specs.Parameters.{given_behind, params}
use Rattle.pg_execute.specs.GivenValues.{IsGiven}
use Rattle.pg_execute.proofs.given_values.given_values.Given as goal

-- so many values were written, and the types of the others are left
abbrev pub invariant-loop-ty : goal.invariant-loop-ty
invariant-loop-ty g l = (given : List (Option (List ℕ))) × IsGiven given l.given × (length given ≡ l.ty-index)
    × (given_behind [] l.types (params (g.P.Params.count l.values) (g.P.Params.gives_at l.values)) ≡ given_behind given (drop l.ty-index l.types) (params (g.P.Params.count l.values) (g.P.Params.gives_at l.values)))
