-- Which lists of steps are plans.
use Rattle.std.specs.Prelude.{List, [], ◌∷◌, Bool, true, false, not}
use Rattle.pg_query.specs.Leaving.{Holds, Nothing, Request}
use Rattle.pg_steps.specs.declared.step.Step.{Step}
use Rattle.pg_steps.specs.declared.step.Step.TheVariants.{Asks, RollsBack, Reads, Sends}

-- what stands open where a request is read, or isn't
abbrev pub holding : (held : Bool) → Holds
holding true = Request
holding false = Nothing

-- Each request is read to its end before the next; `held` says whether one is read where the steps begin.
abbrev pub is_plan : (held : Bool) → List Step → Bool
is_plan held [] = not held
is_plan held (RollsBack ∷ steps) = is_plan held steps
is_plan false (Asks ∷ steps) = is_plan true steps
is_plan true (Reads ∷ steps) = is_plan false steps
is_plan false (Sends ∷ steps) = is_plan false steps
is_plan held (s ∷ steps) = false
