-- A text with values of given types is a command, also where they aren't as many.
use Rattle.std.specs.Prelude.{◌==◌, if◌then◌else◌}
use Rattle.std.proofs.Common.{ℕ, Bool, true, false, Err}
use Rattle.pg_spec.specs.Faults.{Parameters}
use Rattle.pg_execute.specs.Parameters.{Params}
use Rattle.pg_query.specs.Dialogue.{Dialogue, Answer}
use Rattle.pg_query_laws.specs.Taken.{IsTaken}
use Rattle.pg_query_laws.proofs.Taken.{answers}
use Rattle.pg_states.specs.Paired.{paired}

-- as many values as types are taken, and others are refused
pub paired-taken : {T : Type 0} (types : ℕ) (values : Params) (d : Dialogue T) → IsTaken d → IsTaken (paired types values d)
paired-taken types values d taken = by (values.count == types)
  where
    by : (b : Bool) → IsTaken (if b then d else Answer (Err (Parameters (values.count) types)))
    by true = taken
    by false = answers _
