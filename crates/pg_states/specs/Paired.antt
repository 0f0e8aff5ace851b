-- Values of given types, of which there are to be as many.
use Rattle.std.specs.Prelude.{ℕ, ◌==◌, Err, if◌then◌else◌}
use Rattle.pg_spec.specs.Faults.{Parameters}
use Rattle.pg_query.specs.Dialogue.{Dialogue, Answer}
use Rattle.pg_execute.specs.Parameters.{Params}

-- This is asked and answered where there are as many values as types. Else they are refused, and nothing is asked.
abbrev pub paired : {T : Type 0} → (types : ℕ) → Params → Dialogue T → Dialogue T
paired types vs dialogue = if vs.count == types then dialogue else Answer (Err (Parameters vs.count types))
