-- A command of one request leaves nothing to do before its begin.
use Rattle.std.proofs.Common.{◌≡◌, ℕ, List, [], length, ◌==◌, Bool, true, false, Result, Ok, Err, if◌then◌else◌, refl}
use Rattle.pg_execute.specs.Parameters.{Params}
use Rattle.pg_spec.specs.Faults.{Parameters}
use Rattle.pg_types.specs.declared.error.Error.{Error}
use Rattle.pg_query.specs.Dialogue.{Dialogue, Answer}
use Rattle.pg_query.specs.Scripts.{cleanup_of}
use Rattle.pg_core.specs.Composing.{asks_for}
use Rattle.pg_states.specs.Paired.{paired}

-- the request stands, or is refused
asks-clean : {T : Type 0} (request : Result (List ℕ) Error) (d : Dialogue T) → cleanup_of (asks_for request d) ≡ []
asks-clean (Ok part) d = refl
asks-clean (Err e) d = refl

-- and so are values that aren't as many as the types
pub paired-clean : {T : Type 0} (types : ℕ) (vs : Params) (request : Result (List ℕ) Error) (d : Dialogue T) → cleanup_of (paired types vs (asks_for request d)) ≡ []
paired-clean types vs request d = by (vs.count == types)
  where
    by : (b : Bool) → cleanup_of (if b then asks_for request d else Answer (Err (Parameters vs.count types))) ≡ []
    by true = asks-clean request d
    by false = refl
