-- The values of a statement's parameters, and the request that executes it with them (PostgreSQL documentation, "Extended Query").
use Rattle.std.specs.Prelude.{ℕ, List, [], ◌∷◌, ◌++◌, length, slice_get, ◌==◌, nat_lt, map, Option, Result, Ok, Err, if◌then◌else◌, pos}
use Rattle.pg_spec.specs.Faults.{◌>>=◌, FrameFault, Parameters, ToSql, Value as OfValue}
use Rattle.pg_spec.specs.Frames.{bind_frame, execute_frame, sync_frame}
use Rattle.pg_types.specs.declared.pg_type.PgType.{PgType}
use Rattle.pg_types.specs.declared.value.Value.{Value}
use Rattle.pg_types.specs.AnyValues.{value_at}
use Rattle.pg_types.specs.Values.{Given}
use Rattle.pg_types.specs.declared.error.Error.{Error}
use Rattle.pg_desk.specs.declared.statement.Described.{Described as Statement}
use Rattle.pg_core.specs.Composing.{or_encode}

-- the values of parameters: how many there are, and what the one at a place gives under a type
pub record Params : Type 0 where
  pub count : ℕ
  pub gives_at : ℕ → PgType → Given

-- so many, of which each gives this
abbrev pub params : ℕ → (ℕ → PgType → Given) → Params
params count gives_at = record { count = count; gives_at = gives_at }

-- these values
abbrev pub given_of : List Value → Params
given_of vs = params (length vs) (λ place ty. value_at (slice_get vs place) ty.oid)

-- the bytes or null, or the error of the parameter at this place
abbrev pub or_to_sql : (place : ℕ) → Given → Result (Option (List ℕ)) Error
or_to_sql place (Ok given) = Ok given
or_to_sql place (Err f) = Err (ToSql place (OfValue f))

-- The values under the types of their parameters, behind those that were found. The first that is refused decides.
abbrev pub given_behind : (found : List (Option (List ℕ))) → List PgType → Params → Result (List (Option (List ℕ))) Error
given_behind found [] vs = Ok found
given_behind found (ty ∷ types) vs =
    if nat_lt (length found) vs.count
    then (or_to_sql (length found) (vs.gives_at (length found) ty) >>= λ given. given_behind (found ++ given ∷ []) types vs)
    else Ok found

-- Bind with these values, each in binary form as all columns of the rows are, Execute of all rows, Sync
abbrev pub execute_frames : (name : List ℕ) → List (Option (List ℕ)) → Result (List ℕ) FrameFault
execute_frames name given =
    bind_frame [] name (map (λ v. pos 1) given) given (pos 1) >>= λ bind.
    execute_frame [] (pos 0) >>= λ execute.
    Ok (bind ++ execute ++ sync_frame)

-- The request that executes a statement with these values. Their number is looked at first, then each value, and then the frames.
abbrev pub execute_request : Statement → Params → Result (List ℕ) Error
execute_request s vs =
    if vs.count == length s.params
    then (given_behind [] s.params vs >>= λ given. or_encode (execute_frames s.name given))
    else Err (Parameters vs.count (length s.params))
