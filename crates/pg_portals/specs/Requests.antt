-- The names of portals, and the requests that bind, execute and close one (PostgreSQL documentation, "Extended Query").
use Rattle.std.specs.Prelude.{ℕ, ℤ, List, [], ◌∷◌, ◌++◌, length, ◌==◌, map, Option, Result, Ok, Err, if◌then◌else◌, decimal, pos}
use Rattle.std.specs.Str.{byte}
use Rattle.pg_spec.specs.Faults.{◌>>=◌, FrameFault, Parameters}
use Rattle.pg_spec.specs.Frames.{bind_frame, close_frame, execute_frame, sync_frame}
use Rattle.pg_types.specs.declared.error.Error.{Error}
use Rattle.pg_desk.specs.declared.statement.Described.{Described as Statement}
use Rattle.pg_core.specs.Composing.{or_encode}
use Rattle.pg_execute.specs.Parameters.{Params, given_behind}

-- the name of a portal: a p and its number
abbrev pub portal_name : ℕ → List ℕ
portal_name n = byte "p" ∷ decimal n

-- Bind of a statement to a portal with these values, each in binary form as all columns of the rows are, Sync
abbrev pub bind_frames : (portal name : List ℕ) → List (Option (List ℕ)) → Result (List ℕ) FrameFault
bind_frames portal name given = bind_frame portal name (map (λ v. pos 1) given) given (pos 1) >>= λ bind. Ok (bind ++ sync_frame)

-- The request that binds a statement to these values under the name of this number. Their number is looked at first, then each value, and then
-- the frames.
abbrev pub bind_request : (n : ℕ) → Statement → Params → Result (List ℕ) Error
bind_request n s vs =
    if vs.count == length s.params
    then (given_behind [] s.params vs >>= λ given. or_encode (bind_frames (portal_name n) s.name given))
    else Err (Parameters vs.count (length s.params))

-- Execute of so many rows of a portal at most, Sync. 0 are all, and so are less.
abbrev pub portal_frames : (portal : List ℕ) → (max_rows : ℤ) → Result (List ℕ) FrameFault
portal_frames portal max_rows = execute_frame portal max_rows >>= λ execute. Ok (execute ++ sync_frame)

-- the same of the portal of this number
abbrev pub portal_request : (n : ℕ) → (max_rows : ℤ) → Result (List ℕ) Error
portal_request n max_rows = or_encode (portal_frames (portal_name n) max_rows)

-- Close of a portal, Sync
abbrev pub close_frames : (portal : List ℕ) → Result (List ℕ) FrameFault
close_frames portal = close_frame (byte "P") portal >>= λ close. Ok (close ++ sync_frame)

-- the same of the portal of this number
abbrev pub close_portal_request : (n : ℕ) → Result (List ℕ) Error
close_portal_request n = or_encode (close_frames (portal_name n))
