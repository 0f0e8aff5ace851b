-- The frames of a client before the tagged ones (PostgreSQL documentation, "Message Formats": SSLRequest, CancelRequest,
-- StartupMessage).
use Rattle.std.specs.Prelude.{◌≡◌, ℕ, ◌-◌, ◌^◌, Bool, ◌&&◌, ◌==◌, List, [], ◌∷◌, Some, None, nat_le, nat_lt, if◌then◌else◌}
use Rattle.std.specs.Int.{w32}
use Rattle.std.specs.Str.{bytes_eq}
use Rattle.pg_spec.specs.Bytes.{number_at, bytes_at, items_of}
use Rattle.pg_spec.specs.ClientFrames.{pair_at}
use Rattle.pg_types.specs.declared.faults.WireFault.TheVariants.{BadLength, Layout}
use Rattle.pg_server.specs.declared.fault.ServerFault.{ServerFault}
use Rattle.pg_server.specs.declared.fault.ServerFault.TheVariants.{Version, Cancel, BadFrame}
use Rattle.pg_server.specs.declared.opening.Opening.{Opening}
use Rattle.pg_server.specs.declared.opening.Opening.TheVariants as code

-- what stands in front of some bytes, and the bytes behind it
pub data InFront : Type 0 where
  -- too few bytes to tell
  Short : InFront
  Ssl : (rest : List ℕ) → InFront
  Starts : (rest : List ℕ) → InFront
  Breaks : (fault : ServerFault) → InFront

-- a length counts itself and the code, and is a signed number
abbrev pub is_length : ℕ → Bool
is_length n = nat_le 8 n && nat_lt n (2 ^ 31)

-- names that aren't empty, each with its value, and one zero byte behind them
abbrev pub is_parameters : List ℕ → Bool
is_parameters bytes = bytes_eq (items_of pair_at bytes).1 (0 ∷ [])

-- a startup frame of version 3.0, by its length and what stands behind the version
abbrev pub starting : ℕ → List ℕ → InFront
starting n body = elim (bytes_at (n - 8) body) [
  | None ↦ Short
  | Some parameters ↦ if is_parameters parameters.0 then Starts parameters.1 else Breaks (BadFrame Layout)
]

-- a CancelRequest, by what stands behind its code: a process id and a key
abbrev pub cancelling : List ℕ → InFront
cancelling body = elim (bytes_at 8 body) [ None ↦ Short | Some rest ↦ Breaks Cancel ]

-- by the length and the code, which is a version where it is none of SSLRequest and CancelRequest
abbrev pub opening_by : ℕ → ℕ → List ℕ → InFront
opening_by n code body =
    if code == 80877103 then (if n == 8 then Ssl body else Breaks (BadFrame BadLength))
    else if code == 80877102 then (if n == 16 then cancelling body else Breaks (BadFrame BadLength))
    else if code == 196608 then starting n body
    else Breaks (Version code)

-- behind the length
abbrev pub opening_behind : ℕ → List ℕ → InFront
opening_behind n bytes = elim (number_at w32 bytes) [ None ↦ Short | Some code ↦ opening_by n code.0 code.1 ]

-- The frame in front. Its length and its code are looked at as soon as they are there, and a startup frame of version 3.0
-- and a CancelRequest once they are whole.
abbrev pub opening_in_front : List ℕ → InFront
opening_in_front bytes = elim (number_at w32 bytes) [
  | None ↦ Short
  | Some n ↦ if is_length n.0 then opening_behind n.0 n.1 else Breaks (BadFrame BadLength)
]

-- this is what was found
abbrev pub OpensAs : InFront → Opening → Type 0
OpensAs found code.Short = found ≡ Short
OpensAs found (code.Ssl rest) = found ≡ Ssl rest.now
OpensAs found (code.Starts rest) = found ≡ Starts rest.now
OpensAs found (code.Breaks fault) = found ≡ Breaks fault
