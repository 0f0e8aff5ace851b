-- What a server has in hand between two calls.
use Rattle.std.specs.Prelude.{ℕ, Bool, true, false, not, ◌&&◌, List, Option, Some, None}
use Rattle.pg_spec.specs.RawMessages.{message_at, has_bad_header}
use Rattle.pg_server.specs.Openings.{InFront, Short, opening_in_front}
use Rattle.pg_server.specs.declared.session.Stage.{Stage}
use Rattle.pg_server.specs.declared.session.Stage.TheVariants.{Opening, Serves, Over}

-- it can't be told yet what they are
abbrev pub is_short : InFront → Bool
is_short Short = true
is_short other = false

-- there is none
abbrev pub is_none : {A : Type 0} → Option A → Bool
is_none None = true
is_none (Some a) = false

-- Nothing can be done with these bytes before more come; behind Terminate or a fault none will be looked at.
abbrev pub is_settled : Stage → List ℕ → Bool
is_settled Opening bytes = is_short (opening_in_front bytes)
is_settled Serves bytes = is_none (message_at bytes) && not (has_bad_header bytes)
is_settled Over bytes = true
