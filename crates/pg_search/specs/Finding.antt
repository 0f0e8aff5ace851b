-- How many steps a search takes at most between two messages.
use Rattle.std.specs.Prelude.{ℕ, ◌*◌, ◌^◌}
use Rattle.pg_search.specs.Asking.{ask_steps}
use Rattle.pg_search.specs.Steps.{finding_steps}

-- of each of as many types as a list may have
abbrev pub most_steps : ℕ
most_steps = 2 ^ 64 * finding_steps ask_steps 64
