-- Where the state of a clear stands.
use Rattle.pg_query.specs.Commands.{place_of, IsLive}
use Rattle.pg_query.specs.Meaning.{Place}
use Rattle.pg_states.specs.Clearing.{dialogue_of_clearing, waits_of_clearing}
use Rattle.pg_states.specs.declared.clear.ClearState.{ClearState}

-- what a clear asks and answers from here on
abbrev pub place_of_clear : ClearState → Place (Unit {0})
place_of_clear s = place_of dialogue_of_clearing s.command

-- a clear hasn't answered
abbrev pub IsLiveClear : ClearState → Type 0
IsLiveClear s = IsLive dialogue_of_clearing waits_of_clearing s.command
