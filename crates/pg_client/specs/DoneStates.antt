-- Where the states of a batch and of a check stand.
use Rattle.pg_query.specs.Commands.{place_of, IsLive}
use Rattle.pg_query.specs.Meaning.{Place}
use Rattle.pg_client.specs.Asking.{dialogue_of_done, waits_of_done}
use Rattle.pg_client.specs.declared.done_script.DoneScript.{DoneScript}
use Rattle.pg_query.specs.declared.command.Command.{Command}

-- what a batch asks and answers from here on, and the request that it reads
abbrev pub place_of_batch : Command DoneScript (Unit {0}) → Place (Unit {0})
place_of_batch s = place_of dialogue_of_done s

-- a batch hasn't answered
abbrev pub IsLiveBatch : Command DoneScript (Unit {0}) → Type 0
IsLiveBatch s = IsLive dialogue_of_done waits_of_done s

-- what a check asks and answers from here on, and the request that it reads
abbrev pub place_of_check : Command DoneScript (Unit {0}) → Place (Unit {0})
place_of_check s = place_of dialogue_of_done s

-- a check hasn't answered
abbrev pub IsLiveCheck : Command DoneScript (Unit {0}) → Type 0
IsLiveCheck s = IsLive dialogue_of_done waits_of_done s
