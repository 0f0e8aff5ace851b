-- Where the state of a simple query stands.
use Rattle.std.specs.Prelude.{List}
use Rattle.pg_query.specs.Commands.{place_of, IsLive}
use Rattle.pg_query.specs.Meaning.{Place}
use Rattle.pg_query.specs.declared.command.Command.{Command}
use Rattle.pg_query.specs.declared.simple_message.SimpleMessage.{SimpleMessage}
use Rattle.pg_client.specs.Asking.{dialogue_of_simple, waits_of_simple}
use Rattle.pg_client.specs.declared.simple_script.SimpleScript.{SimpleScript}

-- what it asks and answers from here on, and the request that it reads
abbrev pub place_of_query : Command SimpleScript (List SimpleMessage) → Place (List SimpleMessage)
place_of_query s = place_of dialogue_of_simple s

-- it hasn't answered
abbrev pub IsLiveQuery : Command SimpleScript (List SimpleMessage) → Type 0
IsLiveQuery s = IsLive dialogue_of_simple waits_of_simple s
