-- Where the state of a check of a session stands.
use Rattle.pg_query.specs.Commands.{place_of, IsLive}
use Rattle.pg_query.specs.Meaning.{Place}
use Rattle.pg_query.specs.declared.command.Command.{Command}
use Rattle.pg_client.specs.ChecksAsking.{dialogue_of_check, waits_of_check}
use Rattle.pg_client.specs.declared.show_script.ShowScript.{ShowScript}

-- what it asks and answers from here on, and the request that it reads
abbrev pub place_of_check : Command ShowScript (Unit {0}) → Place (Unit {0})
place_of_check s = place_of dialogue_of_check s

-- it hasn't answered
abbrev pub IsLiveCheck : Command ShowScript (Unit {0}) → Type 0
IsLiveCheck s = IsLive dialogue_of_check waits_of_check s
