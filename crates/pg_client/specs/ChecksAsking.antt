-- A check of a session, which writes its frame in its first poll: where it stands.
use Rattle.std.specs.Prelude.{ℕ, Err}
use Rattle.pg_types.specs.declared.error.Error.{Error}
use Rattle.pg_query.specs.Dialogue.{Dialogue, Answer}
use Rattle.pg_query.specs.Scripts.{Waiting, Nothing, waiting_at}
use Rattle.pg_query.specs.SingleRequests as one_request
use Rattle.pg_client.specs.Showing.{reading_of, session_check}
use Rattle.pg_client.specs.declared.show_script.ShowScript.{ShowScript}
use Rattle.pg_client.specs.declared.show_script.ShowScript.TheVariants.{New, Asked}

-- It sends and asks nothing that a desk could refuse but its request, whose refusal is the answer.
abbrev pub refuses_of : ShowScript → Error → Dialogue (Unit {0})
refuses_of s e = Answer (Err e)

-- what it asks and answers from here on
abbrev pub dialogue_of_check : ShowScript → Dialogue (Unit {0})
dialogue_of_check (New attrs) = session_check attrs
dialogue_of_check (Asked one) = one_request.dialogue_of reading_of one

-- what it waits for
abbrev pub waits_of_check : (s : ShowScript) → Waiting (dialogue_of_check s)
waits_of_check (New attrs) = Nothing
waits_of_check (Asked one) = waiting_at (one_request.dialogue_of reading_of one)

-- at most how many actions are left before a message or the answer
abbrev pub steps_of_check : ShowScript → ℕ
steps_of_check (New attrs) = 3
steps_of_check (Asked one) = one_request.steps_of one
