-- Commands of one request that write their frame in their first poll: where each stands.
use Rattle.std.specs.Prelude.{ℕ, List, Err}
use Rattle.pg_types.specs.Texts.{sql_text}
use Rattle.pg_types.specs.declared.error.Error.{Error}
use Rattle.pg_query.specs.Dialogue.{Dialogue, Answer}
use Rattle.pg_query.specs.Scripts.{Waiting, Nothing, waiting_at}
use Rattle.pg_query.specs.SingleRequests as one_request
use Rattle.pg_query.specs.declared.simple_message.SimpleMessage.{SimpleMessage}
use Rattle.pg_client.specs.Done as done
use Rattle.pg_client.specs.Done.{batch_execute, check_connection}
use Rattle.pg_client.specs.Simple as simple
use Rattle.pg_client.specs.Simple.{simple_query}
use Rattle.pg_client.specs.declared.done_script.DoneScript.{DoneScript}
use Rattle.pg_client.specs.declared.done_script.DoneScript.TheVariants as done_script
use Rattle.pg_client.specs.declared.simple_script.SimpleScript.{SimpleScript}
use Rattle.pg_client.specs.declared.simple_script.SimpleScript.TheVariants as simple_script

-- It sends and asks nothing that a desk could refuse but its request, whose refusal is the answer.
abbrev pub refuses_of : {S T : Type 0} → S → Error → Dialogue T
refuses_of s e = Answer (Err e)

-- ---- a simple query

-- what it asks and answers from here on
abbrev pub dialogue_of_simple : SimpleScript → Dialogue (List SimpleMessage)
dialogue_of_simple (simple_script.New text take) = simple_query (sql_text text) take
dialogue_of_simple (simple_script.Asked one) = one_request.dialogue_of simple.reading_of one

-- what it waits for
abbrev pub waits_of_simple : (s : SimpleScript) → Waiting (dialogue_of_simple s)
waits_of_simple (simple_script.New text take) = Nothing
waits_of_simple (simple_script.Asked one) = waiting_at (one_request.dialogue_of simple.reading_of one)

-- at most how many actions are left before a message or the answer
abbrev pub steps_of_simple : SimpleScript → ℕ
steps_of_simple (simple_script.New text take) = 3
steps_of_simple (simple_script.Asked one) = one_request.steps_of one

-- ---- a batch, or a check

-- what it asks and answers from here on
abbrev pub dialogue_of_done : DoneScript → Dialogue (Unit {0})
dialogue_of_done (done_script.Batch text) = batch_execute (sql_text text)
dialogue_of_done done_script.Check = check_connection
dialogue_of_done (done_script.Asked one) = one_request.dialogue_of done.reading_of one

-- what it waits for
abbrev pub waits_of_done : (s : DoneScript) → Waiting (dialogue_of_done s)
waits_of_done (done_script.Batch text) = Nothing
waits_of_done done_script.Check = Nothing
waits_of_done (done_script.Asked one) = waiting_at (one_request.dialogue_of done.reading_of one)

-- at most how many actions are left before a message or the answer
abbrev pub steps_of_done : DoneScript → ℕ
steps_of_done (done_script.Batch text) = 3
steps_of_done done_script.Check = 3
steps_of_done (done_script.Asked one) = one_request.steps_of one
