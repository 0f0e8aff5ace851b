-- Where a text stands that is executed with values of given types, and whose count is told.
use Rattle.std.specs.Prelude.{ℕ, Option, Some, None, Err}
use Rattle.pg_types.specs.Texts.{sql_text}
use Rattle.pg_types.specs.declared.error.Error.{Error}
use Rattle.pg_types.specs.declared.error.Error.TheVariants.{Closed}
use Rattle.pg_query.specs.Dialogue.{Dialogue, Answer}
use Rattle.pg_query.specs.Scripts.{GoesOn, Nothing, Waiting, waiting_at}
use Rattle.pg_query.specs.SingleRequests.{dialogue_of, refuses_of, steps_of}
use Rattle.pg_query.specs.declared.script.Want.{Want}
use Rattle.pg_query.specs.declared.single_request.SingleRequest.{SingleRequest}
use Rattle.pg_execute.specs.Parameters.{Params}
use Rattle.pg_execute.specs.Typed.{execute_typed}
use Rattle.pg_execute.specs.TypedCounts.{reading_of_count}
use Rattle.pg_execute.specs.Types.{types_in}
use Rattle.pg_execute.specs.declared.execute_typed.ExecuteTyped.{ExecuteTyped}
use Rattle.pg_execute.specs.declared.execute_typed.ExecuteTyped.TheVariants.{Asks, Begins, Spent}
use Rattle.pg_execute.specs.declared.typed_count_reading.TypedCountReading.{TypedCountReading}
use Rattle.pg_execute.specs.declared.typed_requests.Unwritten.{Unwritten}

-- the count, which is read up to the end of the reply
abbrev pub count_at : SingleRequest TypedCountReading ℕ → Dialogue ℕ
count_at s = dialogue_of reading_of_count s

-- what is still asked and answered
abbrev pub execute_at : {P : Type 0} → (P → Params) → ExecuteTyped P → Dialogue ℕ
execute_at given (Begins request) = execute_typed (sql_text request.text) (types_in request.types) (given request.values)
execute_at given (Asks asks) = count_at asks
execute_at given Spent = Answer (Err Closed)

-- the same where the desk refuses what was sent
abbrev pub execute_refuses : {P : Type 0} → ExecuteTyped P → Error → Dialogue ℕ
execute_refuses (Begins request) = λ e. Answer (Err e)
execute_refuses (Asks asks) = refuses_of asks
execute_refuses Spent = λ e. Answer (Err e)

-- what is waited for
abbrev pub execute_waits : {P : Type 0} (given : P → Params) → (s : ExecuteTyped P) → Waiting (execute_at given s)
execute_waits given (Begins request) = Nothing
execute_waits given (Asks asks) = waiting_at (count_at asks)
execute_waits given Spent = Nothing

-- how many steps are left
abbrev pub execute_steps : {P : Type 0} → ExecuteTyped P → ℕ
execute_steps (Begins request) = 2
execute_steps (Asks asks) = steps_of asks
execute_steps Spent = 0

-- a script that stood at this dialogue wants this, and stands behind it
abbrev pub ExecuteGoes : {P : Type 0} → (P → Params) → Dialogue ℕ → Want ℕ → ExecuteTyped P → Type 0
ExecuteGoes given d w new = GoesOn (execute_at given) execute_refuses (execute_waits given) d w new

-- the request that isn't written yet
abbrev pub unwritten : {P : Type 0} → ExecuteTyped P → Option (Unwritten P)
unwritten (Begins request) = Some request
unwritten _ = None

-- what is asked by it
abbrev pub begun : {P : Type 0} → (P → Params) → Option (Unwritten P) → Dialogue ℕ
begun given (Some request) = execute_typed (sql_text request.text) (types_in request.types) (given request.values)
begun given None = Answer (Err Closed)
