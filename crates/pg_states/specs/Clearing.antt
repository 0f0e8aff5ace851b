-- Where it stands that the types are dropped that a desk keeps.
use Rattle.std.specs.Prelude.{ℕ, Err}
use Rattle.pg_types.specs.declared.error.Error.{Error}
use Rattle.pg_core.specs.Lookups.{clear, cleared_told}
use Rattle.pg_query.specs.Dialogue.{Dialogue, Answer, Hear}
use Rattle.pg_query.specs.Scripts.{Waiting, waiting_at}
use Rattle.pg_states.specs.declared.clearing.Clearing.{Clearing}
use Rattle.pg_states.specs.declared.clearing.Clearing.TheVariants.{Asked, New}

-- what it asks and answers from here on
abbrev pub dialogue_of_clearing : Clearing → Dialogue (Unit {0})
dialogue_of_clearing New = clear
dialogue_of_clearing Asked = Hear cleared_told

-- where the desk refuses, the error is the answer
abbrev pub refuses_of_clearing : Clearing → Error → Dialogue (Unit {0})
refuses_of_clearing s e = Answer (Err e)

-- what it waits for
abbrev pub waits_of_clearing : (s : Clearing) → Waiting (dialogue_of_clearing s)
waits_of_clearing s = waiting_at (dialogue_of_clearing s)

-- how many actions are left
abbrev pub steps_of_clearing : Clearing → ℕ
steps_of_clearing New = 1
steps_of_clearing Asked = 0
