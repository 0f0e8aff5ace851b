-- Where the closing of a statement stands.
use Rattle.std.specs.Prelude.{ℕ, Ok, Err}
use Rattle.pg_types.specs.declared.error.Error.{Error}
use Rattle.pg_query.specs.Dialogue.{Dialogue, Answer}
use Rattle.pg_execute.specs.Executes.{close}
use Rattle.pg_states.specs.declared.closing.Closing.{Closing}
use Rattle.pg_states.specs.declared.closing.Closing.TheVariants.{Borrowed, Done, Owned}

-- what is asked and answered from here on
abbrev pub dialogue_of_closing : Closing → Dialogue (Unit {0})
dialogue_of_closing (Borrowed s) = close s.now
dialogue_of_closing (Owned s) = close s
dialogue_of_closing Done = Answer (Ok tt)

-- where the desk refuses the request, its error is the answer
abbrev pub refuses_of_closing : Closing → Error → Dialogue (Unit {0})
refuses_of_closing s e = Answer (Err e)

-- how many actions are left
abbrev pub steps_of_closing : Closing → ℕ
steps_of_closing (Borrowed s) = 1
steps_of_closing (Owned s) = 1
steps_of_closing Done = 0
