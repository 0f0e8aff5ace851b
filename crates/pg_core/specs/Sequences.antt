-- One dialogue behind the value of another.
use Rattle.std.specs.Prelude.{[], Result, Ok, Err}
use Rattle.pg_types.specs.declared.error.Error.{Error}
use Rattle.pg_query.specs.Dialogue.{Dialogue, Answer}
use Rattle.pg_core.specs.Behind.{behind}

-- it goes on with a value, and an error is the whole answer
abbrev pub or_answer : {A T : Type 0} → (A → Dialogue T) → Result A Error → Dialogue T
or_answer f (Ok x) = f x
or_answer f (Err e) = Answer (Err e)

-- a dialogue, and another behind its value
abbrev pub then_do : {A T : Type 0} → Dialogue A → (A → Dialogue T) → Dialogue T
then_do d f = behind [] d (or_answer f)
