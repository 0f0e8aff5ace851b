-- A value that is answered at once.
use Rattle.std.specs.Prelude.{Option, Some, None, Ok, Err}
use Rattle.pg_types.specs.declared.error.Error.{Error}
use Rattle.pg_types.specs.declared.error.Error.TheVariants.{Closed}
use Rattle.pg_query.specs.Dialogue.{Dialogue, Answer}
use Rattle.pg_core.specs.declared.ready.Ready.{Ready}

-- the value, once
abbrev pub answers_once : {T : Type 0} → Option T → Dialogue T
answers_once (Some value) = Answer (Ok value)
answers_once None = Answer (Err Closed)

-- what is still answered
abbrev pub ready_at : {T : Type 0} → Ready T → Dialogue T
ready_at s = answers_once s.value

-- it sends and asks nothing that a desk could refuse
abbrev pub ready_refuses : {T : Type 0} → Ready T → Error → Dialogue T
ready_refuses s e = Answer (Err e)
