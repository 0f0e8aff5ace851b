-- The drawing of a statement's number.
use Rattle.std.specs.Prelude.{ℕ, Ok, Err, if◌then◌else◌}
use Rattle.pg_types.specs.declared.cause.Cause.TheVariants.{Counter}
use Rattle.pg_types.specs.declared.error.Error.{Error}
use Rattle.pg_types.specs.declared.error.Error.TheVariants.{Encode, Closed}
use Rattle.pg_query.specs.declared.desk_call.DeskCall.TheVariants.{NextStatement}
use Rattle.pg_query.specs.declared.desk_call.Reply.{Reply}
use Rattle.pg_query.specs.declared.desk_call.Reply.TheVariants.{Number, Spent}
use Rattle.pg_query.specs.Dialogue.{Dialogue, Answer, Call, Hear}
use Rattle.pg_core.specs.declared.draws.Draws.{Draws}

-- a number, or the counter is spent
abbrev pub number_told : Reply → Dialogue ℕ
number_told (Number n) = Answer (Ok n)
number_told Spent = Answer (Err (Encode Counter))
number_told _ = Answer (Err Closed)

-- asks for the next number, and answers it
abbrev pub draws : Dialogue ℕ
draws = Call NextStatement (λ e. Answer (Err e)) number_told

-- what is still asked and answered
abbrev pub draws_at : Draws → Dialogue ℕ
draws_at s = if s.hears then Hear number_told else draws

-- where the desk refuses the question, its error is the answer
abbrev pub draws_refuses : Draws → Error → Dialogue ℕ
draws_refuses s e = Answer (Err e)

-- how many steps are left
abbrev pub draws_steps : Draws → ℕ
draws_steps s = if s.hears then 0 else 1
