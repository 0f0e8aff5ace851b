-- Where an answer stands, or a script.
use Rattle.std.specs.Prelude.{ℕ, Err}
use Rattle.pg_types.specs.declared.error.Error.{Error}
use Rattle.pg_query.specs.Dialogue.{Dialogue, Answer}
use Rattle.pg_query.specs.Scripts.{Waiting, Nothing}
use Rattle.pg_core.specs.declared.maybe.Maybe.{Maybe}
use Rattle.pg_core.specs.declared.maybe.Maybe.TheVariants.{Answers, Goes}

-- what is still asked and answered
abbrev pub maybe_dialogue : {T B : Type 0} → (B → Dialogue T) → Maybe T B → Dialogue T
maybe_dialogue goes (Answers r) = Answer r
maybe_dialogue goes (Goes b) = goes b

-- the same where the desk refuses what was sent or asked; an answer sends and asks nothing
abbrev pub maybe_refuses : {T B : Type 0} → (B → Error → Dialogue T) → Maybe T B → Error → Dialogue T
maybe_refuses refuses (Answers r) = λ e. Answer (Err e)
maybe_refuses refuses (Goes b) = refuses b

-- what is waited for
abbrev pub maybe_waits : {T B : Type 0} (goes : B → Dialogue T) → ((b : B) → Waiting (goes b)) → (m : Maybe T B) → Waiting (maybe_dialogue goes m)
maybe_waits goes waits (Answers r) = Nothing
maybe_waits goes waits (Goes b) = waits b

-- how many steps are left
abbrev pub maybe_steps : {T B : Type 0} → (B → ℕ) → Maybe T B → ℕ
maybe_steps steps (Answers r) = 0
maybe_steps steps (Goes b) = steps b
