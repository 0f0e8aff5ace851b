-- What is asked and answered where something is done with a target: a statement, or a text.
use Rattle.std.specs.Prelude.{ℕ, ◌+◌, List, [], Err}
use Rattle.pg_types.specs.declared.error.Error.{Error}
use Rattle.pg_types.specs.declared.error.Error.TheVariants.{Closed}
use Rattle.pg_query.specs.Dialogue.{Dialogue, Answer}
use Rattle.pg_query.specs.Scripts.{Waiting, Nothing}
use Rattle.pg_desk.specs.declared.statement.Described.{Described}
use Rattle.pg_core.specs.Sequences.{or_answer, then_do}
use Rattle.pg_core.specs.Thens.{waits_through}
use Rattle.pg_execute.specs.Closings.{closed_as, closes_dialogue, closes_refuses, closes_steps, closes_waits}
use Rattle.pg_execute.specs.Executes.{close_part, on_text}
use Rattle.pg_execute.specs.declared.closes.Closing.{Closing}
use Rattle.pg_execute.specs.declared.target.Target.{Target}
use Rattle.pg_execute.specs.declared.target.Target.TheVariants.{Query, OwnedQuery, Statement, Owned}
use Rattle.pg_execute.specs.declared.target.Targeted.{Targeted}
use Rattle.pg_execute.specs.declared.target.Targeted.TheVariants as stage

-- This is done with a statement; a text is prepared so before, and closed behind.
abbrev pub on_target : {T : Type 0} → (prepares : List ℕ → Dialogue Described) → (Described → Dialogue T) → Target → Dialogue T
on_target prepares body (Query text) = on_text (prepares text.now) body
on_target prepares body (OwnedQuery text) = on_text (prepares text) body
on_target prepares body (Statement s) = body s.now
on_target prepares body (Owned s) = body s

-- this is done with the statement of a text, which is closed behind these answers
abbrev pub closing_body : {T : Type 0} → Closing → (Described → Dialogue T) → Described → Dialogue T
closing_body closing body s = closed_as closing (close_part s.name) (body s)

-- the same as on_target, where a text is closed behind these answers
abbrev pub on_closing : {T : Type 0} → Closing → (prepares : List ℕ → Dialogue Described) → (Described → Dialogue T) → Target → Dialogue T
on_closing closing prepares body (Query text) = then_do (prepares text.now) (closing_body closing body)
on_closing closing prepares body (OwnedQuery text) = then_do (prepares text) (closing_body closing body)
on_closing closing prepares body (Statement s) = body s.now
on_closing closing prepares body (Owned s) = body s

-- ---- where it stands

-- what is still asked and answered
abbrev pub targeted_dialogue : {A G B T : Type 0} → (A → Dialogue Described) → (G → Described → Dialogue T) → (B → Dialogue T) → Targeted A G B T → Dialogue T
targeted_dialogue prepares to body (stage.Borrowed s go) = to go s.now
targeted_dialogue prepares to body (stage.Owned s go) = to go s
targeted_dialogue prepares to body (stage.Prepares a closing go) = then_do (prepares a) (closing_body closing (to go))
targeted_dialogue prepares to body (stage.Runs c) = closes_dialogue body c
targeted_dialogue prepares to body stage.Spent = Answer (Err Closed)

-- the same where the desk refuses what was sent or asked
abbrev pub targeted_refuses : {A G B T : Type 0} → (A → Error → Dialogue Described) → (G → Described → Dialogue T) → (B → Error → Dialogue T) → Targeted A G B T → Error → Dialogue T
targeted_refuses prepares to body (stage.Borrowed s go) = λ e. Answer (Err e)
targeted_refuses prepares to body (stage.Owned s go) = λ e. Answer (Err e)
targeted_refuses prepares to body (stage.Prepares a closing go) = λ e. then_do (prepares a e) (closing_body closing (to go))
targeted_refuses prepares to body (stage.Runs c) = closes_refuses body c
targeted_refuses prepares to body stage.Spent = λ e. Answer (Err e)

-- what is waited for
abbrev pub targeted_waits : {A G B T : Type 0} (prepares : A → Dialogue Described) → ((a : A) → Waiting (prepares a)) → (to : G → Described → Dialogue T) (body : B → Dialogue T) → ((b : B) → Waiting (body b)) →
    (t : Targeted A G B T) → Waiting (targeted_dialogue prepares to body t)
targeted_waits prepares prepares_waits to body body_waits (stage.Borrowed s go) = Nothing
targeted_waits prepares prepares_waits to body body_waits (stage.Owned s go) = Nothing
targeted_waits prepares prepares_waits to body body_waits (stage.Prepares a closing go) = waits_through [] (or_answer (closing_body closing (to go))) (prepares a) (prepares_waits a)
targeted_waits prepares prepares_waits to body body_waits (stage.Runs c) = closes_waits body body_waits c
targeted_waits prepares prepares_waits to body body_waits stage.Spent = Nothing

-- how many steps are left
abbrev pub targeted_steps : {A G B T : Type 0} → (A → ℕ) → (G → ℕ) → (B → ℕ) → Targeted A G B T → ℕ
targeted_steps prepares most body (stage.Borrowed s go) = most go + 1
targeted_steps prepares most body (stage.Owned s go) = most go + 1
targeted_steps prepares most body (stage.Prepares a closing go) = prepares a + (most go + 1)
targeted_steps prepares most body (stage.Runs c) = closes_steps body c
targeted_steps prepares most body stage.Spent = 0
