-- What is done at the desk in one call.
use Rattle.std.specs.Prelude.{ℕ, List, Result}
use Rattle.pg_desk.specs.declared.event.Event.{Event}
use Rattle.pg_spec.specs.declared.stamps.Stamp.{Stamp}
use Rattle.pg_types.specs.declared.error.Error.{Error}
use Rattle.pg_query.specs.Dialogue.{Dialogue}
use Rattle.pg_query.specs.Meaning.{GoesToAnswer}

-- By some events, under this stamp, the desk became another, and they lead along the dialogue to its answer. Which request it would read doesn't matter,
-- as it reads none before its own.
pub record Does {D T : Type 0} (becomes : D → List Event → D → Type 0) (stamp : Stamp) (a : D) (d : Dialogue T) (b : D) (r : Result T Error) : Type 0 where
  pub reads : ℕ
  pub goes : GoesToAnswer becomes stamp a (record { dialogue = d; reads = reads }) b r
