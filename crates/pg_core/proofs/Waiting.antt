-- Where a poll waits.
use Rattle.std.proofs.Common.{inl, inr, List}
use Rattle.pg_desk.specs.declared.event.Event.{Event}
use Rattle.pg_query.specs.Meaning.{ForMessage, ForRoom, Place, WaitsAt}
use Rattle.pg_core.specs.Runs.{MayWait}

pub may-wait : {T : Type 0} (q : Place T) (events : List Event) → WaitsAt q events → MayWait q.dialogue
may-wait q events (ForMessage reads none) = inl reads
may-wait q events (ForRoom puts part full) = inr puts
