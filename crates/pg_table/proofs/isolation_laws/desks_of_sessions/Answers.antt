use Rattle.pg_table.proofs.Told.{desk-tells}
use Rattle.pg_table.proofs.isolation_laws.desks_of_sessions.Goals as goal

pub returns-clause-ended_well : goal.returns-clause-ended_well
returns-clause-ended_well c s taken ended = desk-tells ended.asked ended.has_run.told

pub returns-clause-over_any_link : goal.returns-clause-over_any_link
returns-clause-over_any_link c scripts turns report ran = desk-tells ran.asked ran.has_run.told
