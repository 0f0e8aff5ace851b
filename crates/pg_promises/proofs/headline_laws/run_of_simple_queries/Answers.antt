use Rattle.pg_spec.specs.RawMessages.{groups}
use Rattle.pg_promises.proofs.Landed.{has-run}
use Rattle.pg_promises.proofs.headline_laws.run_of_simple_queries.Goals as goal

pub returns : goal.returns
returns g c meaning are scripts turns report run = (run.has_run.schedule, has-run meaning are scripts turns report (groups run.later) run.asked run.has_run)
