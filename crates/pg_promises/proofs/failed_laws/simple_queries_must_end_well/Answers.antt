use Rattle.pg_promises.proofs.NoFlush.{must-end}
use Rattle.pg_promises.proofs.failed_laws.simple_queries_must_end_well.Goals as goal

pub returns : goal.returns
returns c call result none h = must-end call result none h
