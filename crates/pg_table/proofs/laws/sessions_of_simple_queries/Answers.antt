use Rattle.pg_table.proofs.Headlines.{ended, ended-as-before, run-as-before}
use Rattle.pg_table.proofs.laws.sessions_of_simple_queries.Goals as goal

pub returns-clause-ended_well : goal.returns-clause-ended_well
returns-clause-ended_well c s scripts taken is e = ended s scripts taken is e

pub returns-clause-as_before : goal.returns-clause-as_before
returns-clause-as_before c s scripts taken is e = ended-as-before s scripts taken is e

pub returns-clause-has_run : goal.returns-clause-has_run
returns-clause-has_run c scripts turns report run = run-as-before scripts turns report run
