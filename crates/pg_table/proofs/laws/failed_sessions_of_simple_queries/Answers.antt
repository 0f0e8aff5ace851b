use Rattle.pg_table.proofs.Headlines.{kept-as-before, sent-as-before}
use Rattle.pg_table.proofs.laws.failed_sessions_of_simple_queries.Goals as goal

pub returns-clause-sent : goal.returns-clause-sent
returns-clause-sent c call scripts s given taken is h = sent-as-before call scripts s given taken is h

pub returns-clause-kept : goal.returns-clause-kept
returns-clause-kept c call scripts result is h = kept-as-before call scripts result is h
