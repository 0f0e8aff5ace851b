use Rattle.pg_query_laws.specs.Kept.{IsOwn}
use Rattle.pg_query_laws.proofs.RunQuestions.{all-hold, types-own}
use Rattle.pg_query_laws.proofs.run_laws.types_of_runs.Goals as goal

pub returns-clause-kept : goal.returns-clause-kept
returns-clause-kept g c = λ speech each scripts turns answers course x. all-hold IsOwn speech each scripts turns answers course x

pub returns-clause-told : goal.returns-clause-told
returns-clause-told g c = λ speech each scripts turns answers course x before rest ask oid ty parts question told. types-own speech each scripts turns answers course x before rest ask oid ty parts question told
