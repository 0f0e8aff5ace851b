use Rattle.pg_spec.proofs.Simple.{as-before}
use Rattle.pg_spec.proofs.course_laws.simple_query_as_before.Goals as goal

pub returns : goal.returns
returns g c course handle place text wanted times answer from begins h = as-before course handle place text wanted times answer from begins h
