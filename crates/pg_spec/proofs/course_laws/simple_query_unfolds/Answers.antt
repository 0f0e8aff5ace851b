use Rattle.pg_spec.proofs.SimpleBack.{from-before}
use Rattle.pg_spec.proofs.course_laws.simple_query_unfolds.Goals as goal

pub returns : goal.returns
returns g c course handle place text wanted times answer from former begins none h = from-before course handle place text wanted times answer from former begins none h
