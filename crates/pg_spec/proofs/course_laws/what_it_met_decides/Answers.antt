use Rattle.pg_spec.proofs.course_laws.what_it_met_decides.Goals as goal
use Rattle.pg_spec.proofs.Outcomes.{comes}

pub returns : goal.returns
returns g c course handle at d requests asked given h = comes course handle at d requests asked given h
