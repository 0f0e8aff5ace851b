use Rattle.pg_spec.proofs.Owned.{owned}
use Rattle.pg_spec.proofs.course_laws.answers_in_own_turn.Goals as goal

pub returns : goal.returns
returns g c course handle at d requests asked given own h = owned course handle at d requests asked given own h
