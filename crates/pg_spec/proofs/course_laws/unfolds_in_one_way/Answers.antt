use Rattle.pg_spec.proofs.OneWay.{one-way}
use Rattle.pg_spec.proofs.course_laws.unfolds_in_one_way.Goals as goal

pub returns : goal.returns
returns g c course handle at d requests asked x y puts h k = one-way course handle at d requests asked x y puts h k
