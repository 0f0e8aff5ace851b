use Rattle.pg_spec.proofs.Headlines.{unmapped}
use Rattle.pg_spec.proofs.course_laws.told_in_other_words.Goals as goal

pub returns : goal.returns
returns g c course handle at d f requests asked given h = unmapped course handle at d f requests asked given h
