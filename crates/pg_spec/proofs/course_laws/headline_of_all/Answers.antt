use Rattle.pg_spec.proofs.Headlines.{headline}
use Rattle.pg_spec.proofs.course_laws.headline_of_all.Goals as goal

pub returns : goal.returns
returns g c meaning how are scripts turns answers course run = headline meaning how are scripts turns answers course run
