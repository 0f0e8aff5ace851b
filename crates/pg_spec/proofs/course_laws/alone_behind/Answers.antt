use Rattle.pg_spec.proofs.Alone.{alone-of}
use Rattle.pg_spec.proofs.course_laws.alone_behind.Goals as goal

pub returns : goal.returns
returns g c d k l h = alone-of d k l h
