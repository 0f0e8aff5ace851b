use Rattle.pg_spec.proofs.Isolated.{same-answers}
use Rattle.pg_spec.proofs.course_laws.isolation_of_answers.Goals as goal

pub returns : goal.returns
returns g c meaning named is command one two a b x y own met = same-answers meaning named is command one two a b x y own met
