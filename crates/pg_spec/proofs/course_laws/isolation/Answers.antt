use Rattle.pg_spec.proofs.Outcomes.{same-by-names}
use Rattle.pg_spec.proofs.course_laws.isolation.Goals as goal

pub returns : goal.returns
returns g c meaning named is x a b p q own met left = same-by-names meaning named is x a b p q own met left
