use Rattle.std.proofs.Common.{refl}
use Rattle.std.specs.Fmt.{digits}
use Rattle.pg_gen.proofs.laws.worked_two.Goals as goal

pub returns-clause-plan : goal.returns-clause-plan
unfolding digits
returns-clause-plan c = refl

pub returns-clause-scripts : goal.returns-clause-scripts
unfolding digits
returns-clause-scripts c = refl

pub returns-clause-summary : goal.returns-clause-summary
unfolding digits
returns-clause-summary c = refl
