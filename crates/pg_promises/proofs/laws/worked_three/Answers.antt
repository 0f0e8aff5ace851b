use Rattle.pg_promises.proofs.WorkedThree.{ended}
use Rattle.pg_promises.proofs.laws.worked_three.Goals as goal

pub returns : goal.returns
returns c = ended
