use Rattle.pg_connect.proofs.Standing.{settled}
use Rattle.pg_connect.proofs.laws.settled_poll.Goals as goal

pub returns : goal.returns
returns c = settled
