use Rattle.pg_startup.proofs.Beginning.{history-begins}
use Rattle.pg_startup.proofs.laws.history_of_a_startup.Goals as goal

pub returns : goal.returns
returns c = history-begins
