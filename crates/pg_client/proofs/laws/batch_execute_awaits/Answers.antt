use Rattle.pg_client.proofs.Done.{batch-awaits}
use Rattle.pg_client.proofs.laws.batch_execute_awaits.Goals as goal

pub returns : goal.returns
returns c = batch-awaits
