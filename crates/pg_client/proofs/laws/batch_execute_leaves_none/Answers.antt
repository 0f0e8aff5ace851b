use Rattle.pg_client.proofs.Done.{batch-lets-go}
use Rattle.pg_client.proofs.laws.batch_execute_leaves_none.Goals as goal

pub returns : goal.returns
returns c = batch-lets-go
