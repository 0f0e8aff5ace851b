use Rattle.pg_session.proofs.Complete.Course.{must-end-well}
use Rattle.pg_session.proofs.completeness.valid_input_ends_well.Goals as goal

pub returns : goal.returns
returns g c speech whole call failure result before after goes sent cause is = must-end-well speech whole call failure result before after goes sent cause is
