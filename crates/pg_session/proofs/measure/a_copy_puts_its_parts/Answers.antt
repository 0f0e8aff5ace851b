use Rattle.pg_session.proofs.Nearer.Copies.{copy-puts}
use Rattle.pg_session.proofs.measure.a_copy_puts_its_parts.Goals as goal

pub returns : goal.returns
returns g c opening failing ending parts opened reading = copy-puts failing ending reading opening parts opened
