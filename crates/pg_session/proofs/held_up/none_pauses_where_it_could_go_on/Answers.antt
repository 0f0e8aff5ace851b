use Rattle.pg_session.proofs.HeldUp.{made-held}
use Rattle.pg_session.proofs.held_up.none_pauses_where_it_could_go_on.Goals as goal

pub returns : goal.returns
returns g c = made-held
