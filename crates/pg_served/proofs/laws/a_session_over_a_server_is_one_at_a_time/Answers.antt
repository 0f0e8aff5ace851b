use Rattle.pg_served.proofs.Running.{ran-server}
use Rattle.pg_served.proofs.laws.a_session_over_a_server_is_one_at_a_time.Goals as goal

pub returns : goal.returns
returns g c = ran-server
