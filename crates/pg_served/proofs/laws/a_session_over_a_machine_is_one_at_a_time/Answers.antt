use Rattle.pg_served.proofs.Running.{ran-machine}
use Rattle.pg_served.proofs.laws.a_session_over_a_machine_is_one_at_a_time.Goals as goal

pub returns : goal.returns
returns g = ran-machine
