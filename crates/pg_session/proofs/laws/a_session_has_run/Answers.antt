use Rattle.pg_session.proofs.Ran.{session-has-run}
use Rattle.pg_session.proofs.laws.a_session_has_run.Goals as goal

pub returns : goal.returns
returns g c speech commands scripts given s l t m new active none plays later front small = session-has-run speech commands scripts given s l t m new active none plays later front small
