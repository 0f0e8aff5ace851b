use Rattle.pg_session.proofs.Played.{new-kept}
use Rattle.pg_session.proofs.laws.a_new_session_is_kept.Goals as goal

pub returns : goal.returns
returns g c speech scripts course s new active none = new-kept speech scripts course s new active none
