use Rattle.pg_session.proofs.Played.{turn-keeps-on}
use Rattle.pg_session.proofs.laws.a_turn_keeps_a_session.Goals as goal

pub returns : goal.returns
returns g c speech commands scripts course later asked came turn s t l m over made within k = turn-keeps-on speech scripts course later asked came turn s t l m over commands made within k
