use Rattle.pg_session.proofs.Order.Holds.{turns_are_in_order}
use Rattle.pg_session.proofs.turn_order.turns_in_order.Goals as goal

pub returns : goal.returns
returns g c speech scripts given s t l m new none plays = turns_are_in_order speech scripts given s t l m new none plays
