use Rattle.pg_session.proofs.Nearer.{turns-leave}
use Rattle.pg_session.proofs.measure.turns_leave_no_more_parts.Goals as goal

pub returns : goal.returns
returns g c speech bound scripts parts turns s l t m may made h within = turns-leave speech bound may scripts parts turns s l t m made h within
