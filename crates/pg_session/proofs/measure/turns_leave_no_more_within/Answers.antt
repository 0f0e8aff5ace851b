use Rattle.pg_session.proofs.Nearer.{turns-within-bound}
use Rattle.pg_session.proofs.measure.turns_leave_no_more_within.Goals as goal

pub returns-clause-goes_on : goal.returns-clause-goes_on
returns-clause-goes_on g c speech bound scripts turns s l t m may made h within = (turns-within-bound speech bound may scripts turns s l t m made h within).under_way

pub returns-clause-nearer : goal.returns-clause-nearer
returns-clause-nearer g c speech bound scripts turns s l t m may made h within = (turns-within-bound speech bound may scripts turns s l t m made h within).nearer
