use Rattle.std.proofs.Common.{false}
use Rattle.pg_session.proofs.Nearer.{nearer-so, turns-nearer}
use Rattle.pg_session.proofs.measure.turns_leave_no_more.Goals as goal

pub returns-clause-goes_on : goal.returns-clause-goes_on
returns-clause-goes_on g c speech scripts turns s l t m none made h within = (turns-nearer speech none scripts turns s l t m made h within).under_way

pub returns-clause-nearer : goal.returns-clause-nearer
returns-clause-nearer g c speech scripts turns s l t m none made h within = nearer-so scripts false s t (turns-nearer speech none scripts turns s l t m made h within).falls
