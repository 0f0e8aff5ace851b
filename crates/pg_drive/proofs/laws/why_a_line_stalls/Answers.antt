use Rattle.pg_drive.proofs.Stalling.{why-line-stalled}
use Rattle.pg_drive.proofs.laws.why_a_line_stalls.Goals as goal

pub returns : goal.returns
returns g c s t from to new runs = why-line-stalled g.E.Desk.becomes g.T.Task.done g.T.Task.turns s t from to new runs
