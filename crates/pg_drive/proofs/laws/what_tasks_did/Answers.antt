use Rattle.pg_drive.proofs.Doing.{runs-done}
use Rattle.pg_drive.proofs.laws.what_tasks_did.Goals as goal

pub returns : goal.returns
returns g c s t r runs = runs-done g.E.Desk.becomes g.met.E.Desk.stays g.met.E.Desk.joins g.T.Task.done g.T.Task.turns s t r runs
