use Rattle.pg_drive.proofs.Ending.{closed-shut}
use Rattle.pg_drive.proofs.laws.how_a_line_is_closed.Goals as goal

pub returns : goal.returns
returns g c a b closes = closed-shut g.E.Desk.becomes a b closes
