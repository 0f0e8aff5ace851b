use Rattle.pg_drive.proofs.Living.{life-of}
use Rattle.pg_drive.proofs.laws.life_of_a_drive.Goals as goal

pub returns : goal.returns
returns g c stamp s r gives = life-of g.E.Desk.becomes g.met.E.Desk.joins stamp s r gives
