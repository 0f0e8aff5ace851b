use Rattle.pg_drive.proofs.Living.{life-of}
use Rattle.pg_drive.proofs.laws.life_of_an_ask.Goals as goal

pub returns : goal.returns
returns g c stamp s left r asked =
    life-of g.E.Desk.becomes g.met.E.Desk.joins stamp s r (record { stands = asked.stands; last = asked.last; drives = asked.drives; left = left; ends = asked.ends })
