use Rattle.pg_drive.proofs.Lasting.{lives-of}
use Rattle.pg_drive.proofs.laws.life_of_a_running.Goals as goal

pub returns : goal.returns
returns g c s t events run = lives-of g.S.Polled.place s t events run
