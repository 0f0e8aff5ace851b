use Rattle.pg_core.proofs.Opened.{opened-so}
use Rattle.pg_core.proofs.laws.its_copy_is_open_at_the_desk.Goals as goal

pub returns : goal.returns
returns g c d trail s p h waits = opened-so s p.dialogue p.reads h.fits waits
