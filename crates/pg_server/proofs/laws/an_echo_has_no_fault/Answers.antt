use Rattle.pg_server.proofs.EchoCalmLaws.{session-calm}
use Rattle.pg_server.proofs.laws.an_echo_has_no_fault.Goals as goal

pub returns : goal.returns
returns c pairs startup frame frames named written all = session-calm pairs startup frame frames named written all
