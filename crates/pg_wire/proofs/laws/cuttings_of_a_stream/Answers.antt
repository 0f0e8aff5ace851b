use Rattle.pg_wire.proofs.Cuttings.{gave_all_but, gave_all, tells_its_end}
use Rattle.pg_wire.proofs.laws.cuttings_of_a_stream.Goals as goal

pub returns : goal.returns
returns c = record { joined = gave_all_but; all = gave_all; complete = tells_its_end }
