use Rattle.pg_server.proofs.FaultLaws.{comes-behind}
use Rattle.pg_server.proofs.laws.a_fault_comes_behind_what_was_said.Goals as goal

pub returns : goal.returns
returns g c step state startup bytes rest fault starts is = comes-behind step state startup bytes rest fault starts is
