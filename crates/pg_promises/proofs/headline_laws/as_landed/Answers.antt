use Rattle.pg_promises.proofs.Landed.{as-landed}
use Rattle.pg_promises.proofs.headline_laws.as_landed.Goals as goal

pub returns : goal.returns
returns g c s asked handle place text wanted times answer h = as-landed s asked handle place text wanted times answer h
