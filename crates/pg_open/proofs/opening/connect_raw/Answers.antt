use Rattle.std.proofs.Common.{refl}
use Rattle.pg_open.proofs.opening.connect_raw.Goals as goal

pub returns-clause-open : goal.returns-clause-open
returns-clause-open g c = (c.args.link, c.args.tls, (refl, refl))
