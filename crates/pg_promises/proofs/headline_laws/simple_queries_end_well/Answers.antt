use Rattle.pg_promises.proofs.LandedBack.{ended-well-back}
use Rattle.pg_promises.proofs.headline_laws.simple_queries_end_well.Goals as goal

pub returns : goal.returns
returns g c meaning are s taken ended = ended-well-back meaning are s taken ended
