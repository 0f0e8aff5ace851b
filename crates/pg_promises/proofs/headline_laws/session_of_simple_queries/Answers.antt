use Rattle.pg_promises.proofs.Landed.{ended-well}
use Rattle.pg_promises.proofs.headline_laws.session_of_simple_queries.Goals as goal

pub returns : goal.returns
returns g c meaning are s taken ended = ended-well meaning are s taken ended
