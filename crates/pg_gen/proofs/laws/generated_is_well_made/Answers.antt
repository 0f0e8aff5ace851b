use Rattle.pg_gen.proofs.WellMade.{requests, well_made}
use Rattle.pg_gen.proofs.laws.generated_is_well_made.Goals as goal

pub returns-clause-requests : goal.returns-clause-requests
returns-clause-requests c = requests

pub returns-clause-well_made : goal.returns-clause-well_made
returns-clause-well_made c = well_made
