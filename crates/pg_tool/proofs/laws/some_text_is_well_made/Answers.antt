use Rattle.pg_tool.proofs.WellMade.{well_made}
use Rattle.pg_tool.proofs.laws.some_text_is_well_made.Goals as goal

pub returns : goal.returns
returns c = well_made
