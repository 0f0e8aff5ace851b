use Rattle.pg_tool.proofs.WellMade.{made_simply}
use Rattle.pg_tool.proofs.laws.simple_texts_are_well_made.Goals as goal

pub returns : goal.returns
returns c text made = made_simply text made
