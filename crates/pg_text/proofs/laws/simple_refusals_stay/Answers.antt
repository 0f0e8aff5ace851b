use Rattle.pg_text.proofs.SimpleTexts.{refused-back}
use Rattle.pg_text.proofs.laws.simple_refusals_stay.Goals as goal

pub returns : goal.returns
returns c = refused-back
