use Rattle.pg_text.proofs.ReadLaws.{refused_is_none}
use Rattle.pg_text.proofs.laws.refused_is_none.Goals as goal

pub returns : goal.returns
returns c = refused_is_none
