use Rattle.pg_text.proofs.ReadLaws.{one_session}
use Rattle.pg_text.proofs.laws.one_session.Goals as goal

pub returns : goal.returns
returns c = one_session
