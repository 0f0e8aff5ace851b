use Rattle.pg_scram.proofs.SpellingLaws.{accepted}
use Rattle.pg_scram.proofs.laws.verdict_is_spelled.Goals as goal

pub returns : goal.returns
returns c = accepted
