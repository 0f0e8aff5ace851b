use Rattle.pg_scram.proofs.SpellingLaws.{read}
use Rattle.pg_scram.proofs.laws.challenge_is_spelled.Goals as goal

pub returns : goal.returns
returns c = read
