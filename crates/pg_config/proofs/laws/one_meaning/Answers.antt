use Rattle.pg_config.proofs.OneMeaning.{meaning_one, meaning_some}
use Rattle.pg_config.proofs.laws.one_meaning.Goals as goal

pub returns-clause-some : goal.returns-clause-some
returns-clause-some c = meaning_some

pub returns-clause-one : goal.returns-clause-one
returns-clause-one c = meaning_one
