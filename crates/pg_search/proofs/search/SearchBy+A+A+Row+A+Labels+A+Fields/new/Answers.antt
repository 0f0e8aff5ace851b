use Rattle.std.proofs.Common.{refl}
use Rattle.pg_search.proofs.search.SearchBy+A+A+Row+A+Labels+A+Fields.new.Goals as goal

pub returns-clause-dialogue : goal.returns-clause-dialogue
returns-clause-dialogue g c = refl

pub returns-clause-steps : goal.returns-clause-steps
returns-clause-steps g c = refl
