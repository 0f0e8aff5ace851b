use Rattle.std.proofs.Common.{[]}
use Rattle.pg_query_laws.specs.Kept.{IsNoClear, IsOwn}
use Rattle.pg_query_laws.proofs.Meeting.{all-asked}
use Rattle.pg_query_laws.proofs.kept_laws.all_that_is_kept.Goals as goal

pub returns-clause-own : goal.returns-clause-own
returns-clause-own g c = λ d h met. all-asked IsOwn d h met []

pub returns-clause-clears_nothing : goal.returns-clause-clears_nothing
returns-clause-clears_nothing g c = λ d h met. all-asked IsNoClear d h met []
