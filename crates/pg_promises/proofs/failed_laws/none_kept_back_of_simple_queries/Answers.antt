use Rattle.pg_promises.proofs.Kept.{kept}
use Rattle.pg_promises.proofs.failed_laws.none_kept_back_of_simple_queries.Goals as goal

pub returns : goal.returns
returns g c meaning are call result h = kept meaning are call result h
