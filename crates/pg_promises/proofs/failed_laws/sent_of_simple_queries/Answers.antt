use Rattle.pg_promises.proofs.SentOrder.{sent}
use Rattle.pg_promises.proofs.failed_laws.sent_of_simple_queries.Goals as goal

pub returns : goal.returns
returns g c meaning are call s given taken h = sent meaning are call s given taken h
