use Rattle.pg_promises.proofs.NoFlush.{answers}
use Rattle.pg_promises.proofs.SentOrder.{sent}
use Rattle.std.specs.List.{concat}
use Rattle.pg_promises.proofs.failed_laws.plans_of_simple_queries.Goals as goal

pub returns : goal.returns
returns g c meaning are call s plan frames all taken h =
    let a = all taken (sent meaning are call s (concat plan.entries) taken h) in answers plan frames taken a.0 a.1
