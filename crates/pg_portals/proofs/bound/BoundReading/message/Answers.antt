use Rattle.std.proofs.Common.{Err}
use Rattle.pg_query.specs.Messages.{Means}
use Rattle.pg_portals.proofs.Telling.{bound-malformed}
use Rattle.pg_portals.proofs.bound.BoundReading.message.Goals as goal

pub returns-in-Some-clause-reads : goal.returns-in-Some-clause-reads
returns-in-Some-clause-reads c raw means =
    let malformed : Means raw (Err c.in-Err.fault) = rw c.in-Err.is at means in
    bound-malformed c.args.self.now raw c.in-Err.fault c.in-Some.error malformed c.in-Some.ensures
