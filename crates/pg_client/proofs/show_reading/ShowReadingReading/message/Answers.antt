use Rattle.std.proofs.Common.{Err}
use Rattle.pg_query.specs.Messages.{Means}
use Rattle.pg_client.proofs.ChecksTelling.{shown-malformed}
use Rattle.pg_client.proofs.show_reading.ShowReadingReading.message.Goals as goal

pub returns-in-Some-clause-reads : goal.returns-in-Some-clause-reads
returns-in-Some-clause-reads c raw means =
    let malformed : Means raw (Err c.in-Err.fault) = rw c.in-Err.is at means in
    shown-malformed c.args.self.now.attrs c.args.self.now.columns raw c.in-Err.fault c.in-Some.error malformed c.in-Some.ensures
