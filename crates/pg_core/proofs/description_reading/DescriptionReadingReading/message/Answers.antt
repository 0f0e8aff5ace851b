use Rattle.std.proofs.Common.{Ok, Err}
use Rattle.pg_wire.specs.Messages.{message_view}
use Rattle.pg_query.specs.Messages.{Means}
use Rattle.pg_core.proofs.Telling.{description-malformed, description-reads}
use Rattle.pg_core.proofs.description_reading.DescriptionReadingReading.message.Goals as goal

pub returns-in-Ok-clause-reads : goal.returns-in-Ok-clause-reads
returns-in-Ok-clause-reads c raw means =
    let meant : Means raw (Ok c.in-Ok.message) = rw c.in-Ok.is at means in
    description-reads c.see.result c.args.self.now c.see.new.self raw (message_view c.in-Ok.message) meant c.see.ensures

pub returns-in-Some-clause-reads : goal.returns-in-Some-clause-reads
returns-in-Some-clause-reads c raw means =
    let malformed : Means raw (Err c.in-Err.fault) = rw c.in-Err.is at means in
    description-malformed c.args.self.now c.args.self.now raw c.in-Err.fault c.in-Some.error malformed c.in-Some.ensures
