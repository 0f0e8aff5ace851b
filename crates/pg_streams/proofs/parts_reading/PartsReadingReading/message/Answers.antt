use Rattle.std.proofs.Common.{Ok, Err}
use Rattle.pg_query.specs.Messages.{Means}
use Rattle.pg_wire.specs.Faults.{wire_fault}
use Rattle.pg_wire.specs.Messages.{message_view}
use Rattle.pg_streams.proofs.Collected.{collected, malformed-collected}
use Rattle.pg_streams.proofs.parts_reading.PartsReadingReading.message.Goals as goal

pub returns-in-Some-clause-reads : goal.returns-in-Some-clause-reads
returns-in-Some-clause-reads c raw means =
    let malformed : Means raw (Err c.in-Err.fault) = rw c.in-Err.is at means in
    malformed-collected c.args.self.now raw (wire_fault c.in-Err.fault) c.in-Some.error malformed c.in-Some.ensures

pub returns-clause-reads : goal.returns-clause-reads
returns-clause-reads c raw means =
    let meant : Means raw (Ok c.in-Ok.message) = rw c.in-Ok.is at means in
    collected c.args.self.now c.collect.new.self c.see_lent.new.self raw (message_view c.in-Ok.message) meant c.in_ok-told.told c.collect.result c.in_ok-told.ensures c.collect.ensures.giving
    c.collect.ensures.collects
