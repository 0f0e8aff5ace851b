use Rattle.std.proofs.Common.{Err}
use Rattle.pg_query.specs.Messages.{Means}
use Rattle.pg_execute.specs.Typed.{head_message}
use Rattle.pg_execute.proofs.Malformed.{told-malformed}
use Rattle.pg_execute.proofs.head_reading.HeadReadingReading.message.Goals as goal

pub returns-in-Some-clause-reads : goal.returns-in-Some-clause-reads
returns-in-Some-clause-reads c raw means =
    let malformed : Means raw (Err c.in-Err.fault) = rw c.in-Err.is at means in
    told-malformed (λ (u : Unit {0}) m. head_message m) tt raw c.in-Err.fault c.in-Some.error malformed c.in-Some.ensures
