use Rattle.pg_client.specs.Simple.{state_of}
use Rattle.pg_client.proofs.Telling.{other-message}
use Rattle.pg_client.proofs.simple_reading.SimpleReading.see.Goals as goal

pub returns-in_default-clause-seen : goal.returns-in_default-clause-seen
returns-in_default-clause-seen c =
    let d = c.in_default in
    other-message (state_of c.args.self.now) c.args.message.now d.not-CommandComplete d.not-DataRow d.not-EmptyQueryResponse d.not-ErrorResponse d.not-ReadyForQuery d.not-RowDescription
