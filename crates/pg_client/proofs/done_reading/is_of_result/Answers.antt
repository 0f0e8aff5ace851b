use Rattle.pg_client.proofs.Done.{other-result}
use Rattle.pg_client.proofs.done_reading.is_of_result.Goals as goal

pub returns-in_default : goal.returns-in_default
returns-in_default c =
    let d = c.in_default in
    other-result c.args.message.now d.not-CommandComplete d.not-DataRow d.not-EmptyQueryResponse d.not-RowDescription
