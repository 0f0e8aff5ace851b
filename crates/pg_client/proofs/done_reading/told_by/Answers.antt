use Rattle.pg_client.proofs.Done.{other-told}
use Rattle.pg_client.proofs.done_reading.told_by.Goals as goal

pub returns-in_default : goal.returns-in_default
returns-in_default c = other-told c.args.message.now c.in_default.not-ErrorResponse c.in_default.not-ReadyForQuery
