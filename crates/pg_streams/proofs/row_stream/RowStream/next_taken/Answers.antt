use Rattle.std.proofs.Common.{inl, inr}
use Rattle.pg_streams.proofs.row_stream.RowStream.next_taken.Goals as goal

pub returns-in-Ok-Item-clause-gives : goal.returns-in-Ok-Item-clause-gives
returns-in-Ok-Item-clause-gives c = rw c.in-Ok-Item.field-0-is at c.in-Ok-Item.ensures.tells

pub returns-in-Ok-Ends-clause-gives : goal.returns-in-Ok-Ends-clause-gives
returns-in-Ok-Ends-clause-gives c = rw c.in-Ok-Ends.field-0-is at c.in-Ok-Ends.ensures.tells

pub returns-in-Ok-Fails-clause-gives : goal.returns-in-Ok-Fails-clause-gives
returns-in-Ok-Fails-clause-gives c = inl (rw c.in-Ok-Fails.field-0-is at c.in-Ok-Fails.ensures.tells)

pub returns-in-Err-clause-gives : goal.returns-in-Err-clause-gives
returns-in-Err-clause-gives c = inr c.in-Err.ensures.tells
