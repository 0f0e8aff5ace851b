use Rattle.pg_streams.proofs.Takes.{gone-stops, over-stops, refused-stops}
use Rattle.pg_streams.proofs.taking.take_batch.Goals as goal

pub returns-in-Ok-Batch-clause-comes : goal.returns-in-Ok-Batch-clause-comes
returns-in-Ok-Batch-clause-comes g c = rw c.in-Ok-Batch.field-0-is at c.in-Ok-Batch.ensures.event

pub returns-in-Ok-Empty-clause-comes : goal.returns-in-Ok-Empty-clause-comes
returns-in-Ok-Empty-clause-comes g c = rw c.in-Ok-Empty.field-0-is at c.in-Ok-Empty.ensures.event

pub returns-in-Ok-Over-clause-comes : goal.returns-in-Ok-Over-clause-comes
returns-in-Ok-Over-clause-comes g c = over-stops c.args.id (rw c.in-Ok-Over.field-0-is at c.in-Ok-Over.ensures.event)

pub returns-in-Ok-Gone-clause-comes : goal.returns-in-Ok-Gone-clause-comes
returns-in-Ok-Gone-clause-comes g c = gone-stops g.met.D.Desk.joins c.args.id c.leave.result (rw c.in-Ok-Gone.field-0-is at c.in-Ok-Gone.ensures.event) c.leave.ensures.leaves

pub returns-in-Err-clause-comes : goal.returns-in-Err-clause-comes
returns-in-Err-clause-comes g c = refused-stops c.args.id c.in-Err.fault c.error_of.result c.in-Err.ensures.event c.error_of.ensures
