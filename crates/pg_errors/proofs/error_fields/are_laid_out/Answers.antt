use Rattle.std.proofs.Common.{◌∙◌}
use Rattle.pg_errors.proofs.FieldLemmas.{laid-out-more}
use Rattle.pg_errors.proofs.error_fields.are_laid_out.Goals as goal

pub loop-preserved : goal.loop-preserved
loop-preserved c = c.loop.invariant ∙ laid-out-more c.loop.fields c.in-Ok-Some.field-0-0 c.next.new.self (rw c.in-Ok-Some.field-0-is at c.in-Ok-Some.ensures.step)
