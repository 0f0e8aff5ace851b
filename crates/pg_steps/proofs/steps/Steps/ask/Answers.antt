use Rattle.std.proofs.Common.{◌+◌, length, arith}
use Rattle.pg_steps.proofs.steps.Steps.ask.Goals as goal

pub returns-in-Err-clause-falls : goal.returns-in-Err-clause-falls
returns-in-Err-clause-falls c = c.fail.ensures.falls (length c.args.self.now.plan.now + 2) (omega arith)
