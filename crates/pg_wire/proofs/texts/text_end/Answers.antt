use Rattle.std.proofs.Common.{arith}
use Rattle.pg_wire.proofs.ZeroEnded.{text_ends, text_runs_out}
use Rattle.pg_wire.proofs.texts.text_end.Goals as goal

pub returns-then-b-eq0 : goal.returns-then-b-eq0
returns-then-b-eq0 c = text_ends _ _ c.loop-i-test.true c.if-b-eq0.true c.loop-i.invariant

pub returns : goal.returns
returns c = text_runs_out _ (λ k less. c.loop-i.invariant k (omega arith))
