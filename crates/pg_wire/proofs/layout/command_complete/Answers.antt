use Rattle.pg_wire.proofs.ZeroEnded.{text_goes_on}
use Rattle.pg_wire.proofs.layout.command_complete.Goals as goal

pub returns-then-end-len : goal.returns-then-end-len
returns-then-end-len c = text_goes_on _ _ _ _ _ c.as_slice.ensures c.in-Some.ensures c.len.ensures.value c.if-end-len.true
