use Rattle.pg_wire.proofs.ZeroEnded.{pair_goes_on, pair_ends}
use Rattle.pg_wire.proofs.texts.pair_end.Goals as goal

pub returns-then-end-second : goal.returns-then-end-second
returns-then-end-second c = pair_goes_on _ _ _ c.in-Some.ensures c.in-Some-text_end.ensures c.if-end-second.true

pub returns : goal.returns
returns c = pair_ends _ _ _ c.in-Some.ensures c.in-Some-text_end.ensures c.if-end-second.false
