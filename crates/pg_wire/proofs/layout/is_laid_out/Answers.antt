use Rattle.pg_wire.proofs.Asides.{keeps_notice, keeps_setting, keeps_notified}
use Rattle.pg_wire.proofs.layout.is_laid_out.Goals as goal

pub returns-then-tag-eq78 : goal.returns-then-tag-eq78
returns-then-tag-eq78 c = keeps_notice _ _ c.if-tag-eq78.true

pub returns-then-tag-eq83 : goal.returns-then-tag-eq83
returns-then-tag-eq83 c = keeps_setting _ _ _ _ c.if-tag-eq83.true c.pair_end.ensures c.is_some.ensures

pub returns : goal.returns
returns c =
    keeps_notified _ _ _ _ c.requires c.if-tag-eq78.false c.if-tag-eq83.false c.if-body-lt4.false c.pair_end-2.ensures c.is_some-2.ensures
