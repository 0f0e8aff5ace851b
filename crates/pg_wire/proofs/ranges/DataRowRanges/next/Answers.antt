use Rattle.std.proofs.Common.{refl}
use Rattle.pg_spec.specs.Faults.{Layout}
use Rattle.pg_wire.proofs.Cells.{cells_go_on}
use Rattle.pg_wire.proofs.ranges.DataRowRanges.next.Goals as goal

pub returns-then-self-eq0-clause-step : goal.returns-then-self-eq0-clause-step
returns-then-self-eq0-clause-step c = (Layout, refl, cells_go_on _ _ _ _ c.self.view_is c.self.invariant c.if-self-eq0.true c.if-self.false, refl)
