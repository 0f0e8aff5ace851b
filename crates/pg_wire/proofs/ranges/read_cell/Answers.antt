use Rattle.std.proofs.Common.{rules}
use Rattle.pg_wire.proofs.Cells.{null_cell, some_cell}
use Rattle.pg_wire.proofs.ranges.read_cell.Goals as goal

pub returns-then-len-lt0 : goal.returns-then-len-lt0
returns-then-len-lt0 c = null_cell _ _ _ _ (search rules) c.in-Ok.ensures.value c.in-Ok.ensures.rest c.requires c.if-len-lt0.true

pub returns : goal.returns
returns c = some_cell _ _ _ _ (search rules) c.in-Ok.ensures.value c.in-Ok.ensures.rest c.requires c.if-len-lt0.false c.if-rest-len.false
