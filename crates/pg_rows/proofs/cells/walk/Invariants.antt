use Rattle.pg_spec.specs.Bodies.{cell_at as read_cell, cells_of}
use Rattle.pg_wire.specs.Steps.{cells_left}
use Rattle.pg_wire.proofs.Items.{AreItems}
use Rattle.pg_rows.specs.Rows.{Cells}
use Rattle.pg_rows.proofs.cells.walk.Given as goal

-- these cells were walked over, and the others are left
abbrev pub invariant-loop-fault : goal.invariant-loop-fault
invariant-loop-fault l = (read : Cells) × AreItems read_cell (cells_of l.body.count l.body.cells) read (cells_left l.ranges)

abbrev pub decreases-loop-fault : goal.decreases-loop-fault
decreases-loop-fault l = l.ranges.count
