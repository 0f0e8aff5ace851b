use Rattle.std.proofs.Common.{◌++◌, [], ◌∷◌}
use Rattle.pg_spec.specs.Bodies.{cell_at as read_cell, cells_of}
use Rattle.pg_wire.specs.Steps.{ReadsCell, cell_in, cells_left}
use Rattle.pg_wire.proofs.Items.{one_more_item}
use Rattle.pg_rows.specs.Rows.{Cells}
use Rattle.pg_rows.proofs.cells.walk.Goals as goal

pub loop-fault-preserved : goal.loop-fault-preserved
loop-fault-preserved c =
    let old = c.loop-fault.ranges in
    let new = c.next.new.self in
    let range = c.in-Ok-Some.field-0-0 in
    let read : Cells = c.loop-fault.invariant.0 in
    let step : ReadsCell old new range = rw c.in-Ok-Some.field-0-is at c.in-Ok-Some.ensures.step in (
      read ++ cell_in old.buffer range ∷ [],
      one_more_item read_cell (cells_of c.args.body.now.count c.args.body.now.cells) read (cells_left old) (cells_left new) (cell_in old.buffer range)
          c.loop-fault.invariant.1 step.step,
    )
