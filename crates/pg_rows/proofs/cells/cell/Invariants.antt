use Rattle.std.proofs.Common.{◌≡◌, Ok, drop}
use Rattle.pg_spec.specs.Bodies.{cells_of}
use Rattle.pg_rows.specs.Rows.{cell_at, cells_read}
use Rattle.pg_rows.proofs.cells.cell.Given as goal

-- the cell is one of those that are left
abbrev pub invariant-loop-range : goal.invariant-loop-range
invariant-loop-range l = record {
  buffer : l.ranges.buffer ≡ l.body.cells;
  readable : cells_of l.ranges.count (drop l.ranges.at l.ranges.buffer) ≡ Ok (cells_read (cells_of l.ranges.count (drop l.ranges.at l.ranges.buffer)));
  same : cell_at (cells_read (cells_of l.body.count l.body.cells)) l.place ≡ cell_at (cells_read (cells_of l.ranges.count (drop l.ranges.at l.ranges.buffer))) l.before;
}

abbrev pub decreases-loop-range : goal.decreases-loop-range
decreases-loop-range l = l.ranges.count
