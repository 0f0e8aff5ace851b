use Rattle.std.proofs.Common.{ℕ}
use Rattle.pg_drive.specs.Lines.{seen}
use Rattle.pg_drive.specs.Closings.{GoesOnBy}
use Rattle.pg_drive.proofs.line.Line.run_out.Given as goal

-- so far some steps went on
abbrev pub invariant-steps : goal.invariant-steps
invariant-steps g l = record {
  count : ℕ;
  goes : GoesOnBy g.E.Desk.becomes count (seen g.L.Link.view l.initial.self) (seen g.L.Link.view l.self);
}
