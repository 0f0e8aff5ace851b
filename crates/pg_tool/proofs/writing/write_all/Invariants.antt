use Rattle.std.proofs.Common.{◌-◌, ◌≤◌, length, take}
use Rattle.pg_spec.specs.Links.{Grew}
use Rattle.pg_tool.proofs.writing.write_all.Given as goal

abbrev pub invariant-loop-at : goal.invariant-loop-at
invariant-loop-at g l = record {
  within : l.at ≤ length l.text;
  written : Grew (g.K.Sink.state l.initial.sink).written (g.K.Sink.state l.sink).written (take l.at l.text);
  faults : (g.K.Sink.state l.initial.sink).faults ≤ (g.K.Sink.state l.sink).faults;
}

abbrev pub decreases-loop-at : goal.decreases-loop-at
decreases-loop-at g l = length l.text - l.at
