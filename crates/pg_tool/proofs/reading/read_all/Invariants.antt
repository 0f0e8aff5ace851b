use Rattle.std.proofs.Common.{◌≡◌, ◌++◌, ◌-◌, ◌+◌, ◌≤◌, vec_len}
use Rattle.std.specs.Prelude.{option_map}
use Rattle.pg_tool.specs.Reading.{longest_text}
use Rattle.pg_tool.proofs.reading.read_all.Given as goal

abbrev pub invariant-loop-piece : goal.invariant-loop-piece
invariant-loop-piece g l = record {
  left : (g.S.Source.state l.initial.source).left ≡ option_map (λ left. l.text.items ++ left) (g.S.Source.state l.source).left;
  faults : (g.S.Source.state l.initial.source).faults ≤ (g.S.Source.state l.source).faults;
}

abbrev pub decreases-loop-piece : goal.decreases-loop-piece
decreases-loop-piece g l = (longest_text + 1) - vec_len l.text
