use Rattle.std.proofs.Common.{◌≡◌, fold, drop}
use Rattle.pg_gen.specs.Counting.{with_script}
use Rattle.pg_gen.proofs.counts.Counts.of.Given as goal

abbrev pub invariant-loop-script : goal.invariant-loop-script
invariant-loop-script l = fold with_script l.counts (drop l.script-index l.scripts) ≡ fold with_script l.initial.counts l.scripts
