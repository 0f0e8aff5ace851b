use Rattle.std.proofs.Common.{◌≡◌, fold, drop}
use Rattle.pg_gen.specs.Counting.{with_answer}
use Rattle.pg_gen.proofs.counts.Counts.with_script.Given as goal

abbrev pub invariant-loop-answer : goal.invariant-loop-answer
invariant-loop-answer l = fold with_answer l.counts (drop l.answer-index l.answers) ≡ fold with_answer l.initial.counts l.answers
