use Rattle.std.proofs.Common.{◌≡◌, drop, map}
use Rattle.pg_machine.specs.MachineTexts.{joined_at}
use Rattle.pg_machine.specs.Readings.{in_front}
use Rattle.pg_machine.proofs.word.joined.Given as goal

abbrev pub invariant-loop-word : goal.invariant-loop-word
invariant-loop-word l = in_front l.joined.items (joined_at (map (λ word. word.now) (drop l.word-index l.words))) ≡ joined_at (map (λ word. word.now) l.words)
