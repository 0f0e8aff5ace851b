use Rattle.std.proofs.Common.{◌≡◌, ◌+◌, drop, map}
use Rattle.pg_machine.specs.MachineTexts.{nothing_said, said_from}
use Rattle.pg_machine.specs.Readings.{IsNumbered, said_of}
use Rattle.pg_machine.proofs.read.read_lines.Given as goal

abbrev pub invariant-loop-place : goal.invariant-loop-place
invariant-loop-place l = record {
  said : said_from (l.place + 1) (map (λ line. line.now) (drop l.place l.lines)) (said_of l.draft) ≡ said_from 1 (map (λ line. line.now) l.lines) nothing_said;
  numbered : IsNumbered l.draft;
}
