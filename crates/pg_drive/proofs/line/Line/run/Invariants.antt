use Rattle.std.proofs.Common.{ℕ}
use Rattle.std.specs.List.{All}
use Rattle.pg_drive.specs.Tasks.{Rounds, shared}
use Rattle.pg_drive.proofs.line.Line.run.Given as goal

-- so far some rounds went on
abbrev pub invariant-rounds : goal.invariant-rounds
invariant-rounds g l = record {
  count : ℕ;
  rounds : Rounds g.E.Desk.becomes g.T.Task.done g.T.Task.turns count (shared g.L.Link.view l.initial.self l.initial.tasks) (shared g.L.Link.view l.self l.tasks);
  live : All g.T.Task.is_live l.tasks;
}
