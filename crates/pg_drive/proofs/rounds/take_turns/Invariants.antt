use Rattle.std.proofs.Common.{◌≡◌, length}
use Rattle.std.specs.List.{All}
use Rattle.pg_drive.specs.Tasks.{TakeTurns}
use Rattle.pg_drive.proofs.rounds.take_turns.Given as goal

abbrev pub invariant-turns : goal.invariant-turns
invariant-turns g l = record {
  turns : TakeTurns g.D.Desk.becomes g.T.Task.done g.T.Task.turns l.place l.initial.desk l.initial.tasks l.moved l.desk l.tasks;
  live : All g.T.Task.is_live l.tasks;
  count : length l.tasks ≡ length l.initial.tasks;
}
