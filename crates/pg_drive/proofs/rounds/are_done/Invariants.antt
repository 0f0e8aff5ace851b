use Rattle.std.proofs.Common.{take}
use Rattle.pg_drive.specs.Tasks.{AreDone}
use Rattle.pg_drive.proofs.rounds.are_done.Given as goal

abbrev pub invariant-tasks : goal.invariant-tasks
invariant-tasks g l = AreDone g.T.Task.done (take l.task-index l.tasks)
