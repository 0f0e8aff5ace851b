use Rattle.std.proofs.Common.{suc}
use Rattle.pg_drive.specs.Tasks.{shared}
use Rattle.pg_drive.proofs.line.Line.run.Goals as goal

pub returns-in-Ready-clause-run : goal.returns-in-Ready-clause-run
returns-in-Ready-clause-run g c = record {
  count = c.rounds.invariant.count;
  last = shared g.L.Link.view c.rounds.self c.rounds.tasks;
  rounds = c.rounds.invariant.rounds;
  ends = c.in-Ready.ensures.round;
}

pub rounds-preserved : goal.rounds-preserved
rounds-preserved g c = record {
  count = suc c.rounds.invariant.count;
  rounds = (shared g.L.Link.view c.rounds.self c.rounds.tasks, c.rounds.invariant.rounds, c.in-Pending.ensures.round);
  live = c.round.ensures.live;
}
