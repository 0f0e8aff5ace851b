use Rattle.pg_drive.proofs.Lasting.{answers-turn, waits-turn}
use Rattle.pg_drive.proofs.task.RunningTask.turn.Goals as goal

pub returns-in-Pending-clause-turn : goal.returns-in-Pending-clause-turn
returns-in-Pending-clause-turn g c =
    rw c.in-Polled.is (waits-turn g.S.Polled.place g.D.Desk.becomes c.in-Polled.stamp c.args.desk.now c.in-Polled.state c.poll.new.desk c.poll.new.self c.in-Pending.ensures.0)

pub returns-in-Ready-clause-turn : goal.returns-in-Ready-clause-turn
returns-in-Ready-clause-turn g c =
    rw c.in-Polled.is (answers-turn g.S.Polled.place g.D.Desk.becomes c.in-Polled.stamp c.args.desk.now c.in-Polled.state c.poll.new.desk c.in-Ready.answer c.in-Ready.ensures)
