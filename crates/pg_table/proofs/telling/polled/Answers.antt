use Rattle.std.proofs.Common.{Err, Ok}
use Rattle.pg_table.proofs.Mapped.{answers-mapped, pauses-mapped}
use Rattle.pg_table.proofs.telling.polled.Goals as goal

pub returns-in-Ready-Ok : goal.returns-in-Ready-Ok
returns-in-Ready-Ok g c =
    rw c.tell.ensures
    (answers-mapped (g.M.Tells.tells c.args.tells) g.D.Desk.becomes c.args.stamp c.args.desk.now (g.S.Polled.place c.args.state.now.value) c.poll.new.desk
    (Ok c.in-Ready-Ok.value) (rw (c.deref_mut.ensures.value, c.in-Ready-Ok.field-0-is) at c.in-Ready-Ok.ensures))

pub returns-in-Ready-Err : goal.returns-in-Ready-Err
returns-in-Ready-Err g c =
    answers-mapped (g.M.Tells.tells c.args.tells) g.D.Desk.becomes c.args.stamp c.args.desk.now (g.S.Polled.place c.args.state.now.value) c.poll.new.desk
    (Err c.in-Ready-Err.error) (rw (c.deref_mut.ensures.value, c.in-Ready-Err.field-0-is) at c.in-Ready-Err.ensures)

pub returns-in-Pending : goal.returns-in-Pending
returns-in-Pending g c = (
  pauses-mapped (g.M.Tells.tells c.args.tells) g.D.Desk.becomes c.args.stamp c.args.desk.now (g.S.Polled.place c.args.state.now.value) c.poll.new.desk
      (g.S.Polled.place c.poll.new.self) (rw c.deref_mut.ensures.value at c.in-Pending.ensures.0),
  c.in-Pending.ensures.1,
)
