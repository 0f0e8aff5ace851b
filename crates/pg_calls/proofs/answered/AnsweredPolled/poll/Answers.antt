use Rattle.std.proofs.Common.{Err}
use Rattle.pg_query.proofs.Made.{answers-made, pauses-made, told-or-lacks}
use Rattle.pg_calls.proofs.answered.AnsweredPolled.poll.Goals as goal

pub returns-in-Ready-Ok : goal.returns-in-Ready-Ok
returns-in-Ready-Ok g c =
    told-or-lacks (g.M.Make.makes c.args.self.now.make) g.D.Desk.becomes c.args.stamp c.args.desk.now (g.S.Polled.place c.args.self.now.state) c.poll.new.desk
    c.in-Ready-Ok.value c.make.result c.make.ensures (rw c.in-Ready-Ok.field-0-is at c.in-Ready-Ok.ensures)

pub returns-in-Ready-Err : goal.returns-in-Ready-Err
returns-in-Ready-Err g c =
    answers-made (g.M.Make.makes c.args.self.now.make) g.D.Desk.becomes c.args.stamp c.args.desk.now (g.S.Polled.place c.args.self.now.state) c.poll.new.desk
    (Err c.in-Ready-Err.error) (rw c.in-Ready-Err.field-0-is at c.in-Ready-Err.ensures)

pub returns-in-Pending : goal.returns-in-Pending
returns-in-Pending g c = (
  pauses-made (g.M.Make.makes c.args.self.now.make) g.D.Desk.becomes c.args.stamp c.args.desk.now (g.S.Polled.place c.args.self.now.state) c.poll.new.desk
      (g.S.Polled.place c.poll.new.self) c.in-Pending.ensures.0,
  c.in-Pending.ensures.1,
)
