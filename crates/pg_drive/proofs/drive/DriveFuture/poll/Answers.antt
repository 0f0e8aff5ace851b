use Rattle.pg_drive.specs.Lines.{seen}
use Rattle.pg_drive.proofs.Stepping.{gives_now, gives_later}
use Rattle.pg_drive.proofs.drive.DriveFuture.poll.Goals as goal

pub returns-in-Ready-clause-value : goal.returns-in-Ready-clause-value
returns-in-Ready-clause-value g c =
    let view = g.L.Link.view in
    gives_now g.S.Polled.place g.E.Desk.becomes c.args.self.now.stamp c.args.self.now.state c.step.new.self.state
    (seen view c.args.self.now.line) (seen view c.step.new.self.line) c.in-Ready.answer c.in-Ready.ensures.polls

pub returns-in-Pending-clause-same : goal.returns-in-Pending-clause-same
returns-in-Pending-clause-same g c =
    let view = g.L.Link.view in
    rw c.yield_now.ensures.pending (λ r more.
    gives_later g.S.Polled.place g.E.Desk.becomes c.args.self.now.stamp c.args.self.now.state c.step.new.self.state
    (seen view c.args.self.now.line) (seen view c.step.new.self.line) c.step.new.self.stamp r c.in-Pending.ensures.stamp c.in-Pending.ensures.polls more)
