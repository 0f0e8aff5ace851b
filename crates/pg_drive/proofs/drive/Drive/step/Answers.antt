use Rattle.std.proofs.Common.{ap}
use Rattle.pg_drive.specs.Lines.{seen}
use Rattle.pg_drive.proofs.Stepping.{breaks, seen_over}
use Rattle.pg_drive.proofs.drive.Drive.step.Goals as goal

pub returns-in-Err-clause-polls : goal.returns-in-Err-clause-polls
returns-in-Err-clause-polls g c =
    let view = g.L.Link.view in
    let h = c.hang_up.ensures in
    breaks g.S.Polled.place g.E.Desk.becomes c.args.self.now.stamp c.args.self.now.state c.in-Some.state c.poll.new.self
    (seen view c.args.self.now.line) (seen view c.step.new.self) (seen view c.hang_up.new.self.line) c.hang_up.new.self.state c.poll.new.desk c.in-Err.error
    c.in-Some.is c.in-Pending.ensures.0 c.in-Err.ensures h.hung_up h.state
    (seen_over view c.step.new.self c.hang_up.new.self.line (ap (λ d. d.line) h.same))
