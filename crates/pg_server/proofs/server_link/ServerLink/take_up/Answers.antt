use Rattle.std.proofs.Common.{ℕ, sym, ap, ◌∙◌, subst, take, length}
use Rattle.std.specs.Prelude.{min}
use Rattle.pg_server.specs.Crossings.{crossed_of}
use Rattle.pg_server.specs.Servers.{heard_of}
use Rattle.pg_server.specs.ServerLinks.{Served, TakesIn, front_by, served_of}
use Rattle.pg_server.proofs.LinkLaws.{settled-IsInCourse, took-TakesUp}
use Rattle.pg_server.proofs.server_link.ServerLink.take_up.Goals as goal

pub returns-then-is_some-clause-course : goal.returns-then-is_some-clause-course
returns-then-is_some-clause-course g c =
    settled-IsInCourse g.H.Handler.step (record { heard = heard_of g.H.Handler.state c.args.self.now.server; crossed = crossed_of c.fail.new.self; fault = c.args.self.now.fault })
    c.args.self.now.server.settled

pub returns-clause-exact : goal.returns-clause-exact
returns-clause-exact g c =
    let old : Served g.H.Handler.State = served_of g.H.Handler.state c.args.self.now in
    let new : Served g.H.Handler.State = served_of g.H.Handler.state c.take_in.new.self in
    took-TakesUp g.H.Handler.step old new c.args.bytes.now c.take_in.result (sym c.is_some.ensures ∙ c.if-is_some.false)
    (subst (λ (k : ℕ). TakesIn old new (take k c.args.bytes.now) (front_by g.H.Handler.step old (take k c.args.bytes.now)) c.take_in.result)
    (c.min-n.ensures ∙ ap (λ (r : ℕ). min r (length c.args.bytes.now)) c.room.ensures.room) c.take_in.ensures)

pub returns-clause-course : goal.returns-clause-course
returns-clause-course g c = settled-IsInCourse g.H.Handler.step (served_of g.H.Handler.state c.take_in.new.self) c.take_in.new.self.server.settled
