use Rattle.std.proofs.Common.{Option, List, ℕ, Ok, refl, subst, length}
use Rattle.std.specs.Borrow.{Bor}
use Rattle.pg_server.specs.Standings.{standing_of, Does, front}
use Rattle.pg_server.proofs.HearingLaws.{begin_heard, more_heard, less_left, heard_all, heard_fault}
use Rattle.pg_server.proofs.session.Session.hear.Goals as goal

pub loop-step-init : goal.loop-step-init
loop-step-init g c = begin_heard g.H.Handler.step (standing_of g.H.Handler.state c.args.self.now) c.args.bytes.now c.args.out.now.items

pub loop-step-preserved : goal.loop-step-preserved
loop-step-preserved g c =
    more_heard g.H.Handler.step (standing_of g.H.Handler.state c.args.self.now) c.args.bytes.now c.args.out.now.items (standing_of g.H.Handler.state c.loop-step.self)
    (standing_of g.H.Handler.state c.go_on.new.self) c.loop-step.rest.now c.loop-step.out.items c.in-Some.behind.now c.go_on.new.out.items c.loop-step.invariant
    (subst (λ (o : Option (Bor (List ℕ))). Does (front g.H.Handler.step (standing_of g.H.Handler.state c.loop-step.self) c.loop-step.rest.now) (standing_of g.H.Handler.state c.loop-step.self)
    (standing_of g.H.Handler.state c.go_on.new.self) c.loop-step.out.items c.go_on.new.out.items (Ok o)) c.in-Some.is c.in-Ok.ensures)

pub loop-step-smaller : goal.loop-step-smaller
loop-step-smaller g c =
    less_left g.H.Handler.step (standing_of g.H.Handler.state c.loop-step.self) (standing_of g.H.Handler.state c.go_on.new.self) c.loop-step.rest.now
    c.loop-step.out.items c.in-Some.behind.now c.go_on.new.out.items
    (subst (λ (o : Option (Bor (List ℕ))). Does (front g.H.Handler.step (standing_of g.H.Handler.state c.loop-step.self) c.loop-step.rest.now) (standing_of g.H.Handler.state c.loop-step.self)
    (standing_of g.H.Handler.state c.go_on.new.self) c.loop-step.out.items c.go_on.new.out.items (Ok o)) c.in-Some.is c.in-Ok.ensures)

pub returns-in-None : goal.returns-in-None
returns-in-None g c =
    heard_all g.H.Handler.step (standing_of g.H.Handler.state c.args.self.now) c.args.bytes.now c.args.out.now.items (standing_of g.H.Handler.state c.loop-step.self)
    (standing_of g.H.Handler.state c.go_on.new.self) c.loop-step.rest.now c.loop-step.out.items c.go_on.new.out.items (length c.loop-step.rest.now) c.loop-step.invariant
    (subst (λ (o : Option (Bor (List ℕ))). Does (front g.H.Handler.step (standing_of g.H.Handler.state c.loop-step.self) c.loop-step.rest.now) (standing_of g.H.Handler.state c.loop-step.self)
    (standing_of g.H.Handler.state c.go_on.new.self) c.loop-step.out.items c.go_on.new.out.items (Ok o)) c.in-None.is c.in-Ok.ensures) refl

pub returns-in-Err : goal.returns-in-Err
returns-in-Err g c =
    heard_fault g.H.Handler.step (standing_of g.H.Handler.state c.args.self.now) c.args.bytes.now c.args.out.now.items (standing_of g.H.Handler.state c.loop-step.self)
    (standing_of g.H.Handler.state c.go_on.new.self) c.loop-step.rest.now c.loop-step.out.items c.go_on.new.out.items c.in-Err.fault c.loop-step.invariant c.in-Err.ensures
