use Rattle.std.proofs.Common.{ℕ, Option, Ok, refl, sym, ◌∙◌, subst}
use Rattle.pg_server.specs.declared.answer.Answer.{Answer}
use Rattle.pg_server.specs.Crossings.{crossed_of}
use Rattle.pg_server.specs.Servers.{Heard, TakesFront, heard_of}
use Rattle.pg_server.specs.ServerLinks.{Served, front_by, served_of}
use Rattle.pg_server.proofs.LinkLaws.{answered-TakesIn, stopped-TakesIn, on_ok}
use Rattle.pg_server.proofs.server_link.ServerLink.take_piece.Goals as goal

pub returns-in-Ok-Some : goal.returns-in-Ok-Some
returns-in-Ok-Some g c =
    let old : Served g.H.Handler.State = served_of g.H.Handler.state c.args.self.now in
    let heard : Heard g.H.Handler.State = heard_of g.H.Handler.state c.take_up.new.self in
    answered-TakesIn old heard c.args.bytes.now (front_by g.H.Handler.step old c.args.bytes.now) c.in-Ok-Some.answer c.in-Ok-Some.left
    (crossed_of c.offer.new.self) (crossed_of c.take_back.new.self) (crossed_of c.move_on.new.self) (crossed_of c.say.new.self)
    (subst (λ (o : Option (Answer × ℕ)). TakesFront (front_by g.H.Handler.step old c.args.bytes.now) old.heard heard c.args.bytes.now (Ok o)) c.in-Ok-Some.field-0-is c.in-Ok-Some.ensures)
    (on_ok c.offer.result _ c.offer.ensures.took (sym c.is_err.ensures.value ∙ c.if-is_err.false)) c.take_back.ensures.crossed c.move_on.ensures.crossed c.say.ensures

pub returns-in-Err : goal.returns-in-Err
returns-in-Err g c =
    let old : Served g.H.Handler.State = served_of g.H.Handler.state c.args.self.now in
    let mid : Served g.H.Handler.State = record { heard = heard_of g.H.Handler.state c.take_up.new.self; crossed = crossed_of c.offer.new.self; fault = c.args.self.now.fault } in
    stopped-TakesIn old mid (served_of g.H.Handler.state c.stop.new.self) c.args.bytes.now (front_by g.H.Handler.step old c.args.bytes.now) c.in-Err.fault c.stop.result c.requires
    (on_ok c.offer.result _ c.offer.ensures.took (sym c.is_err.ensures.value ∙ c.if-is_err.false)) refl c.in-Err.ensures c.stop.ensures
