use Rattle.std.proofs.Common.{refl, Ok}
use Rattle.pg_connect.specs.declared.ends.SendEnd.TheVariants as sending
use Rattle.pg_connect.specs.declared.ends.TurnEnd.TheVariants as turn
use Rattle.pg_connect.proofs.Rounds.{at_send, turned_closing, closing_waits, closing_over, closing_error}
use Rattle.pg_connect.proofs.streams.Streams.close_turn.Goals as goal

pub returns-in-Ok-Waits-clause-turns : goal.returns-in-Ok-Waits-clause-turns
returns-in-Ok-Waits-clause-turns g c =
    let s = c.args.self.now in
    let t = c.send.new.self in
    let l = g.L.Link.view c.args.link.now in
    let m = g.L.Link.view c.send.new.link in
    let w = c.in-Ok-Waits in
    turned_closing _ _ _ s t l m sending.Waits (Ok turn.Waits) (λ handed is. is) (λ got piece. tt) w.ensures.only (at_send _ _ _ s t l m _ sending.Waits w.field-0 w.field-0-is w.ensures.goes)
    (λ es was. closing_waits s t l m es c.requires.closing (w.ensures.goes.passes.still_closing c.requires.closing) w.ensures.only was) refl

pub returns-in-Ok-Over-clause-turns : goal.returns-in-Ok-Over-clause-turns
returns-in-Ok-Over-clause-turns g c =
    let s = c.args.self.now in
    let t = c.send.new.self in
    let l = g.L.Link.view c.args.link.now in
    let m = g.L.Link.view c.send.new.link in
    let w = c.in-Ok-Over in
    turned_closing _ _ _ s t l m sending.Over (Ok turn.Over) (λ handed is. is) (λ got piece. tt) w.ensures.only (at_send _ _ _ s t l m _ sending.Over w.field-0 w.field-0-is w.ensures.goes)
    (λ es was. closing_over s t l m es c.requires.closing w.ensures.only was) refl

pub returns-in-Err-clause-turns : goal.returns-in-Err-clause-turns
returns-in-Err-clause-turns g c =
    closing_error _ _ _ c.args.self.now c.send.new.self (g.L.Link.view c.args.link.now) (g.L.Link.view c.send.new.link) c.in-Err.e c.requires.closing c.in-Err.ensures.only c.in-Err.ensures.goes
