use Rattle.pg_connect.specs.declared.ends.ReadEnd.TheVariants as ending
use Rattle.pg_connect.specs.declared.ends.SendEnd.TheVariants as sending
use Rattle.pg_connect.proofs.Rounds.{at_read, at_send, turned_handed, turned_full, turned_dry, turned_over, turned_error, turned_read}
use Rattle.pg_connect.proofs.streams.Streams.turn.Goals as goal

pub returns-in-Ok-Waits-clause-turns : goal.returns-in-Ok-Waits-clause-turns
returns-in-Ok-Waits-clause-turns g c =
    let s = c.args.self.now in
    let mid = c.read_step.new.self in
    let t = c.send.new.self in
    let l = g.L.Link.view c.args.link.now in
    let m = g.L.Link.view c.read_step.new.link in
    let n = g.L.Link.view c.send.new.link in
    let r = c.in-Ok-Handed in
    let w = c.in-Ok-Waits in
    turned_handed _ g.met.E.Desk.joins _ _ _ s mid t l m n r.message c.if-self.false r.ensures.only w.ensures.only
    (at_read _ _ _ s mid l m (ending.Handed r.message) r.field-0 r.field-0-is r.ensures.goes)
    (at_send _ _ _ mid t m n _ sending.Waits w.field-0 w.field-0-is w.ensures.goes)

pub returns-in-Err-clause-turns : goal.returns-in-Err-clause-turns
returns-in-Err-clause-turns g c =
    turned_read _ _ _ c.args.self.now c.read_step.new.self (g.L.Link.view c.args.link.now) (g.L.Link.view c.read_step.new.link) c.in-Err.e c.if-self.false c.in-Err.ensures.only.closing
    c.in-Err.ensures.goes c.in-Err.ensures.only.shut

pub returns-in-Err-send-clause-turns : goal.returns-in-Err-send-clause-turns
returns-in-Err-send-clause-turns g c =
    turned_error _ g.met.E.Desk.joins _ _ _ c.args.self.now c.read_step.new.self c.send.new.self (g.L.Link.view c.args.link.now) (g.L.Link.view c.read_step.new.link)
    (g.L.Link.view c.send.new.link) _ _ _ _ c.in-Err-send.e c.if-self.false c.in-Ok-Handed.ensures.only c.in-Err-send.ensures.only c.in-Ok-Handed.ensures.goes c.in-Err-send.ensures.goes

pub returns-in-Ok-Waits-send-clause-turns : goal.returns-in-Ok-Waits-send-clause-turns
returns-in-Ok-Waits-send-clause-turns g c =
    let s = c.args.self.now in
    let mid = c.read_step.new.self in
    let t = c.send-in-Ok-Full.new.self in
    let l = g.L.Link.view c.args.link.now in
    let m = g.L.Link.view c.read_step.new.link in
    let n = g.L.Link.view c.send-in-Ok-Full.new.link in
    let r = c.in-Ok-Full in
    let w = c.in-Ok-Waits-send in
    turned_full _ g.met.E.Desk.joins _ _ _ s mid t l m n c.if-self.false r.ensures.only w.ensures.only
    (at_read _ _ _ s mid l m ending.Full r.field-0 r.field-0-is r.ensures.goes)
    (at_send _ _ _ mid t m n _ sending.Waits w.field-0 w.field-0-is w.ensures.goes)

pub returns-in-Err-send-2-clause-turns : goal.returns-in-Err-send-2-clause-turns
returns-in-Err-send-2-clause-turns g c =
    turned_error _ g.met.E.Desk.joins _ _ _ c.args.self.now c.read_step.new.self c.send-in-Ok-Full.new.self (g.L.Link.view c.args.link.now) (g.L.Link.view c.read_step.new.link)
    (g.L.Link.view c.send-in-Ok-Full.new.link) _ _ _ _ c.in-Err-send-2.e c.if-self.false c.in-Ok-Full.ensures.only c.in-Err-send-2.ensures.only c.in-Ok-Full.ensures.goes c.in-Err-send-2.ensures.goes

pub returns-in-Ok-Waits-send-2-clause-turns : goal.returns-in-Ok-Waits-send-2-clause-turns
returns-in-Ok-Waits-send-2-clause-turns g c =
    let s = c.args.self.now in
    let mid = c.read_step.new.self in
    let t = c.send-in-Ok-Dry.new.self in
    let l = g.L.Link.view c.args.link.now in
    let m = g.L.Link.view c.read_step.new.link in
    let n = g.L.Link.view c.send-in-Ok-Dry.new.link in
    let r = c.in-Ok-Dry in
    let w = c.in-Ok-Waits-send-2 in
    turned_dry _ g.met.E.Desk.joins _ _ _ s mid t l m n c.if-self.false r.ensures.only w.ensures.only
    (at_read _ _ _ s mid l m ending.Dry r.field-0 r.field-0-is r.ensures.goes)
    (at_send _ _ _ mid t m n _ sending.Waits w.field-0 w.field-0-is w.ensures.goes)

pub returns-in-Ok-Over-send-2-clause-turns : goal.returns-in-Ok-Over-send-2-clause-turns
returns-in-Ok-Over-send-2-clause-turns g c =
    let s = c.args.self.now in
    let mid = c.read_step.new.self in
    let t = c.send-in-Ok-Dry.new.self in
    let l = g.L.Link.view c.args.link.now in
    let m = g.L.Link.view c.read_step.new.link in
    let n = g.L.Link.view c.send-in-Ok-Dry.new.link in
    let r = c.in-Ok-Dry in
    let w = c.in-Ok-Over-send-2 in
    turned_over _ g.met.E.Desk.joins _ _ _ s mid t l m n c.if-self.false r.ensures.only w.ensures.only
    (at_read _ _ _ s mid l m ending.Dry r.field-0 r.field-0-is r.ensures.goes)
    (at_send _ _ _ mid t m n _ sending.Over w.field-0 w.field-0-is w.ensures.goes)

pub returns-in-Err-send-3-clause-turns : goal.returns-in-Err-send-3-clause-turns
returns-in-Err-send-3-clause-turns g c =
    turned_error _ g.met.E.Desk.joins _ _ _ c.args.self.now c.read_step.new.self c.send-in-Ok-Dry.new.self (g.L.Link.view c.args.link.now) (g.L.Link.view c.read_step.new.link)
    (g.L.Link.view c.send-in-Ok-Dry.new.link) _ _ _ _ c.in-Err-send-3.e c.if-self.false c.in-Ok-Dry.ensures.only c.in-Err-send-3.ensures.only c.in-Ok-Dry.ensures.goes c.in-Err-send-3.ensures.goes
