use Rattle.std.proofs.Common.{refl, ap}
use Rattle.pg_startup.specs.declared.transfer.Transfer.{Transfer}
use Rattle.pg_startup.proofs.Failing.{hears-now, sends-now}
use Rattle.pg_startup.proofs.Nearing.{catch-ends, catches-heard, catches-sent, caught-up, failed-rest, opening-rest, start-bytes, start-queues, still-within}
use Rattle.pg_startup.proofs.startup.Startup.catch_up.Goals as goal

pub returns-in-Err-clause-answer : goal.returns-in-Err-clause-answer
returns-in-Err-clause-answer g c l asked begin o =
    failed-rest l asked begin (g.L.Link.view c.args.link.now) c.args.self.now c.hear_rest.new.self c.in-Err.error o c.in-Err.ensures.queues c.in-Err.ensures.same c.requires.given
    (λ over. let no = (c.in-Err.ensures.over over).0 in absurd cc) (λ going. c.in-Err.ensures.heard l o.first o.read o.stands going)

pub returns-in-Err-clause-fails_now : goal.returns-in-Err-clause-fails_now
returns-in-Err-clause-fails_now g c l asked begin o =
    hears-now l asked begin (g.L.Link.view c.args.link.now) c.args.self.now c.hear_rest.new.self c.in-Err.error o
    (λ over. let no = (c.in-Err.ensures.over over).0 in absurd cc) (λ going. c.in-Err.ensures.heard l o.first o.read o.stands going)

pub returns-in-Err-clause-catches : goal.returns-in-Err-clause-catches
returns-in-Err-clause-catches g c = catches-heard c.args.self.now c.hear_rest.new.self (g.L.Link.view c.args.link.now) c.in-Err.ensures.same c.in-Err.ensures.lower

pub returns-in-Err-clause-same : goal.returns-in-Err-clause-same
returns-in-Err-clause-same g c = start-queues c.args.self.now c.hear_rest.new.self c.in-Err.ensures.same c.in-Err.ensures.queues

pub returns-clause-answer : goal.returns-clause-answer
returns-clause-answer g c l asked begin o =
    let s = c.args.self.now in
    let t = c.hear_rest.new.self in
    let a = g.L.Link.view c.args.link.now in
    caught-up l asked begin a (g.L.Link.view c.send.new.link) t c.send.new.self c.send.result
    (opening-rest l asked begin a s t o c.in-Ok.ensures.queues c.in-Ok.ensures.same (λ over. (c.in-Ok.ensures.over over).1) (λ going. c.in-Ok.ensures.heard l o.first o.read o.stands going))
    c.send.ensures.sends c.send.ensures.end (still-within s t c.in-Ok.ensures.same c.requires.given)

pub returns-clause-fails_now : goal.returns-clause-fails_now
returns-clause-fails_now g c l asked begin o = sends-now c.send.new.self (g.L.Link.view c.args.link.now) (g.L.Link.view c.send.new.link) c.send.result c.send.ensures.end

pub returns-clause-end : goal.returns-clause-end
returns-clause-end g c =
    catch-ends c.hear_rest.new.self c.send.new.self (g.L.Link.view c.args.link.now) (g.L.Link.view c.send.new.link) c.send.result c.send.ensures.sends c.send.ensures.end (c.in-Ok.ensures.none refl)

pub returns-clause-catches : goal.returns-clause-catches
returns-clause-catches g c =
    let a = g.L.Link.view c.args.link.now in
    catches-sent c.args.self.now c.hear_rest.new.self c.send.new.self a (g.L.Link.view c.send.new.link)
    (catches-heard c.args.self.now c.hear_rest.new.self a c.in-Ok.ensures.same c.in-Ok.ensures.lower) c.send.ensures.sends

pub returns-clause-same : goal.returns-clause-same
returns-clause-same g c =
    start-bytes c.args.self.now c.hear_rest.new.self c.send.new.self (start-queues c.args.self.now c.hear_rest.new.self c.in-Ok.ensures.same c.in-Ok.ensures.queues)
    (ap (λ (x : Transfer). x.max_bytes) c.send.ensures.sends.same)
