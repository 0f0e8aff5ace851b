use Rattle.std.proofs.Common.{[], ◌∷◌, List}
use Rattle.pg_desk.specs.declared.event.Event.{Event}
use Rattle.pg_desk.specs.declared.event.Event.TheVariants as call
use Rattle.pg_desk.specs.declared.event.Put.TheVariants as putting
use Rattle.pg_query.specs.Meaning.{offering}
use Rattle.pg_query.proofs.Walking.{put-took, put-gone, put-refused, held-back, copy-gone, lacking, resumed}
use Rattle.pg_query.proofs.Stopping.{stopped-did}
use Rattle.pg_query.proofs.running.Running.put.Goals as goal

pub returns-in-Took-clause-goes : goal.returns-in-Took-clause-goes
returns-in-Took-clause-goes g c =
    let old = c.args.self.now in
    let o = c.args.offer in
    let d = g.S.Script.dialogue old.script in
    let es : List Event = call.Put old.id o.part putting.Took ∷ [] in
    stopped-did g.D.Desk.becomes g.S.Script.dialogue g.S.Script.refuses c.args.stamp c.args.desk.now (offering g.S.Script.dialogue old o) c.put.new.self c.next.new.self c.next.result c.stopped.result c.stopped.ensures
    (resumed g.D.Desk.becomes c.args.stamp c.args.desk.now (offering g.S.Script.dialogue old o) c.put.new.self g.S.Script.dialogue g.S.Script.refuses g.S.Script.waits d c.next.new.self
    es c.in-Took.ensures.event old.batch old.id c.next.ensures.batch c.next.ensures.id
    (put-took c.args.stamp old.batch old.id o.cleanup.items o.part d) c.next.result c.next.ensures.step)

pub returns-in-Full-clause-goes : goal.returns-in-Full-clause-goes
returns-in-Full-clause-goes g c =
    held-back g.D.Desk.becomes g.S.Script.dialogue c.args.stamp c.args.desk.now c.put.new.self c.args.self.now c.args.offer c.in-Full.back c.in-Full.ensures.back c.in-Full.ensures.event

pub returns-in-Gone-clause-goes : goal.returns-in-Gone-clause-goes
returns-in-Gone-clause-goes g c =
    let old = c.args.self.now in
    let o = c.args.offer in
    let gone : Event = call.Put old.id o.part (putting.Gone c.in-Gone.field-0) in
    copy-gone g.D.Desk.becomes g.met.D.Desk.joins c.args.stamp c.args.desk.now (offering g.S.Script.dialogue old o) c.put.new.self c.leave.new.desk old.id gone
    (put-gone c.args.stamp old.batch old.id o.cleanup.items o.part c.in-Gone.field-0 (g.S.Script.dialogue old.script)) c.in-Gone.ensures.event c.leave.result c.leave.ensures.leaves

pub returns-in-OutOfMemory-clause-goes : goal.returns-in-OutOfMemory-clause-goes
returns-in-OutOfMemory-clause-goes g c =
    let old = c.args.self.now in
    let o = c.args.offer in
    lacking g.D.Desk.becomes c.args.stamp c.args.desk.now (offering g.S.Script.dialogue old o) c.put.new.self
    (call.Put old.id o.part (putting.OutOfMemory c.in-OutOfMemory.field-0) ∷ []) c.in-OutOfMemory.ensures.event old.id
    (put-refused c.args.stamp old.batch old.id o.cleanup.items o.part c.in-OutOfMemory.field-0 (g.S.Script.dialogue old.script))
