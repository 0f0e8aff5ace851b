use Rattle.std.proofs.Common.{[], ◌∷◌, List}
use Rattle.pg_desk.specs.declared.event.Event.{Event}
use Rattle.pg_desk.specs.declared.event.Event.TheVariants as call
use Rattle.pg_desk.specs.declared.event.Put.TheVariants as putting
use Rattle.pg_query.specs.Meaning.{meaning_at}
use Rattle.pg_query.specs.declared.script.Want.TheVariants.{Act}
use Rattle.pg_query.specs.declared.script.Action.TheVariants.{Finish}
use Rattle.pg_query.proofs.Walking.{finished, finish-gone, finish-refused, copy-gone, lacking, resumed}
use Rattle.pg_query.proofs.running.Running.finish.Goals as goal

pub returns-in-Took-clause-goes : goal.returns-in-Took-clause-goes
returns-in-Took-clause-goes g c =
    let old = c.args.self.now in
    let d = g.S.Script.dialogue old.script in
    let es : List Event = call.EndCopy old.id c.args.part putting.Took ∷ [] in
    resumed g.D.Desk.becomes c.args.stamp c.args.desk.now (meaning_at g.S.Script.dialogue g.S.Script.refuses old (Act (Finish c.args.part))) c.end_copy.new.self g.S.Script.dialogue g.S.Script.refuses g.S.Script.waits d c.next.new.self
    es c.in-Took.ensures.event old.batch old.id c.next.ensures.batch c.next.ensures.id
    (finished c.args.stamp old.batch old.id c.args.part d) c.next.result c.next.ensures.step

pub returns-in-Gone-clause-goes : goal.returns-in-Gone-clause-goes
returns-in-Gone-clause-goes g c =
    let old = c.args.self.now in
    let gone : Event = call.EndCopy old.id c.args.part (putting.Gone c.in-Gone.field-0) in
    copy-gone g.D.Desk.becomes g.met.D.Desk.joins c.args.stamp c.args.desk.now (meaning_at g.S.Script.dialogue g.S.Script.refuses old (Act (Finish c.args.part))) c.end_copy.new.self c.leave.new.desk old.id gone
    (finish-gone c.args.stamp old.batch old.id c.args.part c.in-Gone.field-0 (g.S.Script.dialogue old.script)) c.in-Gone.ensures.event c.leave.result c.leave.ensures.leaves

pub returns-in-OutOfMemory-clause-goes : goal.returns-in-OutOfMemory-clause-goes
returns-in-OutOfMemory-clause-goes g c =
    let old = c.args.self.now in
    lacking g.D.Desk.becomes c.args.stamp c.args.desk.now (meaning_at g.S.Script.dialogue g.S.Script.refuses old (Act (Finish c.args.part))) c.end_copy.new.self
    (call.EndCopy old.id c.args.part (putting.OutOfMemory c.in-OutOfMemory.field-0) ∷ []) c.in-OutOfMemory.ensures.event old.id
    (finish-refused c.args.stamp old.batch old.id c.args.part c.in-OutOfMemory.field-0 (g.S.Script.dialogue old.script))
