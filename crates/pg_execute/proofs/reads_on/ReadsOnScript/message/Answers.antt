use Rattle.std.proofs.Common.{subst, Some, None}
use Rattle.pg_query.specs.Dialogue.{Dialogue}
use Rattle.pg_query.specs.Reading.{ReadsOn}
use Rattle.pg_query.specs.Scripts.{GoesOn, waiting_at}
use Rattle.pg_execute.specs.Reads.{reads_at, reads_refuses}
use Rattle.pg_execute.proofs.ReadingOn.{reads-more, reads-told}
use Rattle.pg_execute.proofs.reads_on.ReadsOnScript.message.Goals as goal

pub returns-in-Ok-None-clause-goes_on : goal.returns-in-Ok-None-clause-goes_on
returns-in-Ok-None-clause-goes_on g c raw means h =
    let read = g.R.Reading.reading in
    let k : ReadsOn read c.args.self.now.reading raw None c.message.new.self = rw c.in-Ok-None.field-0-is at (c.in-Ok-None.ensures.reads raw means) in
    reads-more read c.args.self.now c.message.new.self raw k h

pub returns-in-Ok-Some-clause-goes_on : goal.returns-in-Ok-Some-clause-goes_on
returns-in-Ok-Some-clause-goes_on g c raw means h =
    let read = g.R.Reading.reading in
    let old = c.args.self.now in
    let k : ReadsOn read old.reading raw (Some c.in-Ok-Some.answer) c.message.new.self = rw c.in-Ok-Some.field-0-is at (c.in-Ok-Some.ensures.reads raw means) in
    subst (λ (d : Dialogue _). GoesOn (reads_at read) reads_refuses (λ s. waiting_at (reads_at read s)) d c.told.result c.told.new.self)
    (reads-told read old c.message.new.self raw c.in-Ok-Some.answer k h) c.told.ensures.goes_on
