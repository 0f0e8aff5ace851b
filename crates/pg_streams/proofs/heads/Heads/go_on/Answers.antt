use Rattle.std.proofs.Common.{◌≡◌, [], Bool, refl, ap, ◌∙◌}
use Rattle.pg_streams.specs.Families.{GoesFor}
use Rattle.pg_streams.proofs.Going.{goes-nowhere}
use Rattle.pg_streams.specs.Heads.{heads}
use Rattle.pg_streams.specs.declared.heads.Heads.{Heads}
use Rattle.pg_streams.proofs.Heading.{head-batch, head-none, head-stops, to-columns, to-error, to-lack, to-read}
use Rattle.pg_streams.proofs.heads.Heads.go_on.Given.{Over}
use Rattle.pg_streams.proofs.heads.Heads.go_on.Goals.{After-take_batch}
use Rattle.pg_streams.proofs.heads.Heads.go_on.Goals as goal

pub loop-columns-init : goal.loop-columns-init
loop-columns-init g c = record {
  goes = λ rows. goes-nowhere g.D.Desk.becomes g.met.D.Desk.stays c.args.stamp c.args.desk.now (heads rows c.args.self.now) (heads rows c.args.self.now) refl;
  id = refl;
}

pub returns-in-Ok-Some-Ok-clause-comes : goal.returns-in-Ok-Some-Ok-clause-comes
returns-in-Ok-Some-Ok-clause-comes g c =
    let ok = c.in-Ok-Some-Ok in
    rw ok.field-0-0-is (to-columns c.args.self.now c.loop-columns.self c.read.new.self c.loop-columns.invariant.goes ok.field-0 ok.field-0-0 ok.columns ok.field-0-is ok.field-0-0-is ok.ensures.reads)

pub returns-in-Ok-Some-Err-clause-comes : goal.returns-in-Ok-Some-Err-clause-comes
returns-in-Ok-Some-Err-clause-comes g c =
    let err = c.in-Ok-Some-Err in
    to-error c.args.self.now c.loop-columns.self c.read.new.self c.loop-columns.invariant.goes g.met.D.Desk.joins err.field-0 err.field-0-0 err.error err.field-0-is err.field-0-0-is err.ensures.reads c.fail.new.desk c.fail.result (λ rows. rw err.field-0-0-is at c.fail.ensures rows c.args.stamp)

pub returns-in-Err-clause-comes : goal.returns-in-Err-clause-comes
returns-in-Err-clause-comes g c = to-lack c.args.self.now c.loop-columns.self c.read.new.self c.loop-columns.invariant.goes c.in-Err.error c.in-Err.ensures.reads

-- all that came was read
read-out : (g : Over) (c : After-take_batch g) → ((rows : Bool) → GoesFor g.D.Desk.becomes c.args.stamp c.args.desk.now (heads rows c.args.self.now) c.loop-columns.desk (heads rows c.read.new.self)) × (c.read.new.self.batch ≡ [])
read-out g c = to-read c.args.self.now c.loop-columns.self c.read.new.self c.loop-columns.invariant.goes c.in-Ok-None.field-0 c.in-Ok-None.field-0-is c.in-Ok-None.ensures.reads

pub loop-columns-preserved : goal.loop-columns-preserved
loop-columns-preserved g c = record {
  goes = head-batch g.met.D.Desk.joins c.args.self.now c.read.new.self (read-out g (goal.at.loop-columns-preserved g c).After-take_batch) c.take_batch.new.desk c.in-Batch.batch c.in-Batch.ensures.comes c.refill.new.self c.refill.ensures;
  id = ap (λ (s : Heads). s.id) c.refill.ensures ∙ c.read.ensures.id ∙ c.loop-columns.invariant.id;
}

pub returns-in-Nothing-clause-comes : goal.returns-in-Nothing-clause-comes
returns-in-Nothing-clause-comes g c = head-none g.met.D.Desk.joins c.args.self.now c.read.new.self (read-out g (goal.at.returns-in-Nothing-clause-comes g c).After-take_batch) c.take_batch.new.desk c.in-Nothing.ensures.comes

pub returns-in-Fails-clause-comes : goal.returns-in-Fails-clause-comes
returns-in-Fails-clause-comes g c = head-stops g.met.D.Desk.joins c.args.self.now c.read.new.self (read-out g (goal.at.returns-in-Fails-clause-comes g c).After-take_batch) c.take_batch.new.desk c.in-Fails.error c.in-Fails.ensures.comes
