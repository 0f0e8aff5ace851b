use Rattle.pg_streams.specs.Collecting.{NoItemFirst, family_of}
use Rattle.pg_streams.proofs.Going.{ReadOut, lacks-behind, out-of, told-of, batch-came, none-came, all-came, request-gone, refused-take}
use Rattle.pg_streams.proofs.Telling.{keeps-joined, keeps-refilled}
use Rattle.pg_streams.proofs.items.Items.go_on.Given.{Over}
use Rattle.pg_streams.proofs.items.Items.go_on.Goals.{After-take}
use Rattle.pg_streams.proofs.items.Items.go_on.Goals as goal

pub returns-in-Ok-Some-clause-comes : goal.returns-in-Ok-Some-clause-comes
returns-in-Ok-Some-clause-comes g c =
    told-of g.D.Desk.becomes g.G.Giving.tells g.G.Giving.hears g.G.Giving.with_item g.G.Giving.at_end c.args.stamp c.args.desk.now (family_of g.G.Giving.tells g.G.Giving.hears c.args.self.now) c.loop-told.desk c.loop-told.self c.read.new.self
    c.loop-told.invariant.goes c.in-Ok-Some.field-0 c.in-Ok-Some.told c.in-Ok-Some.field-0-is c.in-Ok-Some.ensures.reads

-- all that came was read
read-out : (g : Over) (c : After-take g) → ReadOut g.D.Desk.becomes g.G.Giving.tells g.G.Giving.hears c.args.stamp c.args.desk.now (family_of g.G.Giving.tells g.G.Giving.hears c.args.self.now) c.loop-told.desk c.read.new.self
read-out g c =
    out-of g.D.Desk.becomes g.G.Giving.tells g.G.Giving.hears g.G.Giving.with_item g.G.Giving.at_end c.args.stamp c.args.desk.now (family_of g.G.Giving.tells g.G.Giving.hears c.args.self.now) c.loop-told.desk c.loop-told.self c.read.new.self
    c.loop-told.invariant.goes c.in-Ok-None.field-0 c.in-Ok-None.field-0-is c.in-Ok-None.ensures.reads

pub loop-told-preserved : goal.loop-told-preserved
loop-told-preserved g c = record {
  goes = batch-came g.met.D.Desk.joins (read-out g (goal.at.loop-told-preserved g c).After-take) c.take.new.self c.in-Ok-Batch.batch (rw c.in-Ok-Batch.field-0-is at c.in-Ok-Batch.ensures.event) c.refill.new.self c.refill.ensures;
  keeps = keeps-refilled g.G.Giving.known c.args.self.now c.read.new.self c.refill.new.self c.in-Ok-Batch.batch
      (keeps-joined g.G.Giving.known c.args.self.now c.loop-told.self c.read.new.self c.loop-told.invariant.keeps c.read.ensures.keeps) c.refill.ensures;
}

pub returns-in-Ok-Empty-clause-comes : goal.returns-in-Ok-Empty-clause-comes
returns-in-Ok-Empty-clause-comes g c = none-came g.met.D.Desk.joins (read-out g (goal.at.returns-in-Ok-Empty-clause-comes g c).After-take) c.take.new.self (rw c.in-Ok-Empty.field-0-is at c.in-Ok-Empty.ensures.event)

pub returns-in-Ok-Over-clause-comes : goal.returns-in-Ok-Over-clause-comes
returns-in-Ok-Over-clause-comes g c = all-came g.met.D.Desk.joins (read-out g (goal.at.returns-in-Ok-Over-clause-comes g c).After-take) c.take.new.self (rw c.in-Ok-Over.field-0-is at c.in-Ok-Over.ensures.event)

pub returns-in-Ok-Gone-clause-comes : goal.returns-in-Ok-Gone-clause-comes
returns-in-Ok-Gone-clause-comes g c =
    request-gone g.met.D.Desk.joins (read-out g (goal.at.returns-in-Ok-Gone-clause-comes g c).After-take) c.take.new.self c.leave.new.desk (rw c.in-Ok-Gone.field-0-is at c.in-Ok-Gone.ensures.event) c.leave.result c.leave.ensures

pub returns-in-Err-take-clause-comes : goal.returns-in-Err-take-clause-comes
returns-in-Err-take-clause-comes g c =
    refused-take g.met.D.Desk.joins (read-out g (goal.at.returns-in-Err-take-clause-comes g c).After-take) c.take.new.self c.in-Err-take.fault c.in-Err-take.ensures.event c.error_of.result c.error_of.ensures

pub returns-in-Err-clause-comes : goal.returns-in-Err-clause-comes
returns-in-Err-clause-comes g c = lacks-behind c.loop-told.invariant.goes c.in-Err.error (NoItemFirst c.read.new.self) c.in-Err.ensures.reads
