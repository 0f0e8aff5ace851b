use Rattle.std.proofs.Common.{refl, sym, ◌∙◌}
use Rattle.pg_streams.proofs.Going.{goes-nowhere}
use Rattle.pg_streams.specs.Rests.{rests}
use Rattle.pg_streams.proofs.Ending.{rest-batch, rest-lacks, rest-none, rest-stops}
use Rattle.pg_streams.proofs.rests.Rest.go_on.Goals as goal

pub loop-self-init : goal.loop-self-init
loop-self-init g c = record {
  goes = λ rows. goes-nowhere g.D.Desk.becomes g.met.D.Desk.stays c.args.stamp c.args.desk.now (rests rows c.args.self.now) (rests rows c.args.self.now) refl;
  is = c.requires;
  id = refl;
}

pub returns-then-self-clause-comes : goal.returns-then-self-clause-comes
returns-then-self-clause-comes g c = (c.loop-self.invariant.goes, sym c.loop-self.invariant.is ∙ c.if-self.true)

pub loop-self-preserved : goal.loop-self-preserved
loop-self-preserved g c = record {
  goes = rest-batch g.met.D.Desk.joins c.args.self.now c.loop-self.self c.loop-self.invariant.goes (sym c.loop-self.invariant.is ∙ c.if-self.false) c.take_batch.new.desk c.in-Batch.batch c.in-Batch.ensures.comes c.add.new.self c.in-Ok.ensures.adds;
  is = c.in-Ok.ensures.adds.is c.loop-self.invariant.is;
  id = c.in-Ok.ensures.id ∙ c.loop-self.invariant.id;
}

pub returns-in-Err-clause-comes : goal.returns-in-Err-clause-comes
returns-in-Err-clause-comes g c =
    rest-lacks g.met.D.Desk.joins c.args.self.now c.loop-self.self c.loop-self.invariant.goes (sym c.loop-self.invariant.is ∙ c.if-self.false) c.take_batch.new.desk c.in-Batch.batch c.in-Batch.ensures.comes c.add.new.self c.in-Err.error c.in-Err.ensures.adds

pub returns-in-Err-clause-id : goal.returns-in-Err-clause-id
returns-in-Err-clause-id g c = c.in-Err.ensures.id ∙ c.loop-self.invariant.id

pub returns-in-Nothing-clause-comes : goal.returns-in-Nothing-clause-comes
returns-in-Nothing-clause-comes g c = rest-none g.met.D.Desk.joins c.args.self.now c.loop-self.self c.loop-self.invariant.goes (sym c.loop-self.invariant.is ∙ c.if-self.false) c.take_batch.new.desk c.loop-self.invariant.is c.in-Nothing.ensures.comes

pub returns-in-Fails-clause-comes : goal.returns-in-Fails-clause-comes
returns-in-Fails-clause-comes g c =
    rest-stops g.met.D.Desk.joins c.args.self.now c.loop-self.self c.loop-self.invariant.goes (sym c.loop-self.invariant.is ∙ c.if-self.false) c.take_batch.new.desk c.loop-self.self c.in-Fails.error c.in-Fails.ensures.comes
