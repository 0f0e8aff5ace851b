use Rattle.std.proofs.Common.{Bool, Ok, suc, subst}
use Rattle.pg_drive.specs.Lines.{LineAdvances, seen}
use Rattle.pg_drive.proofs.line.Line.run_out.Goals as goal

pub returns-in-Ok-true : goal.returns-in-Ok-true
returns-in-Ok-true g c =
    let was = seen g.L.Link.view c.steps.self in
    let now = seen g.L.Link.view c.advance.new.self in
    record {
      count = c.steps.invariant.count;
      last = was;
      goes = c.steps.invariant.goes;
      ends = subst (λ (over : Bool). LineAdvances g.E.Desk.becomes was now (Ok over)) c.in-Ok-true.field-0-test c.in-Ok-true.ensures;
    }

pub steps-preserved : goal.steps-preserved
steps-preserved g c =
    let was = seen g.L.Link.view c.steps.self in
    let now = seen g.L.Link.view c.advance.new.self in
    record {
      count = suc c.steps.invariant.count;
      goes = (was, c.steps.invariant.goes, subst (λ (over : Bool). LineAdvances g.E.Desk.becomes was now (Ok over)) c.in-Ok-false.field-0-test c.in-Ok-false.ensures);
    }

pub returns-in-Err : goal.returns-in-Err
returns-in-Err g c = record {
  count = c.steps.invariant.count;
  last = seen g.L.Link.view c.steps.self;
  goes = c.steps.invariant.goes;
  ends = c.in-Err.ensures;
}
