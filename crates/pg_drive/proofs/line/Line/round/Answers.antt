use Rattle.std.proofs.Common.{refl, ap, subst, Ok, Err}
use Rattle.pg_drive.specs.declared.line.Line.{Line}
use Rattle.pg_drive.specs.Lines.{LineSteps, LineView, seen}
use Rattle.pg_drive.proofs.line.Line.round.Goals as goal

pub returns-then-are_done-clause-round : goal.returns-then-are_done-clause-round
returns-then-are_done-clause-round g c = record {
  took = record { hub = c.take_turns-moved.new.desk; moved = c.take_turns-moved.result; took = c.take_turns-moved.ensures.turns };
  ended = c.are_done.ensures.all c.if-are_done.true;
  line = refl;
}

pub returns-in-Ok-clause-round : goal.returns-in-Ok-clause-round
returns-in-Ok-clause-round g c = record {
  took = record { hub = c.take_turns-moved.new.desk; moved = c.take_turns-moved.result; took = c.take_turns-moved.ensures.turns };
  left = c.are_done.ensures.left c.if-are_done.false;
  line = subst (λ (x : LineView _). LineSteps g.E.Desk.becomes x (seen g.L.Link.view c.step.new.self) (Ok tt)) (ap (λ (l : Line _ _). seen g.L.Link.view l) c.count_anew.ensures) c.in-Ok.ensures;
}

pub returns-in-Err-clause-round : goal.returns-in-Err-clause-round
returns-in-Err-clause-round g c = record {
  took = record { hub = c.take_turns-moved.new.desk; moved = c.take_turns-moved.result; took = c.take_turns-moved.ensures.turns };
  left = c.are_done.ensures.left c.if-are_done.false;
  line = subst (λ (x : LineView _). LineSteps g.E.Desk.becomes x (seen g.L.Link.view c.step.new.self) (Err c.in-Err.error)) (ap (λ (l : Line _ _). seen g.L.Link.view l) c.count_anew.ensures) c.in-Err.ensures;
}
