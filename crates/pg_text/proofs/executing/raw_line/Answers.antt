use Rattle.pg_text.proofs.LineLaws.{raw_some, raw_takeless, raw_targetless, raw_valueless}
use Rattle.pg_text.proofs.executing.raw_line.Goals as goal

pub returns-in_default-clause-line : goal.returns-in_default-clause-line
returns-in_default-clause-line c = raw_targetless c.args.words.now c.next_target.new.words (rw c.in_default.is at c.in_ok-target.ensures)

pub returns-in_default-next_take-clause-line : goal.returns-in_default-next_take-clause-line
returns-in_default-next_take-clause-line c =
    let named = rw c.in-Some.is at c.in_ok-target.ensures in
    raw_takeless c.args.words.now c.next_target.new.words c.next_take.new.words c.in-Some.target named c.in_default-next_take.ensures

pub returns-in_default-2-clause-line : goal.returns-in_default-2-clause-line
returns-in_default-2-clause-line c =
    let named = rw c.in-Some.is at c.in_ok-target.ensures in
    raw_valueless c.args.words.now c.next_target.new.words c.next_take.new.words c.in-Some.target c.in-Some-next_take.take named c.in-Some-next_take.ensures (rw c.in_default-2.is at c.in_ok-values.ensures)

pub returns-clause-line : goal.returns-clause-line
returns-clause-line c =
    let named = rw c.in-Some.is at c.in_ok-target.ensures in
    let each = rw c.in-Some-2.is at c.in_ok-values.ensures in
    raw_some c.args.words.now c.next_target.new.words c.next_take.new.words c.in-Some.target c.in-Some-next_take.take c.in-Some-2.values.items c.new.result c.new.ensures named c.in-Some-next_take.ensures each
