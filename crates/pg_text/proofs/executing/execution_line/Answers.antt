use Rattle.pg_text.proofs.LineLaws.{execution_some, execution_targetless, execution_valueless}
use Rattle.pg_text.proofs.executing.execution_line.Goals as goal

pub returns-in_default-clause-line : goal.returns-in_default-clause-line
returns-in_default-clause-line c = execution_targetless c.args.execution c.args.words.now c.next_target.new.words (rw c.in_default.is at c.in_ok-target.ensures)

pub returns-in_default-2-clause-line : goal.returns-in_default-2-clause-line
returns-in_default-2-clause-line c =
    let named = rw c.in-Some.is at c.in_ok-target.ensures in
    execution_valueless c.args.execution c.args.words.now c.next_target.new.words c.in-Some.target named (rw c.in_default-2.is at c.in_ok-values.ensures)

pub returns-clause-line : goal.returns-clause-line
returns-clause-line c =
    let named = rw c.in-Some.is at c.in_ok-target.ensures in
    let each = rw c.in-Some-2.is at c.in_ok-values.ensures in
    rw c.command.ensures (execution_some c.args.execution c.args.words.now c.next_target.new.words c.in-Some.target c.in-Some-2.values.items c.new.result c.new.ensures named each)
