use Rattle.std.proofs.Common.{sym, ◌∙◌}
use Rattle.pg_text.proofs.LineLaws.{savepoint_none, savepoint_some}
use Rattle.pg_text.proofs.levels.savepoint_line.Goals as goal

pub returns-in-Some-clause-line : goal.returns-in-Some-clause-line
returns-in-Some-clause-line c = savepoint_some c.args.words.now c.in-Some.name (rw c.in-Some.is at c.in_ok-name.ensures)

pub returns-in-None-clause-line : goal.returns-in-None-clause-line
returns-in-None-clause-line c = savepoint_none c.args.words.now (sym c.is_done.ensures ∙ c.if-is_done.false) (rw c.in-None.is at c.in_ok-name.ensures)
