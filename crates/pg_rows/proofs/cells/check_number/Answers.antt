use Rattle.std.proofs.Common.{sym, ◌∙◌}
use Rattle.pg_rows.proofs.Walked.{cells-counted, wrong-count}
use Rattle.pg_rows.proofs.cells.check_number.Goals as goal

pub returns-then-len-columns : goal.returns-then-len-columns
returns-then-len-columns c =
    wrong-count c.args.columns c.args.body.now.count c.args.body.now.cells c.requires (λ e. c.if-len-columns.true (c.len.ensures ∙ e))

pub returns : goal.returns
returns c = record {
  readable = c.requires;
  width = cells-counted c.args.body.now.count c.args.body.now.cells _ c.requires ∙ sym c.len.ensures ∙ c.if-len-columns.false;
}
