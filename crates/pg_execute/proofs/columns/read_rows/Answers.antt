use Rattle.std.proofs.Common.{◌≡◌, length}
use Rattle.pg_execute.proofs.Typed.{rows-at}
use Rattle.pg_execute.proofs.columns.read_rows.Goals as goal

pub returns : goal.returns
returns c =
    let long : length c.args.types ≡ length c.args.columns = rw (c.as_slice.ensures, c.as_slice-2.ensures) at c.if-as_slice.false in
    rows-at c.args.how_many c.args.columns c.args.types c.in_ok-statement.statement _ _ long c.in_ok-statement.ensures c.behind_columns-reading.ensures c.new.ensures
