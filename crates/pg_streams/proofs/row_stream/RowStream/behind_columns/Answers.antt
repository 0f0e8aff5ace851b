use Rattle.std.proofs.Common.{true, None, ◌∙◌, ap}
use Rattle.pg_query.specs.Dialogue.{Dialogue, feed}
use Rattle.pg_query.specs.Meaning.{Place}
use Rattle.pg_streams.specs.Collecting.{place_of}
use Rattle.pg_streams.specs.RowStates.{rows_told}
use Rattle.pg_streams.specs.RowStreams.{RowsGiven, rows_from}
use Rattle.pg_streams.specs.declared.items.Items.{Items}
use Rattle.pg_streams.specs.declared.row_giving.RowGiving.{RowGiving}
use Rattle.pg_streams.proofs.Brought.{reads-whole}
use Rattle.pg_streams.proofs.row_stream.RowStream.behind_columns.Goals as goal

-- one who has had nothing reads them
pub returns-clause-stands : goal.returns-clause-stands
returns-clause-stands c =
    ap (λ (items : Items RowGiving). place_of rows_told items) c.rows_next.ensures
    ∙ ap (λ (d : Dialogue RowsGiven). let p : Place RowsGiven = record { dialogue = feed c.args.batch d; reads = c.args.id } in p) (reads-whole (rows_from c.args.statement true None))

-- no command ended
pub returns-clause-affected : goal.returns-clause-affected
returns-clause-affected c = ap (λ (items : Items RowGiving). items.giving.affected) c.rows_next.ensures
