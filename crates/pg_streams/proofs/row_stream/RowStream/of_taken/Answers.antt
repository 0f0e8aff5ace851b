use Rattle.std.proofs.Common.{List, true, None, ◌∙◌, ap}
use Rattle.pg_query.specs.Dialogue.{Answer, Dialogue, feed}
use Rattle.pg_spec.specs.RawMessages.{RawMessage}
use Rattle.pg_streams.specs.Brought.{collected, joined}
use Rattle.pg_streams.specs.Collecting.{collects, place_of}
use Rattle.pg_streams.specs.RowStates.{rows_told}
use Rattle.pg_streams.specs.RowStreams.{RowsGiven, rows_from}
use Rattle.pg_streams.specs.Telling.{told_behind}
use Rattle.pg_streams.specs.declared.items.Items.{Items}
use Rattle.pg_streams.specs.declared.row_giving.RowGiving.{RowGiving}
use Rattle.pg_streams.proofs.Brought.{reads-whole}
use Rattle.pg_streams.proofs.row_stream.RowStream.of_taken.Goals as goal

-- one who has had nothing reads what was taken
pub returns-clause-stands : goal.returns-clause-stands
returns-clause-stands c =
    let later = joined c.args.batches.items in
    ap (λ (items : Items RowGiving). let x : Dialogue RowsGiven = Answer (collected (feed later (place_of rows_told items).dialogue)) in x) c.rows_next.ensures
    ∙ ap (λ (l : List RawMessage). let x : Dialogue RowsGiven = Answer (collected (feed later (feed l (collects None (λ ms. told_behind (λ whole. whole) (rows_from c.args.statement true None ms)))))) in x) c.empty.ensures
    ∙ ap (λ (d : Dialogue RowsGiven). let x : Dialogue RowsGiven = Answer (collected (feed later d)) in x) (reads-whole (rows_from c.args.statement true None))

-- no command ended
pub returns-clause-affected : goal.returns-clause-affected
returns-clause-affected c = ap (λ (items : Items RowGiving). items.giving.affected) c.rows_next.ensures
