use Rattle.std.proofs.Common.{length, ap, ◌∙◌, List, false}
use Rattle.pg_desk.specs.declared.column.Column.{Column}
use Rattle.pg_core.specs.Cells.{Cells}
use Rattle.pg_core.specs.QueryReplies.{all_rows, told_by}
use Rattle.pg_search.specs.CatalogReadings.{fields_next, whole_row}
use Rattle.pg_search.proofs.fields_reading.FieldsReading.new.Goals as goal

pub returns : goal.returns
returns c =
    ap (λ (rows : List Cells). told_by (fields_next (length c.columns.result.now)) (record { bound = false; items = rows })) c.empty.ensures
    ∙ ap (λ (columns : List Column). all_rows whole_row (length columns)) c.columns.ensures
