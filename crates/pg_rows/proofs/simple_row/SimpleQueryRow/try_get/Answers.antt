use Rattle.std.proofs.Common.{◌≡◌, List, map, Some, sym, ap, ◌∙◌}
use Rattle.pg_rows.specs.declared.simple_column.SimpleColumn.{SimpleColumn}
use Rattle.pg_rows.specs.Places.{place_of}
use Rattle.pg_rows.specs.Rows.{RowOf, cell_at}
use Rattle.pg_rows.specs.Values.{simple_place_in}
use Rattle.pg_rows.proofs.Got.{simple-row-got}
use Rattle.pg_rows.proofs.simple_row.SimpleQueryRow.try_get.Goals as goal

pub returns : goal.returns
returns c =
    let row = c.args.self.now in
    let place = c.in-Some.place in
    let columns : c.as_slice.result.now ≡ row.columns = c.as_slice.ensures ∙ ap (λ (r : RowOf SimpleColumn). r.columns) c.self.view_is in
    let meant : simple_place_in row c.args.index ≡ Some place = ap (λ (l : List SimpleColumn). place_of c.args.index (map (λ (k : SimpleColumn). k.name) l)) (sym columns) ∙ sym c.in-Some.ensures in
    simple-row-got row c.args.index place _ c.text.result c.answer_at.result meant
    (c.cell.ensures ∙ ap (λ (r : RowOf SimpleColumn). cell_at r.cells place) c.self.view_is) c.text.ensures c.answer_at.ensures
