use Rattle.std.proofs.Common.{◌≡◌, ◌<◌, List, length, map, Some, refl, sym, ap, subst, ◌∙◌}
use Rattle.std.specs.Prelude.{slice_get, slice_index_or}
use Rattle.std.proofs.lemmas.Option.{slice_get_read}
use Rattle.pg_desk.specs.declared.column.Column.{Column}
use Rattle.pg_rows.specs.Places.{place_of}
use Rattle.pg_rows.specs.Rows.{RowOf, cell_at}
use Rattle.pg_rows.specs.Values.{ReadsUnder, place_in}
use Rattle.pg_rows.proofs.Found.{column-within}
use Rattle.pg_rows.proofs.Got.{row-got}
use Rattle.pg_rows.proofs.row.Row.try_get.Goals as goal

pub returns : goal.returns
returns g c =
    let row = c.args.self.now in
    let place = c.in-Some.place in
    let column : Column = c.index-columns-place.result in
    let columns : c.columns-columns.result.now ≡ row.columns = c.columns-columns.ensures ∙ ap (λ (r : RowOf Column). r.columns) c.self.view_is in
    let meant : place_in row c.args.index ≡ Some place = ap (λ (l : List Column). place_of c.args.index (map (λ (k : Column). k.name) l)) (sym columns) ∙ sym c.in-Some.ensures in
    let bound : place < length row.columns = column-within (λ (k : Column). k.name) c.args.index row.columns place meant in
    let there : slice_get row.columns place ≡ Some column =
    slice_get_read row.columns (length row.columns) place column refl bound (subst (λ (l : List Column). column ≡ slice_index_or l place column) columns c.index-columns-place.is) in
    row-got (ReadsUnder g.T.FromSql.owns_memory g.T.FromSql.stands_for g.T.FromSql.spelled g.T.FromSql.refused) row c.args.index place column _ _ c.value_of.result c.answer_at.result
    meant there c.type_-ty.ensures (c.cell.ensures ∙ ap (λ (r : RowOf Column). cell_at r.cells place) c.self.view_is) c.value_of.ensures c.answer_at.ensures
