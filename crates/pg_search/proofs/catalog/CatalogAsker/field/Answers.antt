use Rattle.pg_core.specs.Lookups.{field_row}
use Rattle.pg_search.proofs.catalog.CatalogAsker.field.Goals as goal

pub returns : goal.returns
returns c = c.settled.ensures (field_row c.args.columns.now c.args.cells.now) c.field_row.ensures
