use Rattle.std.proofs.Common.{sym, ◌∙◌, rules, tests}
use Rattle.std.specs.Str.{str_eq_ignore_ascii_case}
use Rattle.std.proofs.lemmas.Iterator.{YieldsList-from_slice}
use Rattle.std.proofs.lemmas.Iterator.Search.{position_from_yields_List}
use Rattle.pg_rows.proofs.Found.{position-map}
use Rattle.pg_rows.proofs.row_index.place_in_any_case.Goals as goal

pub returns : goal.returns
returns g c =
    position_from_yields_List (λ x. str_eq_ignore_ascii_case (g.C.AsName.name x) c.args.name.now) _ _ c.position.result c.position.ensures.ran (YieldsList-from_slice _ c.iter.ensures.rest) (λ x b q k. search (rules, tests))
    ∙ sym (position-map (λ n. str_eq_ignore_ascii_case n c.args.name.now) g.C.AsName.name c.args.columns.now)
