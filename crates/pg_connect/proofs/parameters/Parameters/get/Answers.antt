use Rattle.std.proofs.Common.{sym, ap, ◌∙◌, string_bytes, option_map, Some}
use Rattle.std.specs.Cmp.Lexicographic.{slice_cmp}
use Rattle.std.specs.Ordering.{nat_cmp, is_eq}
use Rattle.pg_connect.specs.Kept.{value_of}
use Rattle.pg_connect.proofs.Keeping.{lookup-map}
use Rattle.pg_connect.proofs.parameters.Parameters.get.Goals as goal

pub returns-in-Some : goal.returns-in-Some
returns-in-Some c =
    let name = c.args.name.now in
    ap Some c.as_str.ensures.value ∙ ap (option_map string_bytes) c.in-Some.ensures.value
    ∙ sym (lookup-map string_bytes string_bytes (λ kept. is_eq (slice_cmp nat_cmp name kept)) c.self.inside.last.entries)
    ∙ ap (λ pairs. value_of pairs name) c.self.view_is

pub returns-in-None : goal.returns-in-None
returns-in-None c =
    let name = c.args.name.now in
    ap (option_map string_bytes) c.in-None.ensures.value
    ∙ sym (lookup-map string_bytes string_bytes (λ kept. is_eq (slice_cmp nat_cmp name kept)) c.self.inside.last.entries)
    ∙ ap (λ pairs. value_of pairs name) c.self.view_is
