use Rattle.std.proofs.Common.{sym, ap, ◌∙◌, ◌∷◌}
use Rattle.pg_scram.specs.Challenge.{three_of}
use Rattle.pg_scram.proofs.FieldLaws.{not_three}
use Rattle.pg_scram.proofs.fields.three_fields.Goals as goal

pub returns-in-Some-cut_at_comma-2 : goal.returns-in-Some-cut_at_comma-2
returns-in-Some-cut_at_comma-2 c =
    let first = c.in-Some.first.now in
    let second = c.in-Some-cut_at_comma.second.now in
    let cut = c.in-Some-cut_at_comma-2.field-0 in
    let third = c.in-Some-cut_at_comma-2.ensures in
    let rest = c.in-Some-cut_at_comma.ensures ∙ ap (λ l. second ∷ l) third in
    let whole = c.in-Some.ensures ∙ ap (λ l. first ∷ l) rest in
    sym (ap three_of whole ∙ not_three first second cut.0.now cut.1.now)
