use Rattle.std.proofs.Common.{List, ℕ, Some, Option, option_map, sym, ap, ◌∙◌}
use Rattle.std.specs.Str.Lossy.{utf8_lossy}
use Rattle.pg_errors.specs.Fields.{fields_in}
use Rattle.pg_errors.proofs.FieldLemmas.{text-of-value}
use Rattle.pg_errors.proofs.error_fields.text.Goals as goal

pub returns-in_default : goal.returns-in_default
returns-in_default c = ap (λ (o : Option (List ℕ)). option_map utf8_lossy o) c.in_default.ensures ∙ sym (text-of-value c.args.kind (fields_in c.args.body.now.fields))

pub returns : goal.returns
returns c =
    ap (λ (t : List ℕ). Some t) c.in_ok-text_of.ensures ∙ ap (λ (o : Option (List ℕ)). option_map utf8_lossy o) c.in-Some.ensures ∙ sym (text-of-value c.args.kind (fields_in c.args.body.now.fields))
