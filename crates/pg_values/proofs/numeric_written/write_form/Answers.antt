use Rattle.std.proofs.Common.{◌≡◌, List, ℕ, pos, true, false, sym, subst}
use Rattle.pg_values.specs.Groups.{head_bytes}
use Rattle.pg_values.specs.Numerics.{SpellsNumeric}
use Rattle.pg_values.specs.Writing.{WritesAs}
use Rattle.pg_values.specs.declared.datum.Datum as d
use Rattle.pg_values.specs.declared.datum.Datum.{Datum}
use Rattle.pg_values.proofs.GroupLaws.{fills_as, nan_bytes}
use Rattle.pg_values.proofs.numeric_written.write_form.Goals as goal

pub returns-in-NotANumber : goal.returns-in-NotANumber
returns-in-NotANumber c =
    subst (λ (v : Datum). WritesAs (SpellsNumeric true v) (SpellsNumeric false v) c.args.out.now.items c.put_head.new.out.items c.put_head.result) (sym c.in-NotANumber.is)
    (fills_as (λ (b : List ℕ). b ≡ head_bytes 0 (pos 0) 49152 0) (SpellsNumeric true d.NotANumber) (SpellsNumeric false d.NotANumber) c.args.out.now.items c.put_head.new.out.items
    c.put_head.result nan_bytes c.put_head.ensures)
