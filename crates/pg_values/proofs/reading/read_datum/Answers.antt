use Rattle.std.proofs.Common.{◌≡◌, ℕ, List, true, false, Option, Some, option_map, Result, Ok, Err, ap, refl, sym, ◌∙◌, subst}
use Rattle.pg_types.specs.declared.fault.ValueFault.{ValueFault}
use Rattle.pg_types.specs.declared.fault.ValueFault.TheVariants as fault
use Rattle.pg_types.specs.declared.pg_type.PgType.{PgType}
use Rattle.pg_values.specs.declared.datum.Datum.{Datum}
use Rattle.pg_values.specs.Supported.{is_supported}
use Rattle.pg_values.specs.Spelling.{SpellsKind}
use Rattle.pg_values.specs.Reading.{ReadsAs, ReadsDatum}
use Rattle.pg_values.proofs.SingleValue.{kind_single}
use Rattle.pg_values.proofs.reading.read_datum.Goals as goal

reads : (ty : PgType) (raw : List ℕ) (r : Result Datum ValueFault) → is_supported ty ≡ true → ReadsAs (λ (v : Datum). SpellsKind false ty.oid ty.kind v raw) r → ReadsDatum ty (Some raw) r
reads ty raw (Ok v) supported is = record { supported = supported; spelled = is; only = λ w also. kind_single ty.oid ty.kind w v raw also is }
reads ty raw (Err fault.BadValue) supported none = record { supported = supported; none = none }
reads ty raw (Err fault.OutOfMemory) supported is = (supported, refl)
reads ty raw (Err (fault.WrongType wrong)) supported is = absurd is
reads ty raw (Err fault.WasNull) supported is = absurd is

pub returns-in-Some : goal.returns-in-Some
returns-in-Some c =
    subst (λ (raw : Option (List ℕ)). ReadsDatum c.args.ty.now raw c.read_bytes.result) (sym (ap (option_map (λ r. r.now)) c.in-Some.is))
    (reads c.args.ty.now c.in-Some.raw.now c.read_bytes.result (sym c.is_supported.ensures ∙ c.if-not-is_supported.false) c.read_bytes.ensures)
