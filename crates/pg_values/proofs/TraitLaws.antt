-- What the clauses of `ToSql` and `FromSql` tell of a value is what those of `write_datum` and `read_datum` do.
use Rattle.std.proofs.Common.{◌≡◌, ◌≢◌, inl, inr, ℕ, Bool, true, false, if◌then◌else◌, List, Option, Some, None, Result, Ok, Err, ap, refl, sym, ◌∙◌, subst}
use Rattle.pg_types.specs.declared.fault.RustType.TheVariants as rust
use Rattle.pg_types.specs.declared.fault.ValueFault.{ValueFault}
use Rattle.pg_types.specs.declared.fault.ValueFault.TheVariants as fault
use Rattle.pg_types.specs.declared.fault.WrongType.{WrongType}
use Rattle.pg_types.specs.declared.format.IsNull.{IsNull}
use Rattle.pg_types.specs.declared.format.IsNull.TheVariants as null
use Rattle.pg_types.specs.declared.pg_type.PgType.{PgType}
use Rattle.pg_types.specs.Values.{Given, Reads, Writes, checked, write_may_lack, wrong_type}
use Rattle.pg_values.specs.declared.datum.Datum as d
use Rattle.pg_values.specs.declared.datum.Datum.{Datum}
use Rattle.pg_values.specs.Reading.{ReadsDatum, RefusesDatum}
use Rattle.pg_values.specs.Spelling.{SpellsKind, spells}
use Rattle.pg_values.specs.Supported.{is_supported}
use Rattle.pg_values.specs.Writing.{GivesDatum, IsWrittenAs, WritesDatum}
use Rattle.pg_values.specs.Sending.{datum_gives, supported_gives, is_null, kind_send, or_bad}
use Rattle.pg_values.proofs.PlainLaws.{kind_some, read_again}
use Rattle.pg_values.proofs.SentCases.{null_is, some_is}
use Rattle.pg_values.proofs.SentForms.{kind_formed}
use Rattle.pg_values.proofs.UnsentForms.{kind_unsent}
use Rattle.pg_values.proofs.SingleValue.{kind_single}

-- ---- writing

-- a value that has bytes isn't null
has_value : (v : Datum) (ty : PgType) (bytes : List ℕ) → IsWrittenAs ty v bytes → v ≢ d.Null
has_value v ty bytes is e = kind_some ty.oid ty.kind bytes (subst (λ (w : Datum). SpellsKind false ty.oid ty.kind w bytes) e is.again.spelled)

-- what a value gives is in its form
some_gives : (v : Datum) (ty : PgType) → is_supported ty ≡ true → is_null v ≡ false → (sent : Option (List ℕ)) → kind_send ty.oid ty.kind v ≡ sent → GivesDatum v ty (or_bad sent)
some_gives v ty so some (Some bytes) e =
    let written : SpellsKind true ty.oid ty.kind v bytes = kind_formed ty.oid ty.kind v bytes e in
    record { written = written; again = read_again ty v bytes so written }
some_gives v ty so some None e = record { supported = so; some = some_is v some; none = kind_unsent ty.oid ty.kind v e }

supported_is : (v : Datum) (ty : PgType) → is_supported ty ≡ true → (b : Bool) → is_null v ≡ b → GivesDatum v ty (if b then Ok None else or_bad (kind_send ty.oid ty.kind v))
supported_is v ty so true e = (so, null_is v e)
supported_is v ty so false e = some_gives v ty so e (kind_send ty.oid ty.kind v) refl

pub gives_so : (v : Datum) (ty : PgType) → GivesDatum v ty (datum_gives ty v)
gives_so v ty = go (is_supported ty) refl
  where
    go : (b : Bool) → is_supported ty ≡ b → GivesDatum v ty (if b then supported_gives ty v else Err (fault.WrongType (wrong_type ty.oid rust.Other)))
    go true e = supported_is v ty e (is_null v) refl
    go false e = record { unsupported = e; named = refl }

-- where memory may lack, there is a value to be written
lacks_for : (v : Datum) (ty : PgType) (given : Given) → GivesDatum v ty given → write_may_lack true given ≡ true → (is_supported ty ≡ true) × (v ≢ d.Null)
lacks_for v ty (Ok (Some bytes)) is lack = (is.again.supported, has_value v ty bytes is)
lacks_for v ty (Ok None) is lack = absurd (cc lack)
lacks_for v ty (Err fault.BadValue) is lack = (is.supported, is.some)
lacks_for v ty (Err fault.OutOfMemory) is lack = absurd (cc lack)
lacks_for v ty (Err fault.WasNull) is lack = absurd (cc lack)
lacks_for v ty (Err (fault.WrongType wrong)) is lack = absurd (cc lack)

fault_told : (v : Datum) (ty : PgType) (old new : List ℕ) (f : ValueFault) → GivesDatum v ty (Err f) → new ≡ old → WritesDatum ty v old new (Err f)
fault_told v ty old new (fault.WrongType wrong) is e = (is, e)
fault_told v ty old new fault.BadValue is e = (is, e)
fault_told v ty old new fault.OutOfMemory is e = absurd is
fault_told v ty old new fault.WasNull is e = absurd is

lack_told : (v : Datum) (ty : PgType) (old new : List ℕ) (f : ValueFault) → f ≡ fault.OutOfMemory → (is_supported ty ≡ true) × (v ≢ d.Null) → new ≡ old → WritesDatum ty v old new (Err f)
lack_told v ty old new f lacks is e = subst (λ (g : ValueFault). WritesDatum ty v old new (Err g)) (sym lacks) (is.0, is.1, e)

pub writes_datum : (v : Datum) (ty : PgType) (old new : List ℕ) (r : Result IsNull ValueFault) → Writes true (datum_gives ty v) old new r → WritesDatum ty v old new r
writes_datum v ty old new (Ok null.No) w =
    let is : IsWrittenAs ty v w.0 = subst (GivesDatum v ty) w.1 (gives_so v ty) in
    record { bytes = w.0; written = is.written; again = is.again; behind = w.2 }
writes_datum v ty old new (Ok null.Yes) w =
    let is : (is_supported ty ≡ true) × (v ≡ d.Null) = subst (GivesDatum v ty) w.0 (gives_so v ty) in
    (is.0, is.1, w.1)
writes_datum v ty old new (Err f) (inl lack, e) = lack_told v ty old new f lack.1 (lacks_for v ty (datum_gives ty v) (gives_so v ty) lack.0) e
writes_datum v ty old new (Err f) (inr own, e) = fault_told v ty old new f (subst (GivesDatum v ty) own (gives_so v ty)) e

checked_gives : (v : Datum) (ty : PgType) → checked (is_supported ty) ty.oid rust.Other (datum_gives ty v) ≡ datum_gives ty v
checked_gives v ty = go (is_supported ty)
  where
    wrong : Given
    wrong = Err (fault.WrongType (wrong_type ty.oid rust.Other))

    go : (b : Bool) → (if b then (if b then supported_gives ty v else wrong) else wrong) ≡ (if b then supported_gives ty v else wrong)
    go true = refl
    go false = refl

pub checked_writes : (v : Datum) (ty : PgType) (old new : List ℕ) (r : Result IsNull ValueFault)
    → Writes true (checked (is_supported ty) ty.oid rust.Other (datum_gives ty v)) old new r → WritesDatum ty v old new r
checked_writes v ty old new r w = writes_datum v ty old new r (subst (λ (given : Given). Writes true given old new r) (checked_gives v ty) w)

pub writes_checked : (v : Datum) (ty : PgType) (old new : List ℕ) (r : Result IsNull ValueFault)
    → Writes true (datum_gives ty v) old new r → Writes true (checked (is_supported ty) ty.oid rust.Other (datum_gives ty v)) old new r
writes_checked v ty old new r w = subst (λ (given : Given). Writes true given old new r) (sym (checked_gives v ty)) w

pub null_gives : (ty : PgType) → is_supported ty ≡ true → datum_gives ty d.Null ≡ Ok None
null_gives ty so = ap (λ (b : Bool). if b then supported_gives ty d.Null else Err (fault.WrongType (wrong_type ty.oid rust.Other))) so

-- ---- reading

single : (ty : PgType) (raw : Option (List ℕ)) (v w : Datum) → spells false ty v raw → spells false ty w raw → v ≡ w
single ty None v w a b = a ∙ sym b
single ty (Some bytes) v w a b = kind_single ty.oid ty.kind v w bytes a b

abbrev pub ReadsOne : PgType → Option (List ℕ) → Result Datum ValueFault → Type 0
ReadsOne ty raw r = Reads true (λ (bytes : Option (List ℕ)) (v : Datum). spells false ty v bytes) (RefusesDatum ty) raw r

pub reads_one : (ty : PgType) (raw : Option (List ℕ)) (r : Result Datum ValueFault) → ReadsDatum ty raw r → ReadsOne ty raw r
reads_one ty raw (Ok v) is = (is.supported, is.spelled)
reads_one ty raw (Err (fault.WrongType wrong)) is = inr is
reads_one ty raw (Err fault.BadValue) is = inr is
reads_one ty raw (Err fault.OutOfMemory) is = inl (is.1, refl)
reads_one ty raw (Err fault.WasNull) is = absurd is

pub reads_datum : (ty : PgType) (raw : Option (List ℕ)) (r : Result Datum ValueFault) → is_supported ty ≡ true → ReadsOne ty raw r → ReadsDatum ty raw r
reads_datum ty raw (Ok v) supported is = record { supported = supported; spelled = is.1; only = λ w also. single ty raw w v also is.1 }
reads_datum ty raw (Err (fault.WrongType wrong)) supported (inl lack) = absurd (cc lack.1)
reads_datum ty raw (Err (fault.WrongType wrong)) supported (inr own) = own
reads_datum ty raw (Err fault.BadValue) supported (inl lack) = absurd (cc lack.1)
reads_datum ty raw (Err fault.BadValue) supported (inr own) = own
reads_datum ty raw (Err fault.OutOfMemory) supported (inl lack) = (supported, lack.0)
reads_datum ty raw (Err fault.OutOfMemory) supported (inr own) = absurd own
reads_datum ty raw (Err fault.WasNull) supported (inl lack) = absurd (cc lack.1)
reads_datum ty raw (Err fault.WasNull) supported (inr own) = absurd own

-- what was given is read back
pub reads_back : (v : Datum) (ty : PgType) (bytes : List ℕ) → datum_gives ty v ≡ Ok (Some bytes)
    → RefusesDatum ty (Some bytes) None × spells false ty v (Some bytes) × ((w : Datum) → spells false ty w (Some bytes) → w ≡ v)
reads_back v ty bytes e =
    let is : IsWrittenAs ty v bytes = subst (GivesDatum v ty) e (gives_so v ty) in
    (is.again.supported, is.again.spelled, is.again.only)
