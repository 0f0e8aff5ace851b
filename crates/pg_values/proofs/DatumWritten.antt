-- What is told of a value, from the bytes that it is sent in.
use Rattle.std.proofs.Common.{◌≡◌, ◌≢◌, inl, inr, ℕ, Bool, true, false, if◌then◌else◌, List, length, take, Option, Some, None, Result, Ok, Err, ap, refl, sym, ◌∙◌, subst}
use Rattle.std.proofs.lemmas.List.{take_at}
use Rattle.pg_types.specs.declared.fault.ValueFault.{ValueFault}
use Rattle.pg_types.specs.declared.fault.ValueFault.TheVariants as fault
use Rattle.pg_types.specs.declared.fault.RustType.TheVariants as rust
use Rattle.pg_types.specs.declared.format.IsNull.TheVariants as null
use Rattle.pg_types.specs.declared.pg_type.PgType.{PgType}
use Rattle.pg_types.specs.Values.{Given, Writes, write_may_lack, wrong_type}
use Rattle.pg_values.specs.declared.datum.Datum as d
use Rattle.pg_values.specs.declared.datum.Datum.{Datum}
use Rattle.pg_values.specs.Supported.{is_supported}
use Rattle.pg_values.specs.Sending.{datum_gives, supported_gives, is_null, kind_send, or_bad}
use Rattle.pg_values.specs.Writing.{Begins, WritesSent}
use Rattle.pg_values.proofs.SentCases.{null_isnt}

-- what it gives
wrong_is : (ty : PgType) (v : Datum) → is_supported ty ≡ false → datum_gives ty v ≡ Err (fault.WrongType (wrong_type ty.oid rust.Other))
wrong_is ty v isnt = ap (λ (b : Bool). if b then supported_gives ty v else Err (fault.WrongType (wrong_type ty.oid rust.Other))) isnt

supported_is : (ty : PgType) (v : Datum) → is_supported ty ≡ true → datum_gives ty v ≡ supported_gives ty v
supported_is ty v so = ap (λ (b : Bool). if b then supported_gives ty v else Err (fault.WrongType (wrong_type ty.oid rust.Other))) so

some_given : (ty : PgType) (v : Datum) → is_supported ty ≡ true → v ≢ d.Null → datum_gives ty v ≡ or_bad (kind_send ty.oid ty.kind v)
some_given ty v so some = supported_is ty v so ∙ ap (λ (b : Bool). if b then Ok None else or_bad (kind_send ty.oid ty.kind v)) (null_isnt v some)

pub wrong_written : (ty : PgType) (v : Datum) (old : List ℕ) (oid : ℕ) → oid ≡ ty.oid → is_supported ty ≡ false
    → Writes true (datum_gives ty v) old old (Err (fault.WrongType (wrong_type oid rust.Other)))
wrong_written ty v old oid e isnt = (inr (wrong_is ty v isnt ∙ ap (λ (n : ℕ). Err (fault.WrongType (wrong_type n rust.Other))) (sym e)), refl)

pub null_written : (ty : PgType) (v : Datum) (old : List ℕ) → is_supported ty ≡ true → v ≡ d.Null → Writes true (datum_gives ty v) old old (Ok null.Yes)
null_written ty v old so is = (supported_is ty v so ∙ ap (λ (b : Bool). if b then Ok None else or_bad (kind_send ty.oid ty.kind v)) (ap is_null is), refl)

pub ok_written : (ty : PgType) (v : Datum) (old new : List ℕ) (r : Result (Unit {0}) ValueFault) (x : Unit {0}) → r ≡ Ok x → is_supported ty ≡ true → v ≢ d.Null
    → WritesSent (kind_send ty.oid ty.kind v) old new r → Writes true (datum_gives ty v) old new (Ok null.No)
ok_written ty v old new r x e so some wrote =
    let w = subst (λ (q : Result (Unit {0}) ValueFault). WritesSent (kind_send ty.oid ty.kind v) old new q) e wrote in
    (w.0, some_given ty v so some ∙ ap or_bad w.1, w.2)

-- cut back, it is as before
cut_back : (old mid new : List ℕ) → Begins old mid → new ≡ take (length old) mid → new ≡ old
cut_back old mid new begins e = e ∙ ap (λ (l : List ℕ). take (length old) l) begins.behind ∙ take_at old begins.more (length old) refl

-- memory may lack, whether it has bytes or not
may_lack_of : (sent : Option (List ℕ)) → write_may_lack true (or_bad sent) ≡ true
may_lack_of None = refl
may_lack_of (Some bytes) = refl

err_cases : (ty : PgType) (v : Datum) (old mid new : List ℕ) (f : ValueFault) → new ≡ take (length old) mid → is_supported ty ≡ true → v ≢ d.Null
    → WritesSent {A = Unit {0}} (kind_send ty.oid ty.kind v) old mid (Err f) → Writes true (datum_gives ty v) old new (Err f)
err_cases ty v old mid new fault.BadValue e so some wrote = (inr (some_given ty v so some ∙ ap or_bad wrote.0), cut_back old mid new wrote.1 e)
err_cases ty v old mid new fault.OutOfMemory e so some wrote =
    (inl (ap (write_may_lack true) (some_given ty v so some) ∙ may_lack_of (kind_send ty.oid ty.kind v), refl), cut_back old mid new wrote e)
err_cases ty v old mid new fault.WasNull e so some wrote = absurd wrote
err_cases ty v old mid new (fault.WrongType wrong) e so some wrote = absurd wrote

pub err_written : (ty : PgType) (v : Datum) (old mid new : List ℕ) (len : ℕ) (r : Result (Unit {0}) ValueFault) (f : ValueFault) → r ≡ Err f → len ≡ length old → new ≡ take len mid
    → is_supported ty ≡ true → v ≢ d.Null → WritesSent (kind_send ty.oid ty.kind v) old mid r → Writes true (datum_gives ty v) old new (Err f)
err_written ty v old mid new len r f e size cut so some wrote =
    err_cases ty v old mid new f (cut ∙ ap (λ (n : ℕ). take n mid) size) so some
    (subst (λ (q : Result (Unit {0}) ValueFault). WritesSent (kind_send ty.oid ty.kind v) old mid q) e wrote)
