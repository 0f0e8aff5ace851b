-- The value of the column at a place.
use Rattle.std.proofs.Common.{◌≡◌, ℕ, List, Option, Some, None, Result, Ok, Err, sym, ap, ◌∙◌, ◌⊎◌, inl, inr, subst}
use Rattle.std.specs.Prelude.{slice_get, unwrap_or, option_map, decimal}
use denote.Bor.{Bor}
use Rattle.pg_spec.specs.Faults.{Column as NoColumn}
use Rattle.pg_types.specs.declared.fault.ValueFault.{ValueFault}
use Rattle.pg_types.specs.declared.pg_type.PgType.{PgType}
use Rattle.pg_types.specs.declared.error.Error.{Error}
use Rattle.pg_types.specs.declared.error.Error.TheVariants.{OutOfMemory}
use Rattle.pg_desk.specs.declared.column.Column.{Column}
use Rattle.pg_core.specs.Cells.{Cells, or_from_sql, value_at}
use Rattle.pg_search.specs.Given.{Gives}

-- what is read at a place, by what stands there
abbrev at-column : {A : Type 0} → (PgType → Option (List ℕ) → Result A ValueFault) → Cells → ℕ → Option Column → Result A Error
at-column {A} read cells place found = elim found as (λ _. Result A Error) [
  | None ↦ Err (NoColumn (decimal place))
  | Some column ↦ or_from_sql place (read column.type_ (unwrap_or (slice_get cells place) None))
]

-- a column is there
pub value-there : {A : Type 0} (read : PgType → Option (List ℕ) → Result A ValueFault) (columns : List Column) (cells : Cells) (place : ℕ) (column : Column) (ty : PgType) (cell : Option (Bor (List ℕ))) (r : Result A Error) →
    slice_get columns place ≡ Some column → ty ≡ column.type_ → option_map (λ b. b.now) cell ≡ unwrap_or (slice_get cells place) None →
    Gives (or_from_sql place (read ty (option_map (λ b. b.now) cell))) r → Gives (value_at read columns cells place) r
value-there {A} read columns cells place column ty cell r found typed stands h =
    let P : Result A Error → Type 0 = λ s. Gives s r in
    subst P (sym (ap (at-column read cells place) found))
    (subst (λ (t : PgType). Gives (or_from_sql place (read t (unwrap_or (slice_get cells place) None))) r) typed
    (subst (λ (o : Option (List ℕ)). Gives (or_from_sql place (read ty o)) r) stands h))

-- none is
pub value-missing : {A : Type 0} (read : PgType → Option (List ℕ) → Result A ValueFault) (columns : List Column) (cells : Cells) (place : ℕ) (e : Error) →
    slice_get columns place ≡ None → (e ≡ OutOfMemory) ⊎ (e ≡ NoColumn (decimal place)) → Gives (value_at read columns cells place) (Err e)
value-missing {A} read columns cells place e found h = elim h [
  | inl lacks ↦ inl lacks
  | inr is ↦ inr (ap (at-column read cells place) found ∙ ap (λ (x : Error). let s : Result A Error = Err x in s) (sym is))
]
