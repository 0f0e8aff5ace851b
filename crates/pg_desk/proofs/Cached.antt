-- What a desk tells of the catalog is what was kept last.
use Rattle.std.proofs.Common.{◌≡◌, ℕ, ◌==◌, List, [], ◌∷◌, ◌++◌, Bool, true, false, if◌then◌else◌, Option, Some, None, Ok, refl, ◌∙◌, ap}
use Rattle.pg_types.specs.declared.pg_type.PgType.{PgType}
use Rattle.pg_desk.specs.declared.statement.Described.{Described as Statement}
use Rattle.pg_desk.specs.declared.statement.Lookup.{Lookup}
use Rattle.pg_desk.specs.declared.statement.Lookup.TheVariants.{Info, Enum, Composite}
use Rattle.pg_desk.specs.declared.event.FoundType.{FoundType}
use Rattle.pg_desk.specs.declared.event.CatalogCall.TheVariants.{TypeOf, SetType, ClearTypes, LookupOf, SetLookup}
use Rattle.pg_desk.specs.declared.event.Event.{Event}
use Rattle.pg_desk.specs.declared.event.Event.TheVariants.{Catalog as CatalogEvent}
use Rattle.pg_desk.specs.Catalog.{last_of, unless_later, type_kept, statement_kept}
use Rattle.pg_desk.specs.Cached.{type_behind, last_type, statement_behind, last_statement}
use Rattle.pg_desk.specs.Kept.{legal-later}
use Rattle.pg_desk.specs.History.{State, Change, Catalogued, change_of, changed, start, after, after_all, IsLegal}

-- the last of a list is the one that was added to its end, where it is of this oid
pub last-more : (oid : ℕ) (fs : List FoundType) (f : FoundType) → last_of oid (fs ++ f ∷ []) ≡ (if f.oid == oid then Some f.type_ else last_of oid fs)
last-more oid [] f = refl
last-more oid (g ∷ fs) f = ap (unless_later g oid) (last-more oid fs f) ∙ by (f.oid == oid)
  where
    by : (b : Bool) → unless_later g oid (if b then Some f.type_ else last_of oid fs) ≡ (if b then Some f.type_ else unless_later g oid (last_of oid fs))
    by true = refl
    by false = refl

type-one : (s : State) (c : Change) (oid : ℕ) → type_kept (changed s c).catalog oid ≡ type_behind c oid (type_kept s.catalog oid)
type-one s (Catalogued (SetType set ty (Ok x))) oid = last-more oid s.catalog.types (record { oid = set; type_ = ty })
type-one s (Catalogued (ClearTypes (Ok x))) oid = refl
type-one s (Catalogued (SetLookup Info t (Ok x))) oid = refl
type-one s (Catalogued (SetLookup Enum t (Ok x))) oid = refl
type-one s (Catalogued (SetLookup Composite t (Ok x))) oid = refl
type-one s c oid = refl

type-all : (oid : ℕ) (es : List Event) (s : State) → type_kept (after_all s es).catalog oid ≡ last_type es oid (type_kept s.catalog oid)
type-all oid [] s = refl
type-all oid (e ∷ es) s = type-all oid es (after s e) ∙ ap (last_type es oid) (type-one s (change_of e) oid)

statement-one : (s : State) (c : Change) (which : Lookup) → statement_kept (changed s c).catalog which ≡ statement_behind c which (statement_kept s.catalog which)
statement-one s (Catalogued (SetLookup Info t (Ok x))) Info = refl
statement-one s (Catalogued (SetLookup Info t (Ok x))) Enum = refl
statement-one s (Catalogued (SetLookup Info t (Ok x))) Composite = refl
statement-one s (Catalogued (SetLookup Enum t (Ok x))) Info = refl
statement-one s (Catalogued (SetLookup Enum t (Ok x))) Enum = refl
statement-one s (Catalogued (SetLookup Enum t (Ok x))) Composite = refl
statement-one s (Catalogued (SetLookup Composite t (Ok x))) Info = refl
statement-one s (Catalogued (SetLookup Composite t (Ok x))) Enum = refl
statement-one s (Catalogued (SetLookup Composite t (Ok x))) Composite = refl
statement-one s (Catalogued (SetType set ty (Ok x))) Info = refl
statement-one s (Catalogued (SetType set ty (Ok x))) Enum = refl
statement-one s (Catalogued (SetType set ty (Ok x))) Composite = refl
statement-one s (Catalogued (ClearTypes (Ok x))) Info = refl
statement-one s (Catalogued (ClearTypes (Ok x))) Enum = refl
statement-one s (Catalogued (ClearTypes (Ok x))) Composite = refl
statement-one s c which = refl

statement-all : (which : Lookup) (es : List Event) (s : State) → statement_kept (after_all s es).catalog which ≡ last_statement es which (statement_kept s.catalog which)
statement-all which [] s = refl
statement-all which (e ∷ es) s = statement-all which es (after s e) ∙ ap (last_statement es which) (statement-one s (change_of e) which)

-- a type that is told at the end of a legal list
pub told-type : (n m : ℕ) (es : List Event) (oid : ℕ) (found : Option PgType) → IsLegal (start n m) (es ++ CatalogEvent (TypeOf oid (Ok found)) ∷ []) → found ≡ last_type es oid None
told-type n m es oid found l = (legal-later (start n m) es (CatalogEvent (TypeOf oid (Ok found)) ∷ []) l).0.1 ∙ type-all oid es (start n m)

none-kept : (which : Lookup) (es : List Event) (n m : ℕ) → last_statement es which (statement_kept (start n m).catalog which) ≡ last_statement es which None
none-kept Info es n m = refl
none-kept Enum es n m = refl
none-kept Composite es n m = refl

-- a statement that is told there
pub told-statement : (n m : ℕ) (es : List Event) (which : Lookup) (found : Option Statement) → IsLegal (start n m) (es ++ CatalogEvent (LookupOf which (Ok found)) ∷ []) → found ≡ last_statement es which None
told-statement n m es which found l =
    (legal-later (start n m) es (CatalogEvent (LookupOf which (Ok found)) ∷ []) l).0.1 ∙ statement-all which es (start n m) ∙ none-kept which es n m
