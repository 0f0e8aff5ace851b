-- What a desk keeps of the server's catalog: types that were found, and the statements that look types up.
use Rattle.std.specs.Prelude.{◌≡◌, ℕ, ◌==◌, List, [], ◌∷◌, ◌++◌, Bool, true, false, if◌then◌else◌, Option, Some, None, IsSome, Result, Ok, Err}
use Rattle.pg_types.specs.declared.pg_type.PgType.{PgType}
use Rattle.pg_desk.specs.declared.statement.Described.{Described as Statement}
use Rattle.pg_desk.specs.declared.event.FoundType.{FoundType}
use Rattle.pg_desk.specs.declared.statement.Lookup.{Lookup}
use Rattle.pg_desk.specs.declared.statement.Lookup.TheVariants.{Info, Enum, Composite}
use Rattle.pg_desk.specs.declared.event.DeskFault.{DeskFault}
use Rattle.pg_desk.specs.declared.event.DeskFault.TheVariants.{Closed, Encode, OutOfMemory}
use Rattle.pg_desk.specs.declared.event.CatalogCall.{CatalogCall}
use Rattle.pg_desk.specs.declared.event.CatalogCall.TheVariants.{TypeOf, SetType, ClearTypes, LookupOf, SetLookup}

-- what is kept
pub record Catalog : Type 0 where
  -- the types that were set since the last clear, in order
  pub types : List FoundType
  -- the statement that looks each up
  pub info : Option Statement
  pub enum_ : Option Statement
  pub composite : Option Statement

-- nothing yet
abbrev pub nothing_kept : Catalog
nothing_kept = record { types = []; info = None; enum_ = None; composite = None }

-- this one where it is of this oid, unless there is a later one
abbrev pub unless_later : FoundType → ℕ → Option PgType → Option PgType
unless_later f oid (Some later) = Some later
unless_later f oid None = if f.oid == oid then Some f.type_ else None

-- the type of an oid: the last one that was set
abbrev pub last_of : ℕ → List FoundType → Option PgType
last_of oid [] = None
last_of oid (f ∷ fs) = unless_later f oid (last_of oid fs)

-- the type that is kept of an oid
abbrev pub type_kept : Catalog → ℕ → Option PgType
type_kept k oid = last_of oid k.types

-- the statement that is kept to look this up
abbrev pub statement_kept : Catalog → Lookup → Option Statement
statement_kept k Info = k.info
statement_kept k Enum = k.enum_
statement_kept k Composite = k.composite

-- this statement is kept
abbrev pub keeps_statement : Catalog → Lookup → Statement → Catalog
keeps_statement k Info s = record k { info = Some s }
keeps_statement k Enum s = record k { enum_ = Some s }
keeps_statement k Composite s = record k { composite = Some s }

-- the type of this oid is kept
abbrev pub keeps_type : Catalog → ℕ → PgType → Catalog
keeps_type k oid ty = record k { types = k.types ++ record { oid = oid; type_ = ty } ∷ [] }

-- what is kept after a call; one that is refused changes nothing, and a clear leaves the statements
abbrev pub after_catalog : Catalog → CatalogCall → Catalog
after_catalog k (SetType oid ty (Ok x)) = keeps_type k oid ty
after_catalog k (ClearTypes (Ok x)) = record k { types = [] }
after_catalog k (SetLookup which s (Ok x)) = keeps_statement k which s
after_catalog k _ = k

-- Closed comes exactly after the hub failed, and a counter is no fault here.
abbrev pub AllowsUnlessFailed : {A : Type 0} → Bool → (A → Type 0) → Result A DeskFault → Type 0
AllowsUnlessFailed failed P (Ok x) = (failed ≡ false) × P x
AllowsUnlessFailed failed P (Err Closed) = failed ≡ true
AllowsUnlessFailed failed P (Err Encode) = ⊥
AllowsUnlessFailed failed P (Err OutOfMemory) = Unit {0}

-- whether an answer follows from what is kept
abbrev pub AllowsCatalog : Bool → Catalog → CatalogCall → Type 0
AllowsCatalog failed k (TypeOf oid r) = AllowsUnlessFailed failed (λ found. found ≡ type_kept k oid) r
AllowsCatalog failed k (SetType oid ty r) = AllowsUnlessFailed failed (λ x. Unit {0}) r
AllowsCatalog failed k (ClearTypes r) = AllowsUnlessFailed failed (λ x. Unit {0}) r
AllowsCatalog failed k (LookupOf which r) = AllowsUnlessFailed failed (λ found. found ≡ statement_kept k which) r
AllowsCatalog failed k (SetLookup which s r) = AllowsUnlessFailed failed (λ x. Unit {0}) r

-- Over a desk that stores nothing, want of memory comes only where a copy is made.
abbrev pub NeedsCatalog : Bool → Catalog → CatalogCall → Type 0
NeedsCatalog failed k (TypeOf oid (Err OutOfMemory)) = (failed ≡ false) × IsSome (type_kept k oid)
NeedsCatalog failed k (SetType oid ty (Err OutOfMemory)) = failed ≡ false
NeedsCatalog failed k (ClearTypes (Err OutOfMemory)) = ⊥
NeedsCatalog failed k (LookupOf which (Err OutOfMemory)) = (failed ≡ false) × IsSome (statement_kept k which)
NeedsCatalog failed k (SetLookup which s (Err OutOfMemory)) = failed ≡ false
NeedsCatalog failed k _ = Unit {0}

-- it leaves an event in a list that is stored
abbrev pub leaves_catalog : CatalogCall → Bool
leaves_catalog (TypeOf oid (Err OutOfMemory)) = false
leaves_catalog (SetType oid ty (Err OutOfMemory)) = false
leaves_catalog (ClearTypes (Err OutOfMemory)) = false
leaves_catalog (LookupOf which (Err OutOfMemory)) = false
leaves_catalog (SetLookup which s (Err OutOfMemory)) = false
leaves_catalog _ = true
