-- What was kept of the catalog last, by the calls before.
use Rattle.std.specs.Prelude.{ℕ, ◌==◌, List, [], ◌∷◌, if◌then◌else◌, Option, Some, None, Ok}
use Rattle.pg_types.specs.declared.pg_type.PgType.{PgType}
use Rattle.pg_desk.specs.declared.statement.Described.{Described as Statement}
use Rattle.pg_desk.specs.declared.statement.Lookup.{Lookup}
use Rattle.pg_desk.specs.declared.statement.Lookup.TheVariants.{Info, Enum, Composite}
use Rattle.pg_desk.specs.declared.event.Event.{Event}
use Rattle.pg_desk.specs.declared.event.CatalogCall.TheVariants.{SetType, ClearTypes, SetLookup}
use Rattle.pg_desk.specs.History.{Change, Catalogued, change_of}

-- the type of an oid behind a change, where this one was kept before
abbrev pub type_behind : Change → (oid : ℕ) → Option PgType → Option PgType
type_behind (Catalogued (SetType set ty (Ok x))) oid before = if set == oid then Some ty else before
type_behind (Catalogued (ClearTypes (Ok x))) oid before = None
type_behind _ oid before = before

-- the type of an oid that was set last, with no clear behind it; else the one that was kept before, unless there was a clear
abbrev pub last_type : List Event → (oid : ℕ) → Option PgType → Option PgType
last_type [] oid before = before
last_type (e ∷ es) oid before = last_type es oid (type_behind (change_of e) oid before)

-- the statement that looks this up behind a change, where this one was kept before
abbrev pub statement_behind : Change → Lookup → Option Statement → Option Statement
statement_behind (Catalogued (SetLookup Info s (Ok x))) Info before = Some s
statement_behind (Catalogued (SetLookup Enum s (Ok x))) Enum before = Some s
statement_behind (Catalogued (SetLookup Composite s (Ok x))) Composite before = Some s
statement_behind _ which before = before

-- the statement that looks this up which was set last, else the one that was kept before; a clear leaves it
abbrev pub last_statement : List Event → Lookup → Option Statement → Option Statement
last_statement [] which before = before
last_statement (e ∷ es) which before = last_statement es which (statement_behind (change_of e) which before)
