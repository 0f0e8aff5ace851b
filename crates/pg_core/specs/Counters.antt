-- What a desk tells of its counters and of the catalog, by what it was asked before.
use Rattle.std.specs.Prelude.{◌≡◌, ℕ, ◌+◌, ◌-◌, ◌^◌, ◌==◌, nat_lt, List, [], ◌∷◌, ◌++◌, map, Option, Some, None, if◌then◌else◌}
use Rattle.pg_types.specs.declared.pg_type.PgType.{PgType}
use Rattle.pg_desk.specs.declared.statement.Described.{Described as Statement}
use Rattle.pg_desk.specs.declared.statement.Lookup.{Lookup}
use Rattle.pg_desk.specs.declared.statement.Lookup.TheVariants.{Info, Enum, Composite}
use Rattle.pg_desk.specs.Catalog.{Catalog, type_kept, statement_kept}
use Rattle.pg_desk.specs.History.{State}
use Rattle.pg_query.specs.Lives.{Deed}
use Rattle.pg_query.specs.declared.desk_call.DeskCall.{DeskCall}
use Rattle.pg_query.specs.declared.desk_call.DeskCall.TheVariants as desk_call
use Rattle.pg_query.specs.declared.desk_call.Reply.{Reply}
use Rattle.pg_query.specs.declared.desk_call.Reply.TheVariants as reply
use Rattle.pg_spec.specs.Courses.{Who}
use Rattle.pg_core.specs.Deeds.{asked_in}
use Rattle.pg_core.specs.Lists.{state_behind}
use Rattle.pg_core.specs.Trails.{AreToldIn}

-- how many numbers of statements were asked for
abbrev pub statements_in : List DeskCall → ℕ
statements_in [] = 0
statements_in (desk_call.NextStatement ∷ qs) = statements_in qs + 1
statements_in (q ∷ qs) = statements_in qs

-- the same of portals
abbrev pub portals_in : List DeskCall → ℕ
portals_in [] = 0
portals_in (desk_call.NextPortal ∷ qs) = portals_in qs + 1
portals_in (q ∷ qs) = portals_in qs

-- the next of the numbers below `top`, of which so many were drawn
abbrev pub number_to : (top drawn : ℕ) → Reply
number_to top n = if nat_lt n top then reply.Number n else reply.Spent

-- the type of an oid behind a question, where this one was kept before
abbrev pub type_behind : DeskCall → (oid : ℕ) → Option PgType → Option PgType
type_behind (desk_call.SetType set ty) oid before = if set == oid then Some ty else before
type_behind desk_call.ClearTypes oid before = None
type_behind q oid before = before

-- the type of an oid that was set last, with no clear behind it; else the one that was kept before, unless there was a clear
abbrev pub last_type : List DeskCall → (oid : ℕ) → Option PgType → Option PgType
last_type [] oid before = before
last_type (q ∷ qs) oid before = last_type qs oid (type_behind q oid before)

-- the statement that looks this up behind a question, where this one was kept before
abbrev pub statement_behind : DeskCall → Lookup → Option Statement → Option Statement
statement_behind (desk_call.SetLookup Info s) Info before = Some s
statement_behind (desk_call.SetLookup Enum s) Enum before = Some s
statement_behind (desk_call.SetLookup Composite s) Composite before = Some s
statement_behind q which before = before

-- the statement that looks this up which was set last, else the one that was kept before; a clear leaves it
abbrev pub last_statement : List DeskCall → Lookup → Option Statement → Option Statement
last_statement [] which before = before
last_statement (q ∷ qs) which before = last_statement qs which (statement_behind q which before)

-- Numbers from 0, by how many were drawn; at 2^32 - 1 they are spent. Of the catalog what was set last, of types since the last clear;
-- what is set is handed back.
abbrev pub tells : List DeskCall → DeskCall → Reply
tells before desk_call.NextStatement = number_to (2 ^ 32 - 1) (statements_in before)
tells before desk_call.NextPortal = number_to (2 ^ 32 - 1) (portals_in before)
tells before (desk_call.TypeOf oid) = reply.Type (last_type before oid None)
tells before (desk_call.SetType oid ty) = reply.Type (Some ty)
tells before desk_call.ClearTypes = reply.Cleared
tells before (desk_call.LookupOf which) = reply.Statement (last_statement before which None)
tells before (desk_call.SetLookup which s) = reply.Statement (Some s)

-- what is kept of the catalog is what was set last
pub record Keeps (before : List DeskCall) (k : Catalog) : Type 0 where
  pub types : (oid : ℕ) → last_type before oid None ≡ type_kept k oid
  pub lookups : (which : Lookup) → last_statement before which None ≡ statement_kept k which

-- the counters and the catalog of a state are those of what was asked so far: numbers from 0, spent at 2^32 - 1
pub record Counts (before : List DeskCall) (s : State) : Type 0 where
  pub statements : number_to (2 ^ 32 - 1) (statements_in before) ≡ number_to (2 ^ 32 - 1) s.statements
  pub portals : number_to (2 ^ 32 - 1) (portals_in before) ≡ number_to (2 ^ 32 - 1) s.portals
  pub catalog : Keeps before s.catalog

-- what is asked in a turn is told so, and so it goes on
pub record ToldSo (who : Who) (turn : ℕ) (before : List DeskCall) (s : State) (ds : List Deed) : Type 0 where
  pub told : AreToldIn tells who turn before (asked_in ds)
  pub counts : Counts (before ++ map (λ a. a.question) (asked_in ds)) (state_behind s ds)
