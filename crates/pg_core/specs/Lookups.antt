-- How the type of an oid is found in the server's catalog (PostgreSQL documentation, "pg_type", "pg_range", "pg_enum",
-- "pg_attribute"). Want of memory may be the answer anywhere: it is where a type would be larger than a client holds.
use Rattle.std.specs.Prelude.{ℕ, zero, suc, ◌==◌, List, [], ◌∷◌, ◌++◌, length, flat_map, Bool, true, false, not, ◌||◌, if◌then◌else◌, Option, Some, None, Result, Ok, Err, codes, ℤ, pos}
use Rattle.std.specs.Ordering.{int_eq}
use Rattle.std.specs.Str.{byte, bytes_eq}
use Rattle.pg_spec.specs.Faults.{◌>>=◌, FrameFault, Closed, Db, Parameters, ToSql, UnexpectedMessage, Value}
use Rattle.pg_spec.specs.Frames.{bind_frame, execute_frame, sync_frame}
use Rattle.pg_types.specs.declared.pg_type.PgType.{PgType}
use Rattle.pg_types.specs.declared.pg_type.Kind.{Kind, Simple, Pseudo, Enum as EnumKind, Array, Range, Domain, Composite as CompositeKind}
use Rattle.pg_types.specs.declared.pg_type.Field.{Field}
use Rattle.pg_types.specs.declared.fault.ValueFault.TheVariants.{WrongType}
use Rattle.pg_types.specs.declared.fault.RustType.TheVariants as rust
use Rattle.pg_types.specs.Oids as oids
use Rattle.pg_types.specs.Values.{wrong_type, oid_bytes}
use Rattle.pg_types.specs.declared.error.Error.{Error}
use Rattle.pg_desk.specs.declared.statement.Described.{Described as Statement}
use Rattle.pg_desk.specs.declared.column.Column.{Column}
use Rattle.pg_desk.specs.declared.statement.Lookup.{Lookup}
use Rattle.pg_desk.specs.declared.statement.Lookup.TheVariants.{Info, Enum, Composite}
use Rattle.pg_query.specs.declared.desk_call.DeskCall.TheVariants as desk_call
use Rattle.pg_query.specs.declared.desk_call.Reply.{Reply}
use Rattle.pg_query.specs.declared.desk_call.Reply.TheVariants as reply
use Rattle.pg_query.specs.Dialogue.{Dialogue, Answer}
use Rattle.pg_query.specs.Reading.{reads}
use Rattle.pg_core.specs.Behind.{behind}
use Rattle.pg_core.specs.Sequences.{or_answer, then_do}
use Rattle.pg_core.specs.Composing.{asks_desk, asks_for, or_encode}
use Rattle.pg_core.specs.Cells.{Cells, value_at, text_in, i8_in, u32_in, u32_or_null_in}
use Rattle.pg_core.specs.QueryReplies.{first_row, all_rows}
use Rattle.pg_core.specs.Prepares.{prepares, known, known_types}

-- ---- the statements that look types up

-- lines, each with its line feed
abbrev pub lines : List (List ℕ) → List ℕ
lines = flat_map (λ l. l ++ 10 ∷ [])

-- the text that looks this up, and one for servers that don't know all of the first
abbrev pub lookup_text : Lookup → (first : Bool) → List ℕ
lookup_text Info first = lines (
    (if first then codes "SELECT t.typname, t.typtype, t.typelem, r.rngsubtype, t.typbasetype, n.nspname, t.typrelid"
    else codes "SELECT t.typname, t.typtype, t.typelem, NULL::OID, t.typbasetype, n.nspname, t.typrelid")
    ∷ codes "FROM pg_catalog.pg_type t"
    ∷ (if first then codes "LEFT OUTER JOIN pg_catalog.pg_range r ON r.rngtypid = t.oid" ∷ [] else [])
    ++ codes "INNER JOIN pg_catalog.pg_namespace n ON t.typnamespace = n.oid"
    ∷ codes "WHERE t.oid = $1" ∷ [])
lookup_text Enum first = lines (
    codes "SELECT enumlabel"
    ∷ codes "FROM pg_catalog.pg_enum"
    ∷ codes "WHERE enumtypid = $1"
    ∷ (if first then codes "ORDER BY enumsortorder" else codes "ORDER BY oid") ∷ [])
lookup_text Composite first = lines (
    codes "SELECT attname, atttypid"
    ∷ codes "FROM pg_catalog.pg_attribute"
    ∷ codes "WHERE attrelid = $1"
    ∷ codes "AND NOT attisdropped"
    ∷ codes "AND attnum > 0"
    ∷ codes "ORDER BY attnum" ∷ [])

-- the code of the error by which a server says that it doesn't: no such table, no such column
abbrev pub unknown_code : Lookup → Option (List ℕ)
unknown_code Info = Some (codes "42P01")
unknown_code Enum = Some (codes "42703")
unknown_code Composite = None

-- an error of this code
abbrev pub is_unknown : Option (List ℕ) → Error → Bool
is_unknown (Some code) (Db e) = bytes_eq e.code.code code
is_unknown code e = false

-- The statement, prepared by one of its texts. The types of its own description must be known.
abbrev pub prepared : Lookup → (first : Bool) → Dialogue Statement
prepared which first = prepares (λ found. known_types found []) (lookup_text which first) []

-- the statement that the desk handed back is the answer
abbrev pub statement_told : Reply → Dialogue Statement
statement_told (reply.Statement (Some s)) = Answer (Ok s)
statement_told other = Answer (Err Closed)

-- the desk keeps the statement
abbrev pub keeps_statement : Lookup → Statement → Dialogue Statement
keeps_statement which s = asks_desk (desk_call.SetLookup which s) statement_told

-- by the second text, where the server doesn't know all of the first
abbrev pub or_second : Lookup → Result Statement Error → Dialogue Statement
or_second which (Ok s) = keeps_statement which s
or_second which (Err e) = if is_unknown (unknown_code which) e then then_do (prepared which false) (keeps_statement which) else Answer (Err e)

-- the statement that is kept, or else one that is prepared
abbrev pub or_prepared : Lookup → Reply → Dialogue Statement
or_prepared which (reply.Statement (Some s)) = Answer (Ok s)
or_prepared which (reply.Statement None) = behind [] (prepared which true) (or_second which)
or_prepared which other = Answer (Err Closed)

-- the statement that looks this up
abbrev pub lookup_statement : Lookup → Dialogue Statement
lookup_statement which = asks_desk (desk_call.LookupOf which) (or_prepared which)

-- Bind with one oid, Execute, Sync
abbrev pub oid_frames : (name : List ℕ) → (oid : ℕ) → Result (List ℕ) FrameFault
oid_frames name oid =
    bind_frame [] name (pos 1 ∷ []) (Some (oid_bytes oid) ∷ []) (pos 1) >>= λ bind.
    execute_frame [] (pos 0) >>= λ execute.
    Ok (bind ++ execute ++ sync_frame)

-- the request by an oid: the statement must have one parameter, an oid
abbrev pub oid_request : (name : List ℕ) → (params : List PgType) → (oid : ℕ) → Result (List ℕ) Error
oid_request name (ty ∷ []) oid = if ty.oid == oids.oid then or_encode (oid_frames name oid) else Err (ToSql 0 (Value (WrongType (wrong_type ty.oid rust.U32))))
oid_request name params oid = Err (Parameters 1 (length params))

-- a statement is asked for an oid, and the reply is read so
abbrev pub asks_oid : {T : Type 0} → Statement → ℕ → Dialogue T → Dialogue T
asks_oid s oid d = asks_for (oid_request s.name s.params oid) d

-- ---- a type's own row

-- the row, by the names of its columns
pub record TypeRow : Type 0 where
  pub name : List ℕ
  pub typtype : ℤ
  pub typelem : ℕ
  pub rngsubtype : Option ℕ
  pub typbasetype : ℕ
  pub schema : List ℕ
  pub typrelid : ℕ

-- the row of these cells; the first column that isn't there or can't be read decides
abbrev pub type_row : List Column → Cells → Result TypeRow Error
type_row columns cells =
    value_at text_in columns cells 0 >>= λ name.
    value_at i8_in columns cells 1 >>= λ typtype.
    value_at u32_in columns cells 2 >>= λ typelem.
    value_at u32_or_null_in columns cells 3 >>= λ rngsubtype.
    value_at u32_in columns cells 4 >>= λ typbasetype.
    value_at text_in columns cells 5 >>= λ schema.
    value_at u32_in columns cells 6 >>= λ typrelid.
    Ok (record { name = name; typtype = typtype; typelem = typelem; rngsubtype = rngsubtype; typbasetype = typbasetype; schema = schema; typrelid = typrelid })

-- the row of an oid; the request is hung up behind it
abbrev pub row_of : ℕ → Dialogue TypeRow
row_of oid = then_do (lookup_statement Info) (λ s.
    asks_oid s oid (reads true (first_row (type_row s.columns) (length s.columns))))

-- how a type is made of one other
pub data Wrap : Type 0 where
  -- a domain over it
  Over : Wrap
  -- an array of it
  ArrayOf : Wrap
  -- a range of it
  RangeOf : Wrap

-- the kind of a type that is made so
abbrev pub wraps : Wrap → PgType → Kind
wraps Over ty = Domain ty
wraps ArrayOf ty = Array ty
wraps RangeOf ty = Range ty

-- what a row says of the kind
pub data Sort : Type 0 where
  Is : Kind → Sort
  -- its labels are to be found
  Labels : Sort
  -- the type of another oid is to be found
  Of : Wrap → ℕ → Sort
  -- the fields of this relation are to be found
  Fields : ℕ → Sort

-- a range, or else a type of no other kind
abbrev pub or_range : Option ℕ → Sort
or_range (Some sub) = Of RangeOf sub
or_range None = Is Simple

-- the first that fits
abbrev pub sort_of : TypeRow → Sort
sort_of row =
    if int_eq row.typtype (pos (byte "e")) then Labels
    else if int_eq row.typtype (pos (byte "p")) then Is Pseudo
    else if not (row.typbasetype == 0) then Of Over row.typbasetype
    else if not (row.typelem == 0) then Of ArrayOf row.typelem
    else if not (row.typrelid == 0) then Fields row.typrelid
    else or_range row.rngsubtype

-- ---- labels and fields

-- the labels of an enumeration, in order
abbrev pub labels_of : ℕ → Dialogue (List (List ℕ))
labels_of oid = then_do (lookup_statement Enum) (λ s.
    asks_oid s oid (reads false (all_rows (λ cells. value_at text_in s.columns cells 0) (length s.columns))))

-- the rows of a relation's columns, with what they are read by
pub record FieldRows : Type 0 where
  pub columns : List Column
  pub rows : List Cells

-- all rows come first; none of them is read yet
abbrev pub field_rows : ℕ → Dialogue FieldRows
field_rows relation = then_do (lookup_statement Composite) (λ s.
    then_do (asks_oid s relation (reads false (all_rows (λ cells. Ok cells) (length s.columns)))) (λ rows. Answer (Ok (record { columns = s.columns; rows = rows }))))

-- a field's name and the oid of its type
pub record FieldRow : Type 0 where
  pub name : List ℕ
  pub type_oid : ℕ

-- a row, read
abbrev pub field_row : List Column → Cells → Result FieldRow Error
field_row columns cells =
    value_at text_in columns cells 0 >>= λ name.
    value_at u32_in columns cells 1 >>= λ type_oid.
    Ok (record { name = name; type_oid = type_oid })

-- The fields, one after another: each row is read, and its type found. Then this is done with them.
abbrev pub fields_by : {T : Type 0} → (ℕ → Dialogue PgType) → List Column → List Cells → (found : List Field) → (List Field → Dialogue T) → Dialogue T
fields_by find columns [] found done = done found
fields_by find columns (cells ∷ rows) found done = or_answer (λ f.
    then_do (find f.type_oid) (λ ty. fields_by find columns rows (found ++ record { name = f.name; type_ = ty } ∷ []) done)) (field_row columns cells)

-- ---- types

-- the type that the desk handed back is the answer
abbrev pub kept_told : Reply → Dialogue PgType
kept_told (reply.Type (Some ty)) = Answer (Ok ty)
kept_told other = Answer (Err Closed)

-- the desk keeps the type of an oid
abbrev pub keeps : ℕ → TypeRow → Kind → Dialogue PgType
keeps oid row kind = asks_desk (desk_call.SetType oid (record { name = row.name; oid = oid; kind = kind; schema = row.schema })) kept_told

-- the type of a row, where the types that it is made of are found so
abbrev pub made_by : (ℕ → Dialogue PgType) → ℕ → TypeRow → Sort → Dialogue PgType
made_by find oid row (Is kind) = keeps oid row kind
made_by find oid row Labels = then_do (labels_of oid) (λ labels. keeps oid row (EnumKind labels))
made_by find oid row (Of wrap inner) = then_do (find inner) (λ ty. keeps oid row (wraps wrap ty))
made_by find oid row (Fields relation) = then_do (field_rows relation) (λ f.
    fields_by find f.columns f.rows [] (λ fields. keeps oid row (CompositeKind fields)))

-- the oid is one of them
abbrev pub is_among : ℕ → List ℕ → Bool
is_among oid [] = false
is_among oid (b ∷ busy) = (b == oid) || is_among oid busy

-- A type that is known is found without a request. Any other is searched for where it may be.
abbrev pub unless_known : (may : Bool) → Dialogue PgType → Option PgType → Dialogue PgType
unless_known may search (Some ty) = Answer (Ok ty)
unless_known true search None = search
unless_known false search None = Answer (Err UnexpectedMessage)

-- The type of an oid, where these oids are in progress, and so many more may be. No oid is looked up while it is in progress.
abbrev pub find : (more : ℕ) → (busy : List ℕ) → (oid : ℕ) → Dialogue PgType
find zero busy oid = known oid (unless_known false (Answer (Err UnexpectedMessage)))
find (suc more) busy oid = known oid (unless_known (not (is_among oid busy))
    (then_do (row_of oid) (λ row. made_by (find more (oid ∷ busy)) oid row (sort_of row))))

-- the types of several oids, one after another
abbrev pub find_each : (ℕ → Dialogue PgType) → List ℕ → (found : List PgType) → Dialogue (List PgType)
find_each find [] found = Answer (Ok found)
find_each find (oid ∷ oids) found = then_do (find oid) (λ ty. find_each find oids (found ++ ty ∷ []))

-- at most 64 are in progress at once
abbrev pub find_all : List ℕ → Dialogue (List PgType)
find_all oids = find_each (find 64 []) oids []

-- A text is prepared: a statement, whose types are all found.
abbrev pub prepare : (text : List ℕ) → (oids : List ℕ) → Dialogue Statement
prepare text oids = prepares find_all text oids

-- the types were dropped
abbrev pub cleared_told : Reply → Dialogue (Unit {0})
cleared_told reply.Cleared = Answer (Ok tt)
cleared_told other = Answer (Err Closed)

-- the desk drops all types that it keeps
abbrev pub clear : Dialogue (Unit {0})
clear = asks_desk desk_call.ClearTypes cleared_told
