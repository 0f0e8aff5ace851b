-- A text is prepared: a number is drawn, the text is sent under the name that the number gives, the server describes it, and the
-- types of its parameters and columns are found (PostgreSQL documentation, "Extended Query").
use Rattle.std.specs.Prelude.{ℕ, List, [], ◌∷◌, ◌++◌, length, take, drop, true, Option, Some, None, Result, Ok, Err, decimal}
use Rattle.std.specs.Str.{byte}
use Rattle.pg_spec.specs.Bodies.{Field}
use Rattle.pg_spec.specs.Faults.{◌>>=◌, FrameFault, Closed, UnexpectedMessage}
use Rattle.pg_spec.specs.Frames.{parse_frame, describe_frame, sync_frame}
use Rattle.pg_types.specs.declared.pg_type.PgType.{PgType}
use Rattle.pg_types.specs.BuiltIns.{built_in_type}
use Rattle.pg_desk.specs.declared.statement.Described.{Described as Statement}
use Rattle.pg_desk.specs.declared.column.Column.{Column}
use Rattle.pg_query.specs.declared.desk_call.DeskCall.TheVariants as desk_call
use Rattle.pg_query.specs.declared.desk_call.Reply.{Reply}
use Rattle.pg_query.specs.declared.desk_call.Reply.TheVariants as reply
use Rattle.pg_query.specs.Dialogue.{Dialogue, Answer}
use Rattle.pg_query.specs.Reading.{reads}
use Rattle.pg_core.specs.Numbers.{draws}
use Rattle.pg_core.specs.Sequences.{then_do}
use Rattle.pg_core.specs.Composing.{asks_desk, asks_for, or_encode}
use Rattle.pg_core.specs.Descriptions.{Description, description, oids_in}

-- the name of a statement: an s and its number
abbrev pub statement_name : ℕ → List ℕ
statement_name n = byte "s" ∷ decimal n

-- the request that prepares a text, with the types of its first parameters: Parse, Describe, Sync
abbrev pub prepare_request : (n : ℕ) → (text : List ℕ) → (oids : List ℕ) → Result (List ℕ) FrameFault
prepare_request n text oids =
    parse_frame (statement_name n) text oids >>= λ parse.
    describe_frame (byte "S") (statement_name n) >>= λ describe.
    Ok (parse ++ describe ++ sync_frame)

-- a statement that the server described, without its types
pub record NewStatement : Type 0 where
  pub number : ℕ
  pub described : Description

-- A number is drawn, whatever the text is, and then the text is sent. The request is hung up once the server described it.
abbrev pub describes : (text : List ℕ) → (oids : List ℕ) → Dialogue NewStatement
describes text oids = then_do draws (λ n.
    then_do (asks_for (or_encode (prepare_request n text oids)) (reads true description)) (λ d. Answer (Ok (record { number = n; described = d }))))

-- a column of its type
abbrev pub column_of : Field → PgType → Column
column_of f ty = record { name = f.name; table_oid = f.table_oid; column_id = f.column_id; type_modifier = f.type_modifier; type_ = ty }

-- columns, each of its type
abbrev pub columns_of : List Field → List PgType → List Column
columns_of (f ∷ fs) (ty ∷ types) = column_of f ty ∷ columns_of fs types
columns_of fs types = []

-- the statement, with the types of its oids
abbrev pub statement_of : NewStatement → List PgType → Statement
statement_of s types = record {
  name = statement_name s.number;
  params = take (length s.described.params) types;
  columns = columns_of s.described.columns (drop (length s.described.params) types);
}

-- A text is prepared, and its types are found in this way.
abbrev pub prepares : (List ℕ → Dialogue (List PgType)) → (text : List ℕ) → (oids : List ℕ) → Dialogue Statement
prepares find text oids = then_do (describes text oids) (λ s. then_do (find (oids_in s.described)) (λ types. Answer (Ok (statement_of s types))))

-- ---- types that are known

-- the type that the desk keeps
abbrev pub type_told : {T : Type 0} → (Option PgType → Dialogue T) → Reply → Dialogue T
type_told next (reply.Type found) = next found
type_told next other = Answer (Err Closed)

-- a built-in type, or what the desk keeps
abbrev pub known_or : {T : Type 0} → ℕ → Option PgType → (Option PgType → Dialogue T) → Dialogue T
known_or oid (Some ty) next = next (Some ty)
known_or oid None next = asks_desk (desk_call.TypeOf oid) (type_told next)

-- the type of an oid that is built-in or kept; the desk is asked for no built-in type
abbrev pub known : {T : Type 0} → ℕ → (Option PgType → Dialogue T) → Dialogue T
known oid next = known_or oid (built_in_type oid) next

-- a type that is known; another is refused
abbrev pub needs_type : {T : Type 0} → (PgType → Dialogue T) → Option PgType → Dialogue T
needs_type next (Some ty) = next ty
needs_type next None = Answer (Err UnexpectedMessage)

-- the types of oids that must all be known
abbrev pub known_types : List ℕ → (found : List PgType) → Dialogue (List PgType)
known_types [] found = Answer (Ok found)
known_types (oid ∷ oids) found = known oid (needs_type (λ ty. known_types oids (found ++ ty ∷ [])))
