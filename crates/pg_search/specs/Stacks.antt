-- Where a search stands, by its stack and by what it does next.
use Rattle.std.specs.Prelude.{ℕ, suc, ◌-◌, nat_lt, List, [], ◌∷◌, length, Bool, not, ◌&&◌, Result, Err}
use Rattle.pg_types.specs.declared.pg_type.PgType.{PgType}
use Rattle.pg_types.specs.declared.pg_type.Kind.{Enum, Composite}
use Rattle.pg_types.specs.declared.error.Error.{Error}
use Rattle.pg_query.specs.declared.desk_call.DeskCall.TheVariants.{TypeOf, SetType}
use Rattle.pg_query.specs.Dialogue.{Dialogue, Answer, Call}
use Rattle.pg_core.specs.Sequences.{or_answer, then_do}
use Rattle.pg_core.specs.Prepares.{type_told}
use Rattle.pg_core.specs.Lookups.{TypeRow, FieldRows, row_of, made_by, sort_of, keeps, kept_told, fields_by, find, find_each, is_among, unless_known}
use Rattle.pg_core.specs.Searches.{find_above, busy_of, searching}
use Rattle.pg_search.specs.declared.frame.OpenComposite.{OpenComposite}
use Rattle.pg_search.specs.declared.stack.Stack.{Stack}
use Rattle.pg_search.specs.declared.stack.Next.{Next}
use Rattle.pg_search.specs.declared.stack.Next.TheVariants.{Asks, Keeps, Ends}
use Rattle.pg_search.specs.declared.stack.Turn.{Turn}
use Rattle.pg_search.specs.declared.stack.Turn.TheVariants.{Finds, Goes}
use Rattle.pg_search.specs.Frames.{frames_of}

-- the whole of a search that stands at a dialogue above its stack
unfoldable pub searching_at : Stack → Dialogue PgType → Dialogue (List PgType)
searching_at s d = searching s.left.items s.found (frames_of s.frames.items) d

-- the oids that are left, once nothing waits
unfoldable pub rest_at : Stack → Dialogue (List PgType)
rest_at s = find_each (find 64 []) s.left.items s.found

-- how a type is found above the stack
unfoldable pub find_at : Stack → ℕ → Dialogue PgType
find_at s = find_above (frames_of s.frames.items)

-- and how with one more oid in progress
unfoldable pub find_over : Stack → (oid : ℕ) → ℕ → Dialogue PgType
find_over s oid = find (64 - suc (length (frames_of s.frames.items))) (oid ∷ busy_of (frames_of s.frames.items))

-- fewer than 64 are in progress, and this oid is none of them
unfoldable pub may_find : Stack → ℕ → Bool
may_find s oid = nat_lt (length (frames_of s.frames.items)) 64 && not (is_among oid (busy_of (frames_of s.frames.items)))

-- the type of a row
abbrev pub made_at : Stack → (oid : ℕ) → TypeRow → Dialogue PgType
made_at s oid row = made_by (find_over s oid) oid row (sort_of row)

-- behind the row of an oid
abbrev pub row_goes : Stack → (oid : ℕ) → Result TypeRow Error → Dialogue (List PgType)
row_goes s oid r = searching_at s (or_answer (made_at s oid) r)

-- behind its labels
abbrev pub labels_goes : Stack → (oid : ℕ) → TypeRow → Result (List (List ℕ)) Error → Dialogue (List PgType)
labels_goes s oid row r = searching_at s (or_answer (λ labels. keeps oid row (Enum labels)) r)

-- behind the rows of its fields
abbrev pub fields_goes : Stack → (oid : ℕ) → TypeRow → Result FieldRows Error → Dialogue (List PgType)
fields_goes s oid row r = searching_at s (or_answer (λ f. fields_by (find_over s oid) f.columns f.rows [] (λ fields. keeps oid row (Composite fields))) r)

-- behind the fields that were found so far
abbrev pub composite_goes : Stack → OpenComposite → Dialogue (List PgType)
composite_goes s c = searching_at s (fields_by (find_over s c.oid) c.statement.columns c.left.items c.found (λ fields. keeps c.oid c.row (Composite fields)))

-- behind the desk's word on the type of an oid
abbrev pub told_goes : Stack → (oid : ℕ) → Dialogue PgType
told_goes s oid = then_do (row_of oid) (made_at s oid)

-- what is asked and answered, where the search does this next
abbrev pub next_dialogue : Stack → Next → Dialogue (List PgType)
next_dialogue s (Asks oid) = Call (TypeOf oid) (λ e. Answer (Err e)) (λ r. searching_at s (type_told (unless_known (may_find s oid) (told_goes s oid)) r))
next_dialogue s (Keeps oid ty) = Call (SetType oid ty) (λ e. Answer (Err e)) (λ r. searching_at s (kept_told r))
next_dialogue s (Ends r) = Answer r

-- the same, where a type may have to be found first
abbrev pub turn_dialogue : Stack → Turn → Dialogue (List PgType)
turn_dialogue s (Finds oid) = searching_at s (find_at s oid)
turn_dialogue s (Goes next) = next_dialogue s next
