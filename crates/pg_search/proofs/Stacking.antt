-- What the steps of a search do to its stack.
use Rattle.std.proofs.Common.{◌≡◌, ℕ, suc, ◌-◌, List, [], ◌∷◌, ◌++◌, length, Bool, true, false, Option, Some, None, Result, Ok, Err, refl, sym, ◌∙◌, ap}
use Rattle.pg_types.specs.declared.pg_type.PgType.{PgType}
use Rattle.pg_types.specs.declared.pg_type.Kind.{Kind, Composite, Enum}
use Rattle.pg_types.specs.BuiltIns.{built_in_type}
use Rattle.pg_types.specs.declared.error.Error.{Error}
use Rattle.pg_types.specs.declared.error.Error.TheVariants.{UnexpectedMessage}
use Rattle.pg_query.specs.declared.desk_call.DeskCall.TheVariants.{TypeOf, SetType}
use Rattle.pg_query.specs.Dialogue.{Dialogue, Answer, Call}
use Rattle.pg_core.specs.Behind.{behind}
use Rattle.pg_core.specs.Sequences.{or_answer, then_do}
use Rattle.pg_core.specs.Cells.{Cells}
use Rattle.pg_core.specs.Prepares.{type_told, known_or}
use Rattle.pg_core.specs.Lookups.{TypeRow, FieldRow, FieldRows, Of, Labels, Fields, find_all, labels_of, field_rows, row_of, made_by, wraps, keeps, kept_told, field_row, fields_by, find, find_each, unless_known}
use Rattle.pg_core.specs.Searches.{find_above, busy_of, searching}
use Rattle.pg_search.specs.declared.sort.Wrap.{Wrap}
use Rattle.pg_search.specs.declared.frame.Frame.{Frame}
use Rattle.pg_search.specs.declared.frame.Frame.TheVariants.{Wrapped, Part}
use Rattle.pg_search.specs.declared.frame.OpenComposite.{OpenComposite}
use Rattle.pg_search.specs.declared.stack.Stack.{Stack}
use Rattle.pg_search.specs.declared.stack.Next.TheVariants.{Asks, Keeps}
use Rattle.pg_search.specs.Sorts.{wrap_of}
use Rattle.pg_search.specs.Frames.{frames_of}
use Rattle.pg_search.specs.Stacks.{searching_at, rest_at, find_at, find_over, may_find, told_goes, made_at, row_goes, labels_goes, fields_goes, composite_goes, next_dialogue}
use Rattle.pg_search.proofs.Unwinding.{searching-behind, searching-asks, searching-fails, found-by}

-- an error is the whole answer
pub at-fails : (s : Stack) (e : Error) → searching_at s (Answer (Err e)) ≡ Answer (Err e)
unfolding searching_at
at-fails s e = searching-fails s.left.items s.found (frames_of s.frames.items) e

-- what the catalog is asked
pub at-behind : {X : Type 0} (s : Stack) (d : Dialogue X) (k : Result X Error → Dialogue PgType) → searching_at s (behind [] d k) ≡ behind [] d (λ x. searching_at s (k x))
unfolding searching_at
at-behind s d k = searching-behind s.left.items s.found (frames_of s.frames.items) d k

-- a type that is kept
pub at-keeps : (s : Stack) (oid : ℕ) (row : TypeRow) (kind : Kind) (ty : PgType) → ty ≡ record { name = row.name; oid = oid; kind = kind; schema = row.schema } → next_dialogue s (Keeps oid ty) ≡ searching_at s (keeps oid row kind)
unfolding searching_at
at-keeps s oid row kind ty e =
    ap (λ (t : PgType). Call (SetType oid t) (λ x. Answer (Err x)) (λ r. searching s.left.items s.found (frames_of s.frames.items) (kept_told r))) e
    ∙ sym (searching-asks s.left.items s.found (frames_of s.frames.items) (SetType oid (record { name = row.name; oid = oid; kind = kind; schema = row.schema })) kept_told)

-- the room that is left decides nothing of what is asked and answered
pub any-room : (s : Stack) (n : ℕ) (d : Dialogue PgType) → searching_at (record s { room = n }) d ≡ searching_at s d
unfolding searching_at
any-room s n d = refl

-- an oid, by whether its type is built-in
pub at-finds : (s : Stack) (oid : ℕ) → find_at s oid ≡ known_or oid (built_in_type oid) (unless_known (may_find s oid) (told_goes s oid))
unfolding find_at find_over may_find
at-finds s oid = found-by (64 - length (frames_of s.frames.items)) (length (frames_of s.frames.items)) (64 - suc (length (frames_of s.frames.items))) (busy_of (frames_of s.frames.items)) oid refl refl

-- a built-in type is found at once
pub at-known : (s : Stack) (oid : ℕ) (ty : PgType) → Some ty ≡ built_in_type oid → find_at s oid ≡ Answer (Ok ty)
at-known s oid ty e = at-finds s oid ∙ ap (λ (o : Option PgType). known_or oid o (unless_known (may_find s oid) (told_goes s oid))) (sym e)

-- of another oid the desk is asked
pub at-asks : (s : Stack) (oid : ℕ) → None ≡ built_in_type oid → next_dialogue s (Asks oid) ≡ searching_at s (find_at s oid)
unfolding searching_at
at-asks s oid e =
    sym (searching-asks s.left.items s.found (frames_of s.frames.items) (TypeOf oid) (type_told (unless_known (may_find s oid) (told_goes s oid))))
    ∙ ap (searching s.left.items s.found (frames_of s.frames.items)) (sym (at-finds s oid ∙ ap (λ (o : Option PgType). known_or oid o (unless_known (may_find s oid) (told_goes s oid))) (sym e)))

-- the same oids left, the same types found, and this waits
pub record Shares (s t : Stack) : Type 0 where
  pub left : t.left.items ≡ s.left.items
  pub found : t.found ≡ s.found

-- two stacks by their parts
shared : (s t : Stack) → Shares s t → (fs : List Frame) → (d : Dialogue PgType) → searching t.left.items t.found (frames_of fs) d ≡ searching s.left.items s.found (frames_of fs) d
shared s t h fs d =
    ap (λ (l : List ℕ). searching l t.found (frames_of fs) d) h.left
    ∙ ap (λ (f : List PgType). searching s.left.items f (frames_of fs) d) h.found

-- a type that was made of the one that is found
pub pops-wrapped : (s t : Stack) (oid : ℕ) (row : TypeRow) (wrap : Wrap) (ty : PgType) → Shares s t → s.frames.items ≡ Wrapped oid row wrap ∷ t.frames.items →
    searching_at t (keeps oid row (wraps (wrap_of wrap) ty)) ≡ searching_at s (Answer (Ok ty))
unfolding searching_at
pops-wrapped s t oid row wrap ty h e =
    shared s t h t.frames.items (keeps oid row (wraps (wrap_of wrap) ty))
    ∙ ap (λ (fs : List Frame). searching s.left.items s.found (frames_of fs) (Answer (Ok ty))) (sym e)

-- a composite, whose field the type is that is found
pub pops-part : (s t : Stack) (c : OpenComposite) (name : List ℕ) (ty : PgType) (c' : OpenComposite) → Shares s t → s.frames.items ≡ Part c name ∷ t.frames.items →
    c' ≡ record c { found = c.found ++ record { name = name; type_ = ty } ∷ [] } → composite_goes t c' ≡ searching_at s (Answer (Ok ty))
unfolding searching_at find_over
pops-part s t c name ty c' h e is =
    ap (composite_goes t) is
    ∙ shared s t h t.frames.items (fields_by (find (64 - suc (length (frames_of t.frames.items))) (c.oid ∷ busy_of (frames_of t.frames.items))) c.statement.columns c.left.items (c.found ++ record { name = name; type_ = ty } ∷ []) (λ fields. keeps c.oid c.row (Composite fields)))
    ∙ ap (λ (fs : List Frame). searching s.left.items s.found (frames_of fs) (Answer (Ok ty))) (sym e)

-- below all that waits
pub pops-none : (s t : Stack) (ty : PgType) → t.left.items ≡ s.left.items → t.found ≡ s.found ++ ty ∷ [] → s.frames.items ≡ [] → rest_at t ≡ searching_at s (Answer (Ok ty))
unfolding searching_at rest_at
pops-none s t ty left found e =
    ap (λ (l : List ℕ). find_each (find 64 []) l t.found) left ∙ ap (λ (f : List PgType). find_each (find 64 []) s.left.items f) found
    ∙ ap (λ (fs : List Frame). searching s.left.items s.found (frames_of fs) (Answer (Ok ty))) (sym e)

-- the next oid that is left
pub rests-some : (s t : Stack) (oid : ℕ) → s.frames.items ≡ [] → t.frames.items ≡ [] → s.left.items ≡ oid ∷ t.left.items → t.found ≡ s.found → searching_at t (find_at t oid) ≡ rest_at s
unfolding searching_at rest_at find_at
rests-some s t oid e e' left found =
    ap (λ (fs : List Frame). searching t.left.items t.found (frames_of fs) (find_above (frames_of fs) oid)) e'
    ∙ ap (λ (f : List PgType). find_each (find 64 []) (oid ∷ t.left.items) f) found
    ∙ ap (λ (l : List ℕ). find_each (find 64 []) l s.found) (sym left)

-- none is left
pub rests-none : (s : Stack) (found : List PgType) → s.left.items ≡ [] → found ≡ s.found → Answer (Ok found) ≡ rest_at s
unfolding rest_at
rests-none s found e same = ap (λ (f : List PgType). Answer (Ok f)) same ∙ ap (λ (l : List ℕ). find_each (find 64 []) l s.found) (sym e)

-- all fields of a composite are found
pub fields-end : (s : Stack) (c : OpenComposite) → c.left.items ≡ [] → searching_at s (keeps c.oid c.row (Composite c.found)) ≡ composite_goes s c
unfolding searching_at find_over
fields-end s c e =
    ap (λ (rows : List Cells). searching s.left.items s.found (frames_of s.frames.items) (fields_by (find (64 - suc (length (frames_of s.frames.items))) (c.oid ∷ busy_of (frames_of s.frames.items))) c.statement.columns rows c.found (λ fields. keeps c.oid c.row (Composite fields)))) (sym e)

-- what is done with a row of a field, where it was read
abbrev pub field_goes : Stack → OpenComposite → (rows : List Cells) → Result FieldRow Error → Dialogue (List PgType)
field_goes s c rows r = searching_at s (or_answer (λ f. then_do (find_over s c.oid f.type_oid) (λ ty. fields_by (find_over s c.oid) c.statement.columns rows (c.found ++ record { name = f.name; type_ = ty } ∷ []) (λ fields. keeps c.oid c.row (Composite fields)))) r)

-- a row is read
pub fields-read : (s : Stack) (c : OpenComposite) (cells : Cells) (rows : List Cells) (r : Result FieldRow Error) → c.left.items ≡ cells ∷ rows → r ≡ field_row c.statement.columns cells → field_goes s c rows r ≡ composite_goes s c
unfolding searching_at find_over
fields-read s c cells rows r e is =
    ap (field_goes s c rows) is
    ∙ ap (λ (rows : List Cells). searching s.left.items s.found (frames_of s.frames.items) (fields_by (find (64 - suc (length (frames_of s.frames.items))) (c.oid ∷ busy_of (frames_of s.frames.items))) c.statement.columns rows c.found (λ fields. keeps c.oid c.row (Composite fields)))) (sym e)

-- its type is to be found
pub fields-some : (s t : Stack) (c c' : OpenComposite) (name : List ℕ) (oid : ℕ) (cells : Cells) → Shares s t → t.frames.items ≡ Part c' name ∷ s.frames.items → c.left.items ≡ cells ∷ c'.left.items →
    c' ≡ record c { left = c'.left } → Ok (record { name = name; type_oid = oid }) ≡ field_row c.statement.columns cells → searching_at t (find_at t oid) ≡ composite_goes s c
unfolding searching_at find_at find_over
fields-some s t c c' name oid cells h e rows same is =
    ap (λ (fs : List Frame). searching t.left.items t.found (frames_of fs) (find_above (frames_of fs) oid)) e
    ∙ ap (λ (x : OpenComposite). searching t.left.items t.found (frames_of (Part x name ∷ s.frames.items)) (find_above (frames_of (Part x name ∷ s.frames.items)) oid)) same
    ∙ shared s t h (Part (record c { left = c'.left }) name ∷ s.frames.items) (find_above (frames_of (Part (record c { left = c'.left }) name ∷ s.frames.items)) oid)
    ∙ fields-read s c cells c'.left.items (Ok (record { name = name; type_oid = oid })) rows is

-- a row can't be read
pub fields-fail : (s : Stack) (c : OpenComposite) (cells : Cells) (rows : List Cells) (e : Error) → c.left.items ≡ cells ∷ rows → Err e ≡ field_row c.statement.columns cells → Answer (Err e) ≡ composite_goes s c
fields-fail s c cells rows e is read = sym (at-fails s e) ∙ fields-read s c cells rows (Err e) is read

-- a type that is made of another waits for it
pub at-waits : (s t : Stack) (oid : ℕ) (row : TypeRow) (wrap : Wrap) (inner : ℕ) → Shares s t → t.frames.items ≡ Wrapped oid row wrap ∷ s.frames.items →
    searching_at t (find_at t inner) ≡ searching_at s (made_by (find_over s oid) oid row (Of (wrap_of wrap) inner))
unfolding searching_at find_at find_over
at-waits s t oid row wrap inner h e =
    ap (λ (fs : List Frame). searching t.left.items t.found (frames_of fs) (find_above (frames_of fs) inner)) e
    ∙ shared s t h (Wrapped oid row wrap ∷ s.frames.items) (find_above (frames_of (Wrapped oid row wrap ∷ s.frames.items)) inner)

-- a new stack is all oids
pub rest-all : (t : Stack) (oids : List ℕ) → t.left.items ≡ oids → t.found ≡ [] → rest_at t ≡ find_all oids
unfolding rest_at
rest-all t oids left found = ap (λ (l : List ℕ). find_each (find 64 []) l t.found) left ∙ ap (λ (f : List PgType). find_each (find 64 []) oids f) found

-- what is found of an oid of which the desk keeps no type
pub at-looks-up : (s : Stack) (oid : ℕ) (d : Dialogue TypeRow) → d ≡ row_of oid → true ≡ may_find s oid → behind [] d (row_goes s oid) ≡ searching_at s (unless_known (may_find s oid) (told_goes s oid) None)
at-looks-up s oid d e may =
    ap (λ (x : Dialogue TypeRow). behind [] x (row_goes s oid)) e
    ∙ sym (at-behind s (row_of oid) (or_answer (made_at s oid)))
    ∙ ap (λ (b : Bool). searching_at s (unless_known b (told_goes s oid) None)) may

-- and where it may not be looked up
pub at-refuses : (s : Stack) (oid : ℕ) → false ≡ may_find s oid → Answer (Err UnexpectedMessage) ≡ searching_at s (unless_known (may_find s oid) (told_goes s oid) None)
at-refuses s oid may = sym (at-fails s UnexpectedMessage) ∙ ap (λ (b : Bool). searching_at s (unless_known b (told_goes s oid) None)) may

-- labels, and the rows of fields, are asked for
pub at-labels : (s : Stack) (oid : ℕ) (row : TypeRow) (d : Dialogue (List (List ℕ))) → d ≡ labels_of oid → behind [] d (labels_goes s oid row) ≡ searching_at s (made_by (find_over s oid) oid row Labels)
at-labels s oid row d e = ap (λ (x : Dialogue (List (List ℕ))). behind [] x (labels_goes s oid row)) e ∙ sym (at-behind s (labels_of oid) (or_answer (λ labels. keeps oid row (Enum labels))))

pub at-fields : (s : Stack) (oid : ℕ) (row : TypeRow) (relation : ℕ) (d : Dialogue FieldRows) → d ≡ field_rows relation → behind [] d (fields_goes s oid row) ≡ searching_at s (made_by (find_over s oid) oid row (Fields relation))
at-fields s oid row relation d e =
    ap (λ (x : Dialogue FieldRows). behind [] x (fields_goes s oid row)) e
    ∙ sym (at-behind s (field_rows relation) (or_answer (λ f. fields_by (find_over s oid) f.columns f.rows [] (λ fields. keeps oid row (Composite fields)))))
