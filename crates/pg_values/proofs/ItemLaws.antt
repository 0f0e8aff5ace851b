-- Items and fields, one after another.
use Rattle.std.proofs.Common.{◌≡◌, ℕ, suc, ◌<◌, ◌≤◌, ◌+◌, ◌-◌, Bool, true, false, List, [], ◌∷◌, ◌++◌, length, drop, get_or, Option, ap, refl, sym, ◌∙◌, subst, arith, append_assoc, w32}
use Rattle.std.specs.Int.{to_be_bytes}
use Rattle.std.proofs.lemmas.List.{drop_more, drop_all, append-nil}
use Rattle.pg_types.specs.declared.pg_type.Field.{Field}
use Rattle.pg_types.proofs.KindLaws.{row_of}
use Rattle.pg_values.specs.declared.datum.Datum.{Datum}
use Rattle.pg_values.specs.Parts.{IsPart, IsNext, SpellsPart, SpellItems, AreItems}
use Rattle.pg_values.specs.Spelling.{SpellsKind, SpellFields, count_fields}
use Rattle.pg_values.proofs.ByteLaws.{word_rest}
use Rattle.pg_values.proofs.PartLaws.{part_only}

-- ---- items

-- the next item of any that are spelled, where the part in front is known
pub record HasItem (nullable : Bool) (S : Datum → List ℕ → Type 0) (n : ℕ) (part : Option (List ℕ)) (behind : List ℕ) : Type 0 where
  pub value : Datum
  pub is : SpellsPart S part value
  pub others : List Datum
  pub are : AreItems nullable S n others behind

pub next_item : (nullable : Bool) (S : Datum → List ℕ → Type 0) (n : ℕ) (vs : List Datum) (bytes : List ℕ) (part : Option (List ℕ)) (behind : List ℕ)
    → AreItems nullable S (suc n) vs bytes → IsPart nullable part bytes behind → HasItem nullable S n part behind
next_item nullable S n [] bytes part behind are front = absurd (omega (arith, are.count_is))
next_item nullable S n (v ∷ vs) bytes part behind are front =
    let next = are.are.1 in
    let only = part_only next.front front in
    record {
      value = v;
      is = subst (λ (p : Option (List ℕ)). SpellsPart S p v) only.0 next.is;
      others = vs;
      are = record { count_is = omega (arith, are.count_is); are = subst (λ (l : List ℕ). SpellItems nullable S vs l) only.1 are.are.2 };
    }

pub item_at : (nullable : Bool) (S : Datum → List ℕ → Type 0) (n i : ℕ) (vs : List Datum) (bytes : List ℕ) (part : Option (List ℕ)) (behind : List ℕ) → i < n
    → AreItems nullable S (n - i) vs bytes → IsPart nullable part bytes behind → HasItem nullable S (n - (i + 1)) part behind
item_at nullable S n i vs bytes part behind less are front =
    let e : n - i ≡ suc (n - (i + 1)) = omega arith in
    next_item nullable S (n - (i + 1)) vs bytes part behind (subst (λ (m : ℕ). AreItems nullable S m vs bytes) e are) front

-- no part is in front
no_item : (nullable : Bool) (S : Datum → List ℕ → Type 0) (n : ℕ) (vs : List Datum) (bytes : List ℕ) → AreItems nullable S (suc n) vs bytes
    → ((part : Option (List ℕ)) (rest : List ℕ) → IsPart nullable part bytes rest → ⊥) → ⊥
no_item nullable S n [] bytes are none = omega (arith, are.count_is)
no_item nullable S n (v ∷ vs) bytes are none = none are.are.1.part are.are.0 are.are.1.front

pub none_at : (nullable : Bool) (S : Datum → List ℕ → Type 0) (n i : ℕ) (vs : List Datum) (bytes : List ℕ) → i < n → AreItems nullable S (n - i) vs bytes
    → ((part : Option (List ℕ)) (rest : List ℕ) → IsPart nullable part bytes rest → ⊥) → ⊥
none_at nullable S n i vs bytes less are none =
    let e : n - i ≡ suc (n - (i + 1)) = omega arith in
    no_item nullable S (n - (i + 1)) vs bytes (subst (λ (m : ℕ). AreItems nullable S m vs bytes) e are) none

-- none is left
all_read : (nullable : Bool) (S : Datum → List ℕ → Type 0) (vs : List Datum) (bytes : List ℕ) → length vs ≡ 0 → SpellItems nullable S vs bytes → bytes ≡ []
all_read nullable S [] bytes e are = are
all_read nullable S (v ∷ vs) bytes e are = absurd (omega (arith, e))

pub none_left : (nullable : Bool) (S : Datum → List ℕ → Type 0) (n i : ℕ) (vs : List Datum) (bytes : List ℕ) → n ≤ i → AreItems nullable S (n - i) vs bytes → bytes ≡ []
none_left nullable S n i vs bytes less are = all_read nullable S vs bytes (omega (arith, are.count_is, less)) are.are

-- one more item in front of those that are left
pub items_more : (nullable : Bool) (S : Datum → List ℕ → Type 0) (vs : List Datum) (v : Datum) (bytes rest behind : List ℕ) (part : Option (List ℕ))
    → ((tail : List Datum) → SpellItems nullable S tail rest → SpellItems nullable S (vs ++ tail) bytes)
    → IsPart nullable part rest behind → SpellsPart S part v
    → (tail : List Datum) → SpellItems nullable S tail behind → SpellItems nullable S (vs ++ v ∷ [] ++ tail) bytes
items_more nullable S vs v bytes rest behind part whole front is tail are =
    let n : IsNext nullable S v rest behind = record { part = part; front = front; is = is } in
    subst (λ (l : List Datum). SpellItems nullable S l bytes) (sym (append_assoc vs (v ∷ []) tail)) (whole (v ∷ tail) (behind, n, are))

-- nothing behind them
pub items_end : (nullable : Bool) (S : Datum → List ℕ → Type 0) (vs : List Datum) (bytes rest : List ℕ)
    → ((tail : List Datum) → SpellItems nullable S tail rest → SpellItems nullable S (vs ++ tail) bytes) → rest ≡ [] → SpellItems nullable S vs bytes
items_end nullable S vs bytes rest whole e = subst (λ (l : List Datum). SpellItems nullable S l bytes) (append-nil vs) (whole [] e)

-- ---- fields

pub at_field : (fs : List Field) (i : ℕ) (f : Field) → i < length fs → f ≡ get_or fs i f → drop i fs ≡ f ∷ drop (i + 1) fs
at_field fs i f less is = drop_more fs i f less ∙ ap (λ (y : Field). y ∷ drop (i + 1) fs) (sym is)

-- what the fields from a place on spell
abbrev pub FieldsFrom : List Field → ℕ → List Datum → List ℕ → Type 0
FieldsFrom fs i vs bytes = SpellFields false (row_of (drop i fs)) vs bytes

pub record HasField (S : Datum → List ℕ → Type 0) (F : List Datum → List ℕ → Type 0) (oid : ℕ) (bytes : List ℕ) : Type 0 where
  pub behind : List ℕ
  pub after : List ℕ
  pub value : Datum
  pub others : List Datum
  pub oid_is : bytes ≡ to_be_bytes w32 oid ++ behind
  pub next : IsNext true S value behind after
  pub are : F others after

has_field : (f : Field) (fs : List Field) (vs : List Datum) (bytes : List ℕ) → SpellFields false (row_of (f ∷ fs)) vs bytes
    → HasField (SpellsKind false f.type_.oid f.type_.kind) (SpellFields false (row_of fs)) f.type_.oid bytes
has_field f fs [] bytes are = absurd are
has_field f fs (v ∷ vs) bytes are = record { behind = are.0; after = are.1; value = v; others = vs; oid_is = are.2; next = are.3; are = are.4 }

pub field_at : (fs : List Field) (i : ℕ) (f : Field) (vs : List Datum) (bytes : List ℕ) → i < length fs → f ≡ get_or fs i f → FieldsFrom fs i vs bytes
    → HasField (SpellsKind false f.type_.oid f.type_.kind) (FieldsFrom fs (i + 1)) f.type_.oid bytes
field_at fs i f vs bytes less is are = has_field f (drop (i + 1) fs) vs bytes (subst (λ (l : List Field). SpellFields false (row_of l) vs bytes) (at_field fs i f less is) are)

-- the part behind the number in front
pub field_behind : (S : Datum → List ℕ → Type 0) (F : List Datum → List ℕ → Type 0) (oid : ℕ) (bytes behind : List ℕ) (has : HasField S F oid bytes)
    → bytes ≡ to_be_bytes w32 oid ++ behind → IsNext true S has.value behind has.after
field_behind S F oid bytes behind has e =
    subst (λ (l : List ℕ). IsNext true S has.value l has.after) (word_rest oid oid has.behind behind (sym has.oid_is ∙ e)) has.next

-- the part behind it
pub field_part : (S : Datum → List ℕ → Type 0) (F : List Datum → List ℕ → Type 0) (v : Datum) (vs : List Datum) (bytes after behind : List ℕ) (part : Option (List ℕ))
    → IsNext true S v bytes after → F vs after → IsPart true part bytes behind → SpellsPart S part v × F vs behind
field_part S F v vs bytes after behind part next are front =
    let only = part_only next.front front in
    (subst (λ (p : Option (List ℕ)). SpellsPart S p v) only.0 next.is, subst (λ (l : List ℕ). F vs l) only.1 are)

-- one more field in front of those that are left
pub fields_more : (fs : List Field) (i : ℕ) (f : Field) (vs : List Datum) (v : Datum) (bytes rest behind after : List ℕ) (part : Option (List ℕ)) → i < length fs → f ≡ get_or fs i f
    → ((tail : List Datum) → FieldsFrom fs i tail rest → SpellFields false (row_of fs) (vs ++ tail) bytes)
    → rest ≡ to_be_bytes w32 f.type_.oid ++ behind → IsPart true part behind after → SpellsPart (SpellsKind false f.type_.oid f.type_.kind) part v
    → (tail : List Datum) → FieldsFrom fs (i + 1) tail after → SpellFields false (row_of fs) (vs ++ v ∷ [] ++ tail) bytes
fields_more fs i f vs v bytes rest behind after part less is whole oid front spelled tail are =
    let n : IsNext true (SpellsKind false f.type_.oid f.type_.kind) v behind after = record { part = part; front = front; is = spelled } in
    let here : SpellFields false (row_of (f ∷ drop (i + 1) fs)) (v ∷ tail) rest = (behind, after, oid, n, are) in
    subst (λ (l : List Datum). SpellFields false (row_of fs) l bytes) (sym (append_assoc vs (v ∷ []) tail))
    (whole (v ∷ tail) (subst (λ (l : List Field). SpellFields false (row_of l) (v ∷ tail) rest) (sym (at_field fs i f less is)) here))

-- nothing behind them
no_fields : (vs : List Datum) (bytes : List ℕ) → SpellFields false (row_of []) vs bytes → (vs ≡ []) × (bytes ≡ [])
no_fields [] bytes e = (refl, e)
no_fields (v ∷ vs) bytes e = absurd e

pub fields_over : (fs : List Field) (i : ℕ) (vs : List Datum) (bytes : List ℕ) → length fs ≤ i → FieldsFrom fs i vs bytes → bytes ≡ []
fields_over fs i vs bytes less are = (no_fields vs bytes (subst (λ (l : List Field). SpellFields false (row_of l) vs bytes) (drop_all i fs less) are)).1

pub fields_end : (fs : List Field) (i : ℕ) (vs : List Datum) (bytes rest : List ℕ) → length fs ≤ i
    → ((tail : List Datum) → FieldsFrom fs i tail rest → SpellFields false (row_of fs) (vs ++ tail) bytes) → rest ≡ [] → SpellFields false (row_of fs) vs bytes
fields_end fs i vs bytes rest less whole e =
    let none : SpellFields false (row_of []) [] rest = e in
    subst (λ (l : List Datum). SpellFields false (row_of fs) l bytes) (append-nil vs)
    (whole [] (subst (λ (l : List Field). SpellFields false (row_of l) [] rest) (sym (drop_all i fs less)) none))

-- how many they are
pub count_is : (fs : List Field) → count_fields (row_of fs) ≡ length fs
count_is [] = refl
count_is (f ∷ fs) = let rest = count_is fs in omega (arith, rest)
