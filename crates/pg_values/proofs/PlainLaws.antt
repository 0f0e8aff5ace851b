-- What is written is read as the same value, and no bytes spell null.
use Rattle.std.proofs.Common.{◌≡◌, inl, inr, ℕ, Bool, true, false, ◌==◌, List, [], ◌∷◌, Option, Some, None, Ok, ap, sym, ◌∙◌}
use Rattle.std.specs.Bool.{MatchBool}
use Rattle.pg_types.specs.declared.value.Value.{Value}
use Rattle.pg_types.specs.declared.value.Value.TheVariants as value
use Rattle.pg_types.specs.declared.pg_type.PgType.{PgType}
use Rattle.pg_types.specs.declared.pg_type.Kind as k
use Rattle.pg_values.specs.declared.datum.Datum as d
use Rattle.pg_values.specs.declared.datum.Datum.{Datum}
use Rattle.pg_values.specs.Supported.{is_timestamp, numeric, date, uuid, is_supported}
use Rattle.pg_values.specs.Scalars.{IsValue, IsDate, IsTimestamp, IsUuid}
use Rattle.pg_values.specs.Numerics.{SpellsNumeric, IsNumeral}
use Rattle.pg_values.specs.Parts.{SpellsPart, IsNext, SpellItems, AreItems}
use Rattle.pg_values.specs.Spelling.{SpellsScalar, SpellsKind, SpellsHeld, SpellFields, IsArray, IsRange, IsComposite, count_fields}
use Rattle.pg_values.specs.Reading.{IsTheValue}
use Rattle.pg_values.proofs.ValueLaws.{same_value, null_none}
use Rattle.pg_values.proofs.SingleValue.{kind_single}

-- ---- no bytes spell null

no_either : (b : Bool) (P Q : Type 0) → (P → ⊥) → (Q → ⊥) → MatchBool b P Q → ⊥
no_either true P Q p q is = p is
no_either false P Q p q is = q is

numeral_some : (sign scale : ℕ) (weight : _) (digits : List ℕ) → IsNumeral sign scale weight digits d.Null → ⊥
numeral_some sign scale weight digits (inl n) = absurd (cc n.same)
numeral_some sign scale weight digits (inr n) = absurd (cc n.same)

pub value_some : (n : ℕ) (bytes : List ℕ) → IsValue false n d.Null bytes → ⊥
value_some n bytes is =
    let same : value.Null ≡ is.value = same_value value.Null is.value is.same in
    null_none n bytes (is.spelled ∙ ap (λ (v : Value). Ok v) (sym same))

scalar_some : (n : ℕ) (bytes : List ℕ) → SpellsScalar false n d.Null bytes → ⊥
scalar_some n bytes =
    let id : Type 0 = MatchBool (n == uuid) (IsUuid d.Null bytes) (IsValue false n d.Null bytes) in
    let stamp : Type 0 = MatchBool (is_timestamp n) (IsTimestamp d.Null bytes) id in
    let day : Type 0 = MatchBool (n == date) (IsDate d.Null bytes) stamp in
    no_either (n == numeric) (SpellsNumeric false d.Null bytes) day (λ is. numeral_some is.sign is.scale is.weight is.digits is.is)
    (no_either (n == date) (IsDate d.Null bytes) stamp (λ is. absurd (cc is.same))
    (no_either (is_timestamp n) (IsTimestamp d.Null bytes) id (λ is. absurd (cc is.same))
    (no_either (n == uuid) (IsUuid d.Null bytes) (IsValue false n d.Null bytes) (λ is. absurd (cc is.same)) (value_some n bytes))))

mutual
  pub kind_some : (oid : ℕ) (kind : k.Kind) (bytes : List ℕ) → SpellsKind false oid kind d.Null bytes → ⊥
  kind_some oid k.Simple bytes is = scalar_some oid bytes is
  kind_some oid (k.Enum labels) bytes is = absurd (cc is.same)
  kind_some oid k.Pseudo bytes is = is
  kind_some oid (k.Array' name element shape kind schema) bytes is = absurd (cc is.same)
  kind_some oid (k.Range' name element shape kind schema) bytes is = absurd (cc is.same)
  kind_some oid (k.Domain' name base shape kind schema) bytes is = held_some base kind bytes is
  kind_some oid (k.Composite' shape fields) bytes is = absurd (cc is.same)

  pub held_some : {m : _} (oid : ℕ) (row : k.Row_of-Kind m) (bytes : List ℕ) → SpellsHeld false oid row d.Null bytes → ⊥
  held_some oid k.end_of-Kind bytes is = is
  held_some oid (k.more_of-Kind kind rest) bytes is = kind_some oid kind bytes is

-- ---- what is written is spelled

either_along : (b : Bool) (P Q R S : Type 0) → (P → R) → (Q → S) → MatchBool b P Q → MatchBool b R S
either_along true P Q R S p q is = p is
either_along false P Q R S p q is = q is

pub numeric_plain : (v : Datum) (bytes : List ℕ) → SpellsNumeric true v bytes → SpellsNumeric false v bytes
numeric_plain v bytes is = record {
  sign = is.sign;
  scale = is.scale;
  weight = is.weight;
  digits = is.digits;
  form = record {
    few = is.form.few;
    below = is.form.below;
    signed = is.form.signed;
    scaled = is.form.scaled;
    fits = is.form.fits;
    spelled = is.form.spelled;
    first = λ p. absurd (cc p);
    last = λ p. absurd (cc p);
  };
  is = is.is;
  bare = λ p. absurd (cc p);
}

value_plain : (n : ℕ) (v : Datum) (bytes : List ℕ) → IsValue true n v bytes → IsValue false n v bytes
value_plain n v bytes is = record { value = is.value; spelled = is.spelled; same = is.same; given = λ p. absurd (cc p) }

scalar_plain : (n : ℕ) (v : Datum) (bytes : List ℕ) → SpellsScalar true n v bytes → SpellsScalar false n v bytes
scalar_plain n v bytes =
    let id : Bool → Type 0 = λ p. MatchBool (n == uuid) (IsUuid v bytes) (IsValue p n v bytes) in
    let stamp : Bool → Type 0 = λ p. MatchBool (is_timestamp n) (IsTimestamp v bytes) (id p) in
    let day : Bool → Type 0 = λ p. MatchBool (n == date) (IsDate v bytes) (stamp p) in
    either_along (n == numeric) (SpellsNumeric true v bytes) (day true) (SpellsNumeric false v bytes) (day false) (numeric_plain v bytes)
    (either_along (n == date) (IsDate v bytes) (stamp true) (IsDate v bytes) (stamp false) (λ is. is)
    (either_along (is_timestamp n) (IsTimestamp v bytes) (id true) (IsTimestamp v bytes) (id false) (λ is. is)
    (either_along (n == uuid) (IsUuid v bytes) (IsValue true n v bytes) (IsUuid v bytes) (IsValue false n v bytes) (λ is. is) (value_plain n v bytes))))

abbrev Along : (S T : Datum → List ℕ → Type 0) → Type 0
Along S T = (v : Datum) (bytes : List ℕ) → S v bytes → T v bytes

part_along : (S T : Datum → List ℕ → Type 0) → Along S T → (part : Option (List ℕ)) (v : Datum) → SpellsPart S part v → SpellsPart T part v
part_along S T along None v is = is
part_along S T along (Some bytes) v is = along v bytes is

next_along : (nullable : Bool) (S T : Datum → List ℕ → Type 0) → Along S T → (v : Datum) (bytes rest : List ℕ) → IsNext nullable S v bytes rest → IsNext nullable T v bytes rest
next_along nullable S T along v bytes rest is = record { part = is.part; front = is.front; is = part_along S T along is.part v is.is }

items_along : (nullable : Bool) (S T : Datum → List ℕ → Type 0) → Along S T → (vs : List Datum) (bytes : List ℕ) → SpellItems nullable S vs bytes → SpellItems nullable T vs bytes
items_along nullable S T along [] bytes is = is
items_along nullable S T along (v ∷ vs) bytes is = (is.0, next_along nullable S T along v bytes is.0 is.1, items_along nullable S T along vs is.0 is.2)

are_along : (nullable : Bool) (S T : Datum → List ℕ → Type 0) → Along S T → (n : ℕ) (vs : List Datum) (bytes : List ℕ) → AreItems nullable S n vs bytes → AreItems nullable T n vs bytes
are_along nullable S T along n vs bytes is = record { count_is = is.count_is; are = items_along nullable S T along vs bytes is.are }

array_plain : (element : ℕ) (S T : Datum → List ℕ → Type 0) → Along S T → Along (IsArray true element S) (IsArray false element T)
array_plain element S T along v bytes is = record {
  dims = is.dims;
  items = is.items;
  flag = is.flag;
  rest = is.rest;
  same = is.same;
  front = is.front;
  are = are_along true S T along _ is.items is.rest is.are;
  spelled = is.spelled;
  flagged = λ p. absurd (cc p);
}

range_plain : (S T : Datum → List ℕ → Type 0) → Along S T → Along (IsRange true S) (IsRange false T)
range_plain S T along v bytes is = record {
  flags = is.flags;
  bounds = is.bounds;
  rest = is.rest;
  same = is.same;
  below = is.below;
  are = are_along false S T along _ is.bounds is.rest is.are;
  spelled = is.spelled;
  flagged = λ p. absurd (cc p);
}

composite_plain : (n : ℕ) (F G : List Datum → List ℕ → Type 0) → ((vs : List Datum) (bytes : List ℕ) → F vs bytes → G vs bytes) → Along (IsComposite n F) (IsComposite n G)
composite_plain n F G along v bytes is = record {
  fields = is.fields;
  rest = is.rest;
  same = is.same;
  few = is.few;
  fields_are = along is.fields is.rest is.fields_are;
  spelled = is.spelled;
}

mutual
  pub kind_plain : (oid : ℕ) (kind : k.Kind) → Along (SpellsKind true oid kind) (SpellsKind false oid kind)
  kind_plain oid k.Simple = λ v bytes is. scalar_plain oid v bytes is
  kind_plain oid (k.Enum labels) = λ v bytes is. is
  kind_plain oid k.Pseudo = λ v bytes is. is
  kind_plain oid (k.Array' name element shape kind schema) = array_plain element (SpellsHeld true element kind) (SpellsHeld false element kind) (held_plain element kind)
  kind_plain oid (k.Range' name element shape kind schema) = range_plain (SpellsHeld true element kind) (SpellsHeld false element kind) (held_plain element kind)
  kind_plain oid (k.Domain' name base shape kind schema) = held_plain base kind
  kind_plain oid (k.Composite' shape fields) = composite_plain (count_fields fields) (SpellFields true fields) (SpellFields false fields) (fields_plain fields)

  pub held_plain : {m : _} (oid : ℕ) (row : k.Row_of-Kind m) → Along (SpellsHeld true oid row) (SpellsHeld false oid row)
  held_plain oid k.end_of-Kind = λ v bytes is. is
  held_plain oid (k.more_of-Kind kind rest) = kind_plain oid kind

  pub fields_plain : {m : _} (row : k.Row_of-Field m) → (vs : List Datum) (bytes : List ℕ) → SpellFields true row vs bytes → SpellFields false row vs bytes
  fields_plain k.end_of-Field [] bytes is = is
  fields_plain k.end_of-Field (v ∷ vs) bytes is = absurd is
  fields_plain (k.more_of-Field field name oid shape kind schema rest) [] bytes is = absurd is
  fields_plain (k.more_of-Field field name oid shape kind schema rest) (v ∷ vs) bytes is =
      (is.0, is.1, is.2, next_along true (SpellsHeld true oid kind) (SpellsHeld false oid kind) (held_plain oid kind) v is.0 is.1 is.3, fields_plain rest vs is.1 is.4)

-- ---- and read again as the value

pub read_again : (ty : PgType) (v : Datum) (bytes : List ℕ) → is_supported ty ≡ true → SpellsKind true ty.oid ty.kind v bytes → IsTheValue ty (Some bytes) v
read_again ty v bytes supported is =
    let spelled : SpellsKind false ty.oid ty.kind v bytes = kind_plain ty.oid ty.kind v bytes is in
    record { supported = supported; spelled = spelled; only = λ w other. kind_single ty.oid ty.kind w v bytes other spelled }
