-- No bytes spell what isn't sent.
use Rattle.std.proofs.Common.{◌≡◌, ◌≢◌, ◌⊎◌, inl, inr, ℕ, ◌<◌, ◌≤◌, ◌+◌, ◌^◌, ◌==◌, ◌&&◌, Bool, true, false, if◌then◌else◌, List, [], ◌∷◌, ◌++◌, length, Option, Some, None, ap, refl, sym, ◌∙◌, subst, arith, w32}
use Rattle.std.specs.Bool.{nat_lt}
use Rattle.std.specs.Fmt.{◌++?◌}
use Rattle.std.specs.Bool.{MatchBool}
use Rattle.std.specs.Int.{to_be_bytes}
use Rattle.std.proofs.lemmas.Bool.{ltb-false}
use Rattle.pg_types.specs.declared.pg_type.Kind as k
use Rattle.pg_values.specs.declared.datum.Dim.{Dim}
use Rattle.pg_values.specs.declared.datum.Bound.{Bound}
use Rattle.pg_values.specs.declared.datum.Datum as d
use Rattle.pg_values.specs.declared.datum.Datum.{Datum}
use Rattle.pg_values.specs.Supported.{is_timestamp, numeric, date, uuid}
use Rattle.pg_values.specs.Numerics.{SpellsNumeric}
use Rattle.pg_values.specs.Scalars.{IsValue, IsDate, IsTimestamp, IsUuid}
use Rattle.pg_values.specs.Parts.{part_bytes, IsPart, IsNext, SpellsPart, SpellItems}
use Rattle.pg_values.specs.Sending.{numeric_send, date_send, timestamp_send, uuid_send, value_send, scalar_send, enum_send, is_null, part_send, value_or_null_send, items_send, array_in, array_of, array_send, may_be_array, null_flag, range_in, range_of, range_send, may_be_range, composite_in, record_of, record_send, kind_send, held_send, fields_send}
use Rattle.pg_values.specs.Spelling.{SpellsScalar, SpellsKind, SpellsHeld, SpellFields, IsArray, IsRange, IsComposite, array_front, count_fields, range_flags, values_of}
use Rattle.pg_values.specs.Writing.{AreBytes, HasNone}
use Rattle.pg_values.proofs.FormLaws.{array_none, array_unfit, no_array, range_none, range_unfit, range_uncounted, no_range, composite_none, composite_many, no_composite}
use Rattle.pg_values.proofs.NumericSent.{numeric_unsent}
use Rattle.pg_values.proofs.PlainLaws.{held_some, held_plain}
use Rattle.pg_values.proofs.SentCases.{and_both, nat_same, null_is, some_is, fit_array, fit_range, inside_array, inside_range, inside_composite, ArrayIs, RangeIs, CompositeIs}
use Rattle.pg_values.proofs.SentForms.{held_formed}
use Rattle.pg_values.proofs.SentValues.{SentSo, UnsentSo, none_if, value_unsent, date_unsent, timestamp_unsent, uuid_unsent, enum_unsent}
use Rattle.pg_values.proofs.ShortLaws.{held_short}
use Rattle.pg_values.proofs.WriteLaws.{no_part, no_next, bytes_behind, rest_bytes, moved}

-- ---- scalars

either_unsent : (b : Bool) (x y : Option (List ℕ)) (P Q : List ℕ → Type 0) → (x ≡ None → HasNone P) → (y ≡ None → HasNone Q) → (if b then x else y) ≡ None → HasNone (λ bytes. MatchBool b (P bytes) (Q bytes))
either_unsent true x y P Q p q e = p e
either_unsent false x y P Q p q e = q e

scalar_unsent : (n : ℕ) → UnsentSo (scalar_send n) (SpellsScalar false n)
scalar_unsent n v =
    let id : List ℕ → Type 0 = λ bytes. MatchBool (n == uuid) (IsUuid v bytes) (IsValue false n v bytes) in
    let stamp : List ℕ → Type 0 = λ bytes. MatchBool (is_timestamp n) (IsTimestamp v bytes) (id bytes) in
    let day : List ℕ → Type 0 = λ bytes. MatchBool (n == date) (IsDate v bytes) (stamp bytes) in
    let id_sent : Option (List ℕ) = if n == uuid then uuid_send v else value_send n v in
    let stamp_sent : Option (List ℕ) = if is_timestamp n then timestamp_send v else id_sent in
    let day_sent : Option (List ℕ) = if n == date then date_send v else stamp_sent in
    either_unsent (n == numeric) (numeric_send v) day_sent (SpellsNumeric false v) day (numeric_unsent v)
    (either_unsent (n == date) (date_send v) stamp_sent (IsDate v) stamp (date_unsent v)
    (either_unsent (is_timestamp n) (timestamp_send v) id_sent (IsTimestamp v) id (timestamp_unsent v)
    (either_unsent (n == uuid) (uuid_send v) (value_send n v) (IsUuid v) (IsValue false n v) (uuid_unsent v) (value_unsent n v))))

-- ---- parts, of a type that a type holds

-- what isn't sent isn't spelled, and the other way what is sent is spelled by bytes that are no longer than any
record Holds (send : Datum → Option (List ℕ)) (S : Datum → List ℕ → Type 0) : Type 0 where
  unsent : UnsentSo send S
  some : (bytes : List ℕ) → S d.Null bytes → ⊥
  short : (v : Datum) (own bytes : List ℕ) → send v ≡ Some own → S v bytes → length own ≤ length bytes

abbrev Send : Type 0
Send = Datum → Option (List ℕ)

null_refused : (nullable : Bool) (S : Datum → List ℕ → Type 0) (v : Datum) → ((bytes : List ℕ) → S d.Null bytes → ⊥) → v ≡ d.Null → (if nullable then Some (part_bytes None) else None) ≡ None
    → HasNone (λ b. IsNext nullable S v b [])
null_refused true S v some is e = absurd (cc e)
null_refused false S v some is e = no_part false S v (inr refl) (λ bytes are spelled. some bytes (subst (λ (w : Datum). S w bytes) is spelled))

-- bytes that no length field can say
long_refused : (nullable : Bool) (send : Send) (S : Datum → List ℕ → Type 0) → Holds send S → (v : Datum) (own : List ℕ) → v ≢ d.Null → send v ≡ Some own → 2 ^ 31 ≤ length own
    → HasNone (λ b. IsNext nullable S v b [])
long_refused nullable send S holds v own some sent long bytes are next = go next.part next.front next.is
  where
    go : (part : Option (List ℕ)) → IsPart nullable part bytes [] → SpellsPart S part v → ⊥
    go None front is = some is
    go (Some other) front is =
        let fits : length other < 2 ^ 31 = front.fits in
        let less = holds.short v own other sent is in
        omega (arith, fits, less, long)

some_refused : (nullable : Bool) (send : Send) (S : Datum → List ℕ → Type 0) → Holds send S → (v : Datum) → v ≢ d.Null → (o : Option (List ℕ)) → send v ≡ o → part_send o ≡ None
    → HasNone (λ b. IsNext nullable S v b [])
some_refused nullable send S holds v some None e f = no_part nullable S v (inl some) (holds.unsent v e)
some_refused nullable send S holds v some (Some own) e f =
    long_refused nullable send S holds v own some e (ltb-false (length own) (2 ^ 31) (none_if (nat_lt (length own) (2 ^ 31)) (part_bytes (Some own)) f))

part_unsent : (nullable : Bool) (send : Send) (S : Datum → List ℕ → Type 0) → Holds send S → (v : Datum) → value_or_null_send nullable send v ≡ None → HasNone (λ b. IsNext nullable S v b [])
part_unsent nullable send S holds v = go (is_null v) refl
  where
    go : (b : Bool) → is_null v ≡ b → (if b then (if nullable then Some (part_bytes None) else None) else part_send (send v)) ≡ None → HasNone (λ b. IsNext nullable S v b [])
    go true is e = null_refused nullable S v holds.some (null_is v is) e
    go false is e = some_refused nullable send S holds v (some_is v is) (send v) refl e

-- where two aren't sent one behind the other, one isn't
one_unsent : (a b : Option (List ℕ)) → a ++? b ≡ None → (a ≡ None) ⊎ (b ≡ None)
one_unsent None b e = inl refl
one_unsent (Some x) None e = inr refl
one_unsent (Some x) (Some y) e = absurd (cc e)

items_unsent : (nullable : Bool) (send : Send) (S : Datum → List ℕ → Type 0) → Holds send S → (vs : List Datum) → items_send nullable send vs ≡ None → HasNone (SpellItems nullable S vs)
items_unsent nullable send S holds [] e bytes are spelled = absurd (cc e)
items_unsent nullable send S holds (v ∷ vs) e bytes are spelled = go (one_unsent (value_or_null_send nullable send v) (items_send nullable send vs) e) (items_unsent nullable send S holds vs)
  where
    go : (value_or_null_send nullable send v ≡ None) ⊎ (items_send nullable send vs ≡ None) → (items_send nullable send vs ≡ None → HasNone (SpellItems nullable S vs)) → ⊥
    go (inl none) others = no_next nullable S v bytes spelled.0 (part_unsent nullable send S holds v none) are spelled.1
    go (inr none) others = others none spelled.0 (bytes_behind nullable S v bytes spelled.0 are spelled.1) spelled.2

-- ---- values with parts

front_unsent : (front : List ℕ) (b : Option (List ℕ)) → Some front ++? b ≡ None → b ≡ None
front_unsent front None e = refl
front_unsent front (Some rest) e = absurd (cc e)

array_of_unsent : (element : ℕ) (send : Send) (S : Datum → List ℕ → Type 0) → Holds send S → (dims : List Dim) (items : List Datum) → array_of element send dims items ≡ None
    → HasNone (IsArray false element S (d.Array dims items))
array_of_unsent element send S holds dims items = go (may_be_array dims (length items)) refl
  where
    go : (b : Bool) → may_be_array dims (length items) ≡ b → (if b then Some (array_front (null_flag items) element dims) ++? items_send true send items else None) ≡ None
        → HasNone (IsArray false element S (d.Array dims items))
    go true is e = array_none element S dims items (items_unsent true send S holds items (front_unsent (array_front (null_flag items) element dims) (items_send true send items) e))
    go false is e = array_unfit element S dims items (λ fit. absurd (cc (fit_array dims (length items) fit, is)))

array_unsent : (element : ℕ) (send : Send) (S : Datum → List ℕ → Type 0) → Holds send S → UnsentSo (array_send element send) (IsArray false element S)
array_unsent element send S holds v = go (array_in v) (inside_array v)
  where
    go : (o : Option (List Dim × List Datum)) → ArrayIs v o → ◌≡◌ {A = Option (List ℕ)} (elim o [ None ↦ None | Some a ↦ array_of element send a.0 a.1 ]) None → HasNone (IsArray false element S v)
    go None is e = no_array element S v is
    go (Some a) is e = subst (λ (w : Datum). HasNone (IsArray false element S w)) (sym is) (array_of_unsent element send S holds a.0 a.1 e)

range_of_unsent : (send : Send) (S : Datum → List ℕ → Type 0) → Holds send S → (empty : Bool) (lower upper : Bound) (bounds : List Datum) → range_of send empty lower upper bounds ≡ None
    → HasNone (IsRange false S (d.Range empty lower upper bounds))
range_of_unsent send S holds empty lower upper bounds = go (may_be_range empty lower upper) (length bounds == values_of lower + values_of upper) refl refl
  where
    go : (a b : Bool) → may_be_range empty lower upper ≡ a → (length bounds == values_of lower + values_of upper) ≡ b
        → (if a && b then Some (range_flags empty lower upper ∷ []) ++? items_send false send bounds else None) ≡ None → HasNone (IsRange false S (d.Range empty lower upper bounds))
    go true true p q e = range_none S empty lower upper bounds (items_unsent false send S holds bounds (front_unsent (range_flags empty lower upper ∷ []) (items_send false send bounds) e))
    go true false p q e = range_uncounted S empty lower upper bounds (λ same. absurd (cc (nat_same (length bounds) (values_of lower + values_of upper) same, q)))
    go false b p q e = range_unfit S empty lower upper bounds (λ flags x y z. absurd (cc (fit_range flags empty lower upper x y z, p)))

range_unsent : (send : Send) (S : Datum → List ℕ → Type 0) → Holds send S → UnsentSo (range_send send) (IsRange false S)
range_unsent send S holds v = go (range_in v) (inside_range v)
  where
    go : (o : Option (Bool × Bound × Bound × List Datum)) → RangeIs v o → ◌≡◌ {A = Option (List ℕ)} (elim o [ None ↦ None | Some r ↦ range_of send r.0 r.1 r.2 r.3 ]) None → HasNone (IsRange false S v)
    go None is e = no_range S v is
    go (Some r) is e = subst (λ (w : Datum). HasNone (IsRange false S w)) (sym is) (range_of_unsent send S holds r.0 r.1 r.2 r.3 e)

record_of_unsent : (n : ℕ) (send : List Datum → Option (List ℕ)) (F : List Datum → List ℕ → Type 0) → ((vs : List Datum) → send vs ≡ None → HasNone (F vs))
    → (values : List Datum) → record_of n send values ≡ None → HasNone (IsComposite n F (d.Composite values))
record_of_unsent n send F so values = go (nat_lt n (2 ^ 31)) refl
  where
    go : (b : Bool) → nat_lt n (2 ^ 31) ≡ b → (if b then Some (to_be_bytes w32 n) ++? send values else None) ≡ None → HasNone (IsComposite n F (d.Composite values))
    go true is e = composite_none n F values (so values (front_unsent (to_be_bytes w32 n) (send values) e))
    go false is e = composite_many n F (d.Composite values) (ltb-false n (2 ^ 31) is)

record_unsent : (n : ℕ) (send : List Datum → Option (List ℕ)) (F : List Datum → List ℕ → Type 0) → ((vs : List Datum) → send vs ≡ None → HasNone (F vs)) → UnsentSo (record_send n send) (IsComposite n F)
record_unsent n send F so v = go (composite_in v) (inside_composite v)
  where
    go : (o : Option (List Datum)) → CompositeIs v o → ◌≡◌ {A = Option (List ℕ)} (elim o [ None ↦ None | Some values ↦ record_of n send values ]) None → HasNone (IsComposite n F v)
    go None is e = no_composite n F v is
    go (Some values) is e = subst (λ (w : Datum). HasNone (IsComposite n F w)) (sym is) (record_of_unsent n send F so values e)

-- a field, and those behind it
field_unsent : (oid : ℕ) (send : Send) (S : Datum → List ℕ → Type 0) → Holds send S → (F : List Datum → List ℕ → Type 0) (v : Datum) (vs : List Datum) (behind after : List ℕ) (sent : Option (List ℕ))
    → (sent ≡ None → HasNone (F vs)) → (value_or_null_send true send v ≡ None) ⊎ (sent ≡ None) → AreBytes behind → IsNext true S v behind after → F vs after → ⊥
field_unsent oid send S holds F v vs behind after sent so (inl none) are next others = no_next true S v behind after (part_unsent true send S holds v none) are next
field_unsent oid send S holds F v vs behind after sent so (inr none) are next others = so none after (bytes_behind true S v behind after are next) others

-- ---- all types

holds_of : {m : _} (oid : ℕ) (row : k.Row_of-Kind m) → UnsentSo (held_send oid row) (SpellsHeld false oid row) → Holds (held_send oid row) (SpellsHeld false oid row)
holds_of oid row unsent = record {
  unsent = unsent;
  some = held_some oid row;
  short = λ v own bytes sent is. held_short oid row v own bytes (held_formed oid row v own sent) is;
}

mutual
  pub kind_unsent : (oid : ℕ) (kind : k.Kind) → UnsentSo (kind_send oid kind) (SpellsKind false oid kind)
  kind_unsent oid k.Simple = λ v e. scalar_unsent oid v e
  kind_unsent oid (k.Enum labels) = λ v e. enum_unsent labels v e
  kind_unsent oid k.Pseudo = λ v e bytes are is. absurd is
  kind_unsent oid (k.Array' name element shape kind schema) = array_unsent element (held_send element kind) (SpellsHeld false element kind) (holds_of element kind (held_unsent element kind))
  kind_unsent oid (k.Range' name element shape kind schema) = range_unsent (held_send element kind) (SpellsHeld false element kind) (holds_of element kind (held_unsent element kind))
  kind_unsent oid (k.Domain' name base shape kind schema) = held_unsent base kind
  kind_unsent oid (k.Composite' shape fields) = record_unsent (count_fields fields) (fields_send fields) (SpellFields false fields) (fields_unsent fields)

  held_unsent : {m : _} (oid : ℕ) (row : k.Row_of-Kind m) → UnsentSo (held_send oid row) (SpellsHeld false oid row)
  held_unsent oid k.end_of-Kind = λ v e bytes are is. absurd is
  held_unsent oid (k.more_of-Kind kind rest) = kind_unsent oid kind

  fields_unsent : {m : _} (row : k.Row_of-Field m) → (vs : List Datum) → fields_send row vs ≡ None → HasNone (SpellFields false row vs)
  fields_unsent k.end_of-Field [] e = absurd (cc e)
  fields_unsent k.end_of-Field (v ∷ vs) e = λ bytes are is. absurd is
  fields_unsent (k.more_of-Field field name oid shape kind schema rest) [] e = λ bytes are is. absurd is
  fields_unsent (k.more_of-Field field name oid shape kind schema rest) (v ∷ vs) e = λ bytes are is.
      let behind = rest_bytes (to_be_bytes w32 oid) is.0 (moved is.2 are) in
      field_unsent oid (held_send oid kind) (SpellsHeld false oid kind) (holds_of oid kind (held_unsent oid kind)) (SpellFields false rest) v vs is.0 is.1 (fields_send rest vs) (fields_unsent rest vs)
      (one_unsent (value_or_null_send true (held_send oid kind) v) (fields_send rest vs) (front_unsent (to_be_bytes w32 oid) (value_or_null_send true (held_send oid kind) v ++? fields_send rest vs) e))
      behind is.3 is.4
