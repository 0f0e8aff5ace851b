-- What is sent is in the written form of its type.
use Rattle.std.proofs.Common.{◌≡◌, ◌≢◌, inl, inr, ℕ, ◌<◌, ◌≤◌, ◌+◌, ◌^◌, ◌==◌, ◌&&◌, Bool, true, false, if◌then◌else◌, List, [], ◌∷◌, ◌++◌, length, Option, Some, None, ap, refl, sym, ◌∙◌, subst, arith, w32}
use Rattle.std.specs.Bool.{nat_lt}
use Rattle.std.specs.Fmt.{◌++?◌}
use Rattle.std.specs.Bool.{MatchBool}
use Rattle.std.specs.Int.{to_be_bytes}
use Rattle.std.proofs.lemmas.Bool.{ltb-true}
use Rattle.pg_types.specs.declared.pg_type.Kind as k
use Rattle.pg_values.specs.declared.datum.Dim.{Dim}
use Rattle.pg_values.specs.declared.datum.Bound.{Bound}
use Rattle.pg_values.specs.declared.datum.Datum as d
use Rattle.pg_values.specs.declared.datum.Datum.{Datum}
use Rattle.pg_values.specs.Supported.{is_timestamp, numeric, date, uuid}
use Rattle.pg_values.specs.Numerics.{SpellsNumeric}
use Rattle.pg_values.specs.Scalars.{IsValue, IsDate, IsTimestamp, IsUuid}
use Rattle.pg_values.specs.Parts.{part_bytes, IsNext, SpellItems}
use Rattle.pg_values.specs.Sending.{numeric_send, date_send, timestamp_send, uuid_send, value_send, scalar_send, enum_send, is_null, part_send, value_or_null_send, items_send, array_in, array_of, array_send, may_be_array, null_flag, range_in, range_of, range_send, may_be_range, composite_in, record_of, record_send, kind_send, held_send, fields_send}
use Rattle.pg_values.specs.Spelling.{SpellsScalar, SpellsKind, SpellsHeld, SpellFields, IsArray, IsRange, IsComposite, array_front, count_fields, range_flags, values_of}
use Rattle.pg_values.proofs.FormLaws.{array_formed, range_formed, composite_formed}
use Rattle.pg_values.proofs.NumericSent.{numeric_formed}
use Rattle.pg_values.proofs.SentCases.{both, same_nat, null_is, flag_small, flag_null, array_fit, range_fit, inside_array, inside_range, inside_composite, ArrayIs, RangeIs, CompositeIs}
use Rattle.pg_values.proofs.SentValues.{SentSo, some_if, value_formed, date_formed, timestamp_formed, uuid_formed, enum_formed}
use Rattle.pg_values.proofs.WriteLaws.{null_part, some_part, next_behind}

-- ---- scalars

either_formed : (b : Bool) (x y : Option (List ℕ)) (bytes : List ℕ) (P Q : Type 0) → (x ≡ Some bytes → P) → (y ≡ Some bytes → Q) → (if b then x else y) ≡ Some bytes → MatchBool b P Q
either_formed true x y bytes P Q p q e = p e
either_formed false x y bytes P Q p q e = q e

scalar_formed : (n : ℕ) → SentSo (scalar_send n) (SpellsScalar true n)
scalar_formed n v bytes =
    let id : Type 0 = MatchBool (n == uuid) (IsUuid v bytes) (IsValue true n v bytes) in
    let stamp : Type 0 = MatchBool (is_timestamp n) (IsTimestamp v bytes) id in
    let day : Type 0 = MatchBool (n == date) (IsDate v bytes) stamp in
    let id_sent : Option (List ℕ) = if n == uuid then uuid_send v else value_send n v in
    let stamp_sent : Option (List ℕ) = if is_timestamp n then timestamp_send v else id_sent in
    let day_sent : Option (List ℕ) = if n == date then date_send v else stamp_sent in
    either_formed (n == numeric) (numeric_send v) day_sent bytes (SpellsNumeric true v bytes) day (numeric_formed v bytes)
    (either_formed (n == date) (date_send v) stamp_sent bytes (IsDate v bytes) stamp (date_formed v bytes)
    (either_formed (is_timestamp n) (timestamp_send v) id_sent bytes (IsTimestamp v bytes) id (timestamp_formed v bytes)
    (either_formed (n == uuid) (uuid_send v) (value_send n v) bytes (IsUuid v bytes) (IsValue true n v bytes) (uuid_formed v bytes) (value_formed n v bytes))))

-- ---- parts

abbrev Send : Type 0
Send = Datum → Option (List ℕ)

null_formed : (nullable : Bool) (S : Datum → List ℕ → Type 0) (v : Datum) (bytes : List ℕ) → v ≡ d.Null → (if nullable then Some (part_bytes None) else None) ≡ Some bytes → IsNext nullable S v bytes []
null_formed true S v bytes is e = let own : part_bytes None ≡ bytes = cc e in subst (λ (l : List ℕ). IsNext true S v l []) own (null_part S v is)
null_formed false S v bytes is e = absurd (cc e)

some_formed : (nullable : Bool) (send : Send) (S : Datum → List ℕ → Type 0) → SentSo send S → (v : Datum) (bytes : List ℕ) (o : Option (List ℕ)) → send v ≡ o → part_send o ≡ Some bytes
    → IsNext nullable S v bytes []
some_formed nullable send S so v bytes None e f = absurd (cc f)
some_formed nullable send S so v bytes (Some own) e f =
    let p = some_if (nat_lt (length own) (2 ^ 31)) (part_bytes (Some own)) bytes f in
    subst (λ (l : List ℕ). IsNext nullable S v l []) p.1 (some_part nullable S v own (ltb-true (length own) (2 ^ 31) p.0) (so v own e))

part_formed : (nullable : Bool) (send : Send) (S : Datum → List ℕ → Type 0) → SentSo send S → (v : Datum) (bytes : List ℕ) → value_or_null_send nullable send v ≡ Some bytes → IsNext nullable S v bytes []
part_formed nullable send S so v bytes = go (is_null v) refl
  where
    go : (b : Bool) → is_null v ≡ b → (if b then (if nullable then Some (part_bytes None) else None) else part_send (send v)) ≡ Some bytes → IsNext nullable S v bytes []
    go true is e = null_formed nullable S v bytes (null_is v is) e
    go false is e = some_formed nullable send S so v bytes (send v) refl e

-- two that are sent, one behind the other
record TwoSent (a b : Option (List ℕ)) (bytes : List ℕ) : Type 0 where
  one : List ℕ
  other : List ℕ
  one_is : a ≡ Some one
  other_is : b ≡ Some other
  joined : one ++ other ≡ bytes

two_sent : (a b : Option (List ℕ)) (bytes : List ℕ) → a ++? b ≡ Some bytes → TwoSent a b bytes
two_sent None b bytes e = absurd (cc e)
two_sent (Some x) None bytes e = absurd (cc e)
two_sent (Some x) (Some y) bytes e = record { one = x; other = y; one_is = refl; other_is = refl; joined = cc e }

items_formed : (nullable : Bool) (send : Send) (S : Datum → List ℕ → Type 0) → SentSo send S → (vs : List Datum) (bytes : List ℕ) → items_send nullable send vs ≡ Some bytes → SpellItems nullable S vs bytes
items_formed nullable send S so [] bytes e = let own : [] ≡ bytes = cc e in sym own
items_formed nullable send S so (v ∷ vs) bytes e =
    let two = two_sent (value_or_null_send nullable send v) (items_send nullable send vs) bytes e in
    let next : IsNext nullable S v (two.one ++ two.other) two.other = next_behind nullable S v two.one two.other (part_formed nullable send S so v two.one two.one_is) in
    (two.other, subst (λ (l : List ℕ). IsNext nullable S v l two.other) two.joined next, items_formed nullable send S so vs two.other two.other_is)

-- ---- values with parts

-- bytes that stand in front
front_sent : (front : List ℕ) (b : Option (List ℕ)) (bytes : List ℕ) → Some front ++? b ≡ Some bytes → (rest : List ℕ) × (b ≡ Some rest) × (front ++ rest ≡ bytes)
front_sent front None bytes e = absurd (cc e)
front_sent front (Some rest) bytes e = (rest, refl, cc e)

choice : (b : Bool) (o : Option (List ℕ)) (bytes : List ℕ) → (if b then o else None) ≡ Some bytes → (b ≡ true) × (o ≡ Some bytes)
choice true o bytes e = (refl, e)
choice false o bytes e = absurd (cc e)

array_of_formed : (element : ℕ) (send : Send) (S : Datum → List ℕ → Type 0) → SentSo send S → (dims : List Dim) (items : List Datum) (bytes : List ℕ) → array_of element send dims items ≡ Some bytes
    → IsArray true element S (d.Array dims items) bytes
array_of_formed element send S so dims items bytes e =
    let front : List ℕ = array_front (null_flag items) element dims in
    let p = choice (may_be_array dims (length items)) (Some front ++? items_send true send items) bytes e in
    let q = front_sent front (items_send true send items) bytes p.1 in
    let fit = array_fit dims (length items) p.0 in
    subst (λ (l : List ℕ). IsArray true element S (d.Array dims items) l) q.2
    (array_formed element S dims items (null_flag items) fit.0 fit.1 (flag_small items) (flag_null items) q.0 (items_formed true send S so items q.0 q.1))

array_sent_formed : (element : ℕ) (send : Send) (S : Datum → List ℕ → Type 0) → SentSo send S → SentSo (array_send element send) (IsArray true element S)
array_sent_formed element send S so v bytes = go (array_in v) (inside_array v)
  where
    go : (o : Option (List Dim × List Datum)) → ArrayIs v o → (elim o [ None ↦ None | Some a ↦ array_of element send a.0 a.1 ]) ≡ Some bytes → IsArray true element S v bytes
    go None is e = absurd (cc e)
    go (Some a) is e = subst (λ (w : Datum). IsArray true element S w bytes) (sym is) (array_of_formed element send S so a.0 a.1 bytes e)

range_of_formed : (send : Send) (S : Datum → List ℕ → Type 0) → SentSo send S → (empty : Bool) (lower upper : Bound) (bounds : List Datum) (bytes : List ℕ) → range_of send empty lower upper bounds ≡ Some bytes
    → IsRange true S (d.Range empty lower upper bounds) bytes
range_of_formed send S so empty lower upper bounds bytes e =
    let flags : ℕ = range_flags empty lower upper in
    let p = choice (may_be_range empty lower upper && (length bounds == values_of lower + values_of upper)) (Some (flags ∷ []) ++? items_send false send bounds) bytes e in
    let q = front_sent (flags ∷ []) (items_send false send bounds) bytes p.1 in
    let fit = both (may_be_range empty lower upper) (length bounds == values_of lower + values_of upper) p.0 in
    subst (λ (l : List ℕ). IsRange true S (d.Range empty lower upper bounds) l) q.2
    (range_formed S flags empty lower upper bounds (range_fit empty lower upper fit.0) (same_nat (length bounds) (values_of lower + values_of upper) fit.1) q.0
    (items_formed false send S so bounds q.0 q.1))

range_sent_formed : (send : Send) (S : Datum → List ℕ → Type 0) → SentSo send S → SentSo (range_send send) (IsRange true S)
range_sent_formed send S so v bytes = go (range_in v) (inside_range v)
  where
    go : (o : Option (Bool × Bound × Bound × List Datum)) → RangeIs v o → (elim o [ None ↦ None | Some r ↦ range_of send r.0 r.1 r.2 r.3 ]) ≡ Some bytes → IsRange true S v bytes
    go None is e = absurd (cc e)
    go (Some r) is e = subst (λ (w : Datum). IsRange true S w bytes) (sym is) (range_of_formed send S so r.0 r.1 r.2 r.3 bytes e)

record_of_formed : (n : ℕ) (send : List Datum → Option (List ℕ)) (F : List Datum → List ℕ → Type 0) → ((vs : List Datum) (bytes : List ℕ) → send vs ≡ Some bytes → F vs bytes)
    → (values : List Datum) (bytes : List ℕ) → record_of n send values ≡ Some bytes → IsComposite n F (d.Composite values) bytes
record_of_formed n send F so values bytes e =
    let front : List ℕ = to_be_bytes w32 n in
    let p = choice (nat_lt n (2 ^ 31)) (Some front ++? send values) bytes e in
    let q = front_sent front (send values) bytes p.1 in
    subst (λ (l : List ℕ). IsComposite n F (d.Composite values) l) q.2 (composite_formed n F values (ltb-true n (2 ^ 31) p.0) q.0 (so values q.0 q.1))

record_sent_formed : (n : ℕ) (send : List Datum → Option (List ℕ)) (F : List Datum → List ℕ → Type 0) → ((vs : List Datum) (bytes : List ℕ) → send vs ≡ Some bytes → F vs bytes)
    → SentSo (record_send n send) (IsComposite n F)
record_sent_formed n send F so v bytes = go (composite_in v) (inside_composite v)
  where
    go : (o : Option (List Datum)) → CompositeIs v o → (elim o [ None ↦ None | Some values ↦ record_of n send values ]) ≡ Some bytes → IsComposite n F v bytes
    go None is e = absurd (cc e)
    go (Some values) is e = subst (λ (w : Datum). IsComposite n F w bytes) (sym is) (record_of_formed n send F so values bytes e)

-- ---- all types

mutual
  pub kind_formed : (oid : ℕ) (kind : k.Kind) → SentSo (kind_send oid kind) (SpellsKind true oid kind)
  kind_formed oid k.Simple = λ v bytes e. scalar_formed oid v bytes e
  kind_formed oid (k.Enum labels) = λ v bytes e. enum_formed labels v bytes e
  kind_formed oid k.Pseudo = λ v bytes e. absurd (cc e)
  kind_formed oid (k.Array' name element shape kind schema) = array_sent_formed element (held_send element kind) (SpellsHeld true element kind) (held_formed element kind)
  kind_formed oid (k.Range' name element shape kind schema) = range_sent_formed (held_send element kind) (SpellsHeld true element kind) (held_formed element kind)
  kind_formed oid (k.Domain' name base shape kind schema) = held_formed base kind
  kind_formed oid (k.Composite' shape fields) = record_sent_formed (count_fields fields) (fields_send fields) (SpellFields true fields) (fields_formed fields)

  pub held_formed : {m : _} (oid : ℕ) (row : k.Row_of-Kind m) → SentSo (held_send oid row) (SpellsHeld true oid row)
  held_formed oid k.end_of-Kind = λ v bytes e. absurd (cc e)
  held_formed oid (k.more_of-Kind kind rest) = kind_formed oid kind

  pub fields_formed : {m : _} (row : k.Row_of-Field m) → (vs : List Datum) (bytes : List ℕ) → fields_send row vs ≡ Some bytes → SpellFields true row vs bytes
  fields_formed k.end_of-Field [] bytes e = let own : [] ≡ bytes = cc e in sym own
  fields_formed k.end_of-Field (v ∷ vs) bytes e = absurd (cc e)
  fields_formed (k.more_of-Field field name oid shape kind schema rest) [] bytes e = absurd (cc e)
  fields_formed (k.more_of-Field field name oid shape kind schema rest) (v ∷ vs) bytes e =
      let p = front_sent (to_be_bytes w32 oid) (value_or_null_send true (held_send oid kind) v ++? fields_send rest vs) bytes e in
      let two = two_sent (value_or_null_send true (held_send oid kind) v) (fields_send rest vs) p.0 p.1 in
      let next : IsNext true (SpellsHeld true oid kind) v (two.one ++ two.other) two.other =
      next_behind true (SpellsHeld true oid kind) v two.one two.other (part_formed true (held_send oid kind) (SpellsHeld true oid kind) (held_formed oid kind) v two.one two.one_is) in
      (p.0, two.other, sym p.2, subst (λ (l : List ℕ). IsNext true (SpellsHeld true oid kind) v l two.other) two.joined next, fields_formed rest vs two.other two.other_is)
