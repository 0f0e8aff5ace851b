-- Bytes spell at most one value.
use Rattle.std.proofs.Common.{◌≡◌, ◌⊎◌, inl, inr, ℕ, ℤ, pos, ◌≤ℤ◌, unsigned_abs, ◌≤◌, ◌+◌, ◌*◌, ◌/◌, ◌^◌, Bool, true, false, ◌==◌, List, [], ◌∷◌, ◌++◌, length, Option, Some, None, Ok, ap, refl, sym, ◌∙◌, subst, arith, w32}
use Rattle.std.specs.Bool.{MatchBool}
use Rattle.std.specs.Int.{to_be_bytes}
use Rattle.std.proofs.lemmas.Int.{ints}
use Rattle.std.proofs.Math.Nat.{one-le-pow, mul-div_cancel}
use Rattle.pg_types.specs.declared.pg_type.Kind as k
use Rattle.pg_values.specs.declared.datum.Dim.{Dim}
use Rattle.pg_values.specs.declared.datum.Datum as d
use Rattle.pg_values.specs.declared.datum.Datum.{Datum}
use Rattle.pg_values.specs.Supported.{is_timestamp, numeric, date, uuid}
use Rattle.pg_values.specs.Scalars.{datum_of, IsValue, IsDate, IsTimestamp, IsUuid}
use Rattle.pg_values.specs.Numerics.{SpellsNumeric, IsNumeral, shift}
use Rattle.pg_values.specs.Parts.{SpellsPart, IsNext, SpellItems, AreItems}
use Rattle.pg_values.specs.Spelling.{SpellsScalar, SpellsKind, SpellsHeld, SpellFields, IsArray, IsRange, IsComposite, has_flag, lower_by, upper_by, values_of, count_of, count_fields}
use Rattle.pg_values.proofs.ByteLaws.{word_rest}
use Rattle.pg_values.proofs.DigitLaws.{numeral_same}
use Rattle.pg_values.proofs.PartLaws.{part_only}
use Rattle.pg_values.proofs.ArrayLaws.{front_only}

-- ---- scalars

value_only : (oid : ℕ) (v w : Datum) (bytes : List ℕ) → IsValue false oid v bytes → IsValue false oid w bytes → v ≡ w
value_only oid v w bytes a b =
    let e : Ok a.value ≡ Ok b.value = sym a.spelled ∙ b.spelled in
    let same : a.value ≡ b.value = cc e in
    a.same ∙ ap datum_of same ∙ sym b.same

same_size : (m n k : ℕ) → m * 10000 ^ k ≡ n * 10000 ^ k → m ≡ n
same_size m n k e =
    let some : 1 ≤ 10000 ^ k = one-le-pow k 10000 (omega arith) in
    sym (mul-div_cancel m some) ∙ ap (λ (x : ℕ). x / 10000 ^ k) e ∙ mul-div_cancel n some

both_above : (y z : ℤ) → pos 0 ≤ℤ y → pos 0 ≤ℤ z → unsigned_abs y ≡ unsigned_abs z → y ≡ z
both_above y z a b e = omega (arith, ints, a, b, e)

both_below : (y z : ℤ) → y ≤ℤ pos 0 → z ≤ℤ pos 0 → unsigned_abs y ≡ unsigned_abs z → y ≡ z
both_below y z a b e = omega (arith, ints, a, b, e)

signed_only : (sign : ℕ) (y z : ℤ) → (sign ≡ 0) × (pos 0 ≤ℤ y) ⊎ (sign ≡ 16384) × (y ≤ℤ pos 0) → (sign ≡ 0) × (pos 0 ≤ℤ z) ⊎ (sign ≡ 16384) × (z ≤ℤ pos 0)
    → unsigned_abs y ≡ unsigned_abs z → y ≡ z
signed_only sign y z (inl a) (inl b) e = both_above y z a.1 b.1 e
signed_only sign y z (inl a) (inr b) e = absurd (omega (arith, a.0, b.0))
signed_only sign y z (inr a) (inl b) e = absurd (omega (arith, a.0, b.0))
signed_only sign y z (inr a) (inr b) e = both_below y z a.1 b.1 e

number_sign : (sign : ℕ) (y : ℤ) → (sign ≡ 0) × (pos 0 ≤ℤ y) ⊎ (sign ≡ 16384) × (y ≤ℤ pos 0) → sign ≡ 49152 → ⊥
number_sign sign y (inl a) e = omega (arith, a.0, e)
number_sign sign y (inr a) e = omega (arith, a.0, e)

numeral_only : (sign scale : ℕ) (weight : ℤ) (digits : List ℕ) (v w : Datum) → IsNumeral sign scale weight digits v → IsNumeral sign scale weight digits w → v ≡ w
numeral_only sign scale weight digits v w (inl a) (inl b) =
    let size : unsigned_abs a.unscaled ≡ unsigned_abs b.unscaled =
    same_size (unsigned_abs a.unscaled) (unsigned_abs b.unscaled) (shift weight (length digits)) (sym a.number ∙ b.number) in
    let same : a.unscaled ≡ b.unscaled = signed_only sign a.unscaled b.unscaled a.signs b.signs size in
    a.same ∙ ap (λ (z : ℤ). d.Numeric z scale) same ∙ sym b.same
numeral_only sign scale weight digits v w (inl a) (inr b) = absurd (number_sign sign a.unscaled a.signs b.sign_is)
numeral_only sign scale weight digits v w (inr a) (inl b) = absurd (number_sign sign b.unscaled b.signs a.sign_is)
numeral_only sign scale weight digits v w (inr a) (inr b) = a.same ∙ sym b.same

numeric_only : (v w : Datum) (bytes : List ℕ) → SpellsNumeric false v bytes → SpellsNumeric false w bytes → v ≡ w
numeric_only v w bytes a b =
    numeral_only a.sign a.scale a.weight a.digits v w a.is
    (numeral_same a.sign b.sign a.scale b.scale a.weight b.weight a.digits b.digits bytes w a.form b.form b.is)

-- of two cases
either_only : (b : Bool) (P Q : Datum → Type 0) → ((v w : Datum) → P v → P w → v ≡ w) → ((v w : Datum) → Q v → Q w → v ≡ w)
    → (v w : Datum) → MatchBool b (P v) (Q v) → MatchBool b (P w) (Q w) → v ≡ w
either_only true P Q p q v w x y = p v w x y
either_only false P Q p q v w x y = q v w x y

scalar_only : (oid : ℕ) (v w : Datum) (bytes : List ℕ) → SpellsScalar false oid v bytes → SpellsScalar false oid w bytes → v ≡ w
scalar_only oid v w bytes a b =
    let value : Datum → Type 0 = λ x. IsValue false oid x bytes in
    let id : Datum → Type 0 = λ x. MatchBool (oid == uuid) (IsUuid x bytes) (value x) in
    let stamp : Datum → Type 0 = λ x. MatchBool (is_timestamp oid) (IsTimestamp x bytes) (id x) in
    let day : Datum → Type 0 = λ x. MatchBool (oid == date) (IsDate x bytes) (stamp x) in
    either_only (oid == numeric) (λ x. SpellsNumeric false x bytes) day (λ x y. numeric_only x y bytes)
    (either_only (oid == date) (λ x. IsDate x bytes) stamp (λ x y p q. p.same ∙ sym q.same)
    (either_only (is_timestamp oid) (λ x. IsTimestamp x bytes) id (λ x y p q. p.same ∙ sym q.same)
    (either_only (oid == uuid) (λ x. IsUuid x bytes) value (λ x y p q. p.same ∙ sym q.same) (λ x y. value_only oid x y bytes))))
    v w a b

-- ---- values with parts, where those of the parts are single

abbrev Single : (Datum → List ℕ → Type 0) → Type 0
Single S = (v w : Datum) (bytes : List ℕ) → S v bytes → S w bytes → v ≡ w

part_single : (S : Datum → List ℕ → Type 0) → Single S → (part : Option (List ℕ)) (v w : Datum) → SpellsPart S part v → SpellsPart S part w → v ≡ w
part_single S only None v w a b = a ∙ sym b
part_single S only (Some bytes) v w a b = only v w bytes a b

next_single : (nullable : Bool) (S : Datum → List ℕ → Type 0) → Single S → (v w : Datum) (bytes r s : List ℕ) → IsNext nullable S v bytes r → IsNext nullable S w bytes s → (v ≡ w) × (r ≡ s)
next_single nullable S only v w bytes r s a b =
    let front = part_only a.front b.front in
    (part_single S only b.part v w (subst (λ (p : Option (List ℕ)). SpellsPart S p v) front.0 a.is) b.is, front.1)

items_single : (nullable : Bool) (S : Datum → List ℕ → Type 0) → Single S → (vs ws : List Datum) (bytes : List ℕ) → length vs ≡ length ws
    → SpellItems nullable S vs bytes → SpellItems nullable S ws bytes → vs ≡ ws
items_single nullable S only [] [] bytes e a b = refl
items_single nullable S only [] (w ∷ ws) bytes e a b = absurd (omega (arith, e))
items_single nullable S only (v ∷ vs) [] bytes e a b = absurd (omega (arith, e))
items_single nullable S only (v ∷ vs) (w ∷ ws) bytes e a b =
    let first = next_single nullable S only v w bytes a.0 b.0 a.1 b.1 in
    let others : vs ≡ ws = items_single nullable S only vs ws b.0 (omega (arith, e)) (subst (λ (l : List ℕ). SpellItems nullable S vs l) first.1 a.2) b.2 in
    ap (λ (x : Datum). x ∷ vs) first.0 ∙ ap (λ (xs : List Datum). w ∷ xs) others

array_single : (element : ℕ) (S : Datum → List ℕ → Type 0) → Single S → Single (IsArray false element S)
array_single element S only v w bytes a b =
    let front = front_only element a.flag b.flag a.dims b.dims a.rest b.rest a.front b.front (sym a.spelled ∙ b.spelled) in
    let moved : AreItems true S (count_of b.dims) b.items a.rest = subst (λ (l : List ℕ). AreItems true S (count_of b.dims) b.items l) (sym front.2) b.are in
    let items : a.items ≡ b.items = items_single true S only a.items b.items a.rest (a.are.count_is ∙ ap count_of front.1 ∙ sym b.are.count_is) a.are.are moved.are in
    a.same ∙ ap (λ (ds : List Dim). d.Array ds a.items) front.1 ∙ ap (λ (xs : List Datum). d.Array b.dims xs) items ∙ sym b.same

abbrev counted : ℕ → ℕ
counted flags = values_of (lower_by flags) + values_of (upper_by flags)

range_single : (S : Datum → List ℕ → Type 0) → Single S → Single (IsRange false S)
range_single S only v w bytes a b =
    let both : a.flags ∷ a.rest ≡ b.flags ∷ b.rest = sym a.spelled ∙ b.spelled in
    let flags : a.flags ≡ b.flags = cc both in
    let rest : a.rest ≡ b.rest = cc both in
    let count : length a.bounds ≡ length b.bounds = a.are.count_is ∙ ap (λ (n : ℕ). counted n) flags ∙ sym b.are.count_is in
    let bounds : a.bounds ≡ b.bounds = items_single false S only a.bounds b.bounds a.rest count a.are.are (subst (λ (l : List ℕ). SpellItems false S b.bounds l) (sym rest) b.are.are) in
    a.same ∙ ap (λ (n : ℕ). d.Range (has_flag 1 n) (lower_by n) (upper_by n) a.bounds) flags
    ∙ ap (λ (xs : List Datum). d.Range (has_flag 1 b.flags) (lower_by b.flags) (upper_by b.flags) xs) bounds ∙ sym b.same

composite_single : (count : ℕ) (F : List Datum → List ℕ → Type 0) → ((vs ws : List Datum) (bytes : List ℕ) → F vs bytes → F ws bytes → vs ≡ ws) → Single (IsComposite count F)
composite_single count F only v w bytes a b =
    let rest : a.rest ≡ b.rest = word_rest count count a.rest b.rest (sym a.spelled ∙ b.spelled) in
    let fields : a.fields ≡ b.fields = only a.fields b.fields a.rest a.fields_are (subst (λ (l : List ℕ). F b.fields l) (sym rest) b.fields_are) in
    a.same ∙ ap (λ (xs : List Datum). d.Composite xs) fields ∙ sym b.same

field_single : (oid : ℕ) (S : Datum → List ℕ → Type 0) (F : List Datum → List ℕ → Type 0) → Single S → ((vs ws : List Datum) (bytes : List ℕ) → F vs bytes → F ws bytes → vs ≡ ws)
    → (v w : Datum) (vs ws : List Datum) (bytes br ar bs as_ : List ℕ) → bytes ≡ to_be_bytes w32 oid ++ br → IsNext true S v br ar → F vs ar
    → bytes ≡ to_be_bytes w32 oid ++ bs → IsNext true S w bs as_ → F ws as_ → v ∷ vs ≡ w ∷ ws
field_single oid S F only others v w vs ws bytes br ar bs as_ e a f g b h =
    let same : br ≡ bs = word_rest oid oid br bs (sym e ∙ g) in
    let first = next_single true S only v w bs ar as_ (subst (λ (l : List ℕ). IsNext true S v l ar) same a) b in
    let rest : vs ≡ ws = others vs ws as_ (subst (λ (l : List ℕ). F vs l) first.1 f) h in
    ap (λ (x : Datum). x ∷ vs) first.0 ∙ ap (λ (xs : List Datum). w ∷ xs) rest

-- ---- all types

mutual
  pub kind_single : (oid : ℕ) (kind : k.Kind) → Single (SpellsKind false oid kind)
  kind_single oid k.Simple = λ v w bytes a b. scalar_only oid v w bytes a b
  kind_single oid (k.Enum labels) = λ v w bytes a b. a.same ∙ sym b.same
  kind_single oid k.Pseudo = λ v w bytes a b. absurd a
  kind_single oid (k.Array' name element shape kind schema) = array_single element (SpellsHeld false element kind) (held_single element kind)
  kind_single oid (k.Range' name element shape kind schema) = range_single (SpellsHeld false element kind) (held_single element kind)
  kind_single oid (k.Domain' name base shape kind schema) = held_single base kind
  kind_single oid (k.Composite' shape fields) = composite_single (count_fields fields) (SpellFields false fields) (fields_single fields)

  pub held_single : {m : _} (oid : ℕ) (row : k.Row_of-Kind m) → Single (SpellsHeld false oid row)
  held_single oid k.end_of-Kind = λ v w bytes a b. absurd a
  held_single oid (k.more_of-Kind kind rest) = kind_single oid kind

  pub fields_single : {m : _} (row : k.Row_of-Field m) → (vs ws : List Datum) (bytes : List ℕ) → SpellFields false row vs bytes → SpellFields false row ws bytes → vs ≡ ws
  fields_single k.end_of-Field [] [] bytes a b = refl
  fields_single k.end_of-Field [] (w ∷ ws) bytes a b = absurd b
  fields_single k.end_of-Field (v ∷ vs) ws bytes a b = absurd a
  fields_single (k.more_of-Field field name oid shape kind schema rest) [] ws bytes a b = absurd a
  fields_single (k.more_of-Field field name oid shape kind schema rest) (v ∷ vs) [] bytes a b = absurd b
  fields_single (k.more_of-Field field name oid shape kind schema rest) (v ∷ vs) (w ∷ ws) bytes a b =
      field_single oid (SpellsHeld false oid kind) (SpellFields false rest) (held_single oid kind) (fields_single rest) v w vs ws bytes a.0 a.1 b.0 b.1 a.2 a.3 a.4 b.2 b.3 b.4
