-- The written form of a value is the shortest that spells it.
use Rattle.std.proofs.Common.{◌≡◌, inl, inr, ℕ, ◌<◌, ◌≤◌, ◌*◌, ◌+◌, ◌^◌, unsigned_abs, Bool, true, false, ◌==◌, List, [], ◌∷◌, ◌++◌, length, flat_map, Option, Some, None, Ok, ap, refl, sym, ◌∙◌, subst, arith, length-append, w16, w32}
use Rattle.std.specs.Bool.{MatchBool}
use Rattle.std.specs.Int.{to_be_bytes}
use Rattle.pg_types.specs.declared.value.Value.{Value}
use Rattle.pg_types.specs.declared.pg_type.Kind as k
use Rattle.pg_types.specs.AnyValues.{int_width}
use Rattle.pg_values.specs.declared.datum.Dim.{Dim}
use Rattle.pg_values.specs.declared.datum.Datum as d
use Rattle.pg_values.specs.declared.datum.Datum.{Datum}
use Rattle.pg_values.specs.Supported.{is_timestamp, numeric, date, uuid}
use Rattle.pg_values.specs.Scalars.{IsValue, IsDate, IsTimestamp, IsUuid, IsLabel}
use Rattle.pg_values.specs.Numerics.{SpellsNumeric, IsNumericOf, IsNumeral, AreDigitsOf}
use Rattle.pg_values.specs.Parts.{part_bytes, SpellsPart, IsPart, IsNext, SpellItems}
use Rattle.pg_values.specs.Spelling.{SpellsScalar, SpellsKind, SpellsHeld, SpellFields, IsArray, IsRange, IsComposite, array_front, count_fields}
use Rattle.pg_values.specs.Writing.{HasNone}
use Rattle.pg_values.proofs.ArrayLaws.{front_length}
use Rattle.pg_values.proofs.Insides.{same_items, same_bounds, same_values}
use Rattle.pg_values.proofs.PlainLaws.{kind_some, held_some, kind_plain, held_plain}
use Rattle.pg_values.proofs.SpanLaws.{digits_fewest}
use Rattle.pg_values.proofs.ValueLaws.{same_value, shape, Shape, same_length}

abbrev Short : (W S : Datum → List ℕ → Type 0) → Type 0
Short W S = (v : Datum) (a b : List ℕ) → W v a → S v b → length a ≤ length b

-- ---- numerics

digits_length : (ds : List ℕ) → length (flat_map (to_be_bytes w16) ds) ≡ 2 * length ds
digits_length [] = refl
digits_length (x ∷ ds) = let rest = digits_length ds in omega (arith, rest)

form_length : (plain : Bool) (sign scale : ℕ) (weight : _) (digits bytes : List ℕ) → IsNumericOf plain sign scale weight digits bytes → length bytes ≡ 8 + 2 * length digits
form_length plain sign scale weight digits bytes form =
    let e = ap (λ (l : List ℕ). length l) form.spelled in
    omega (arith, e, digits_length digits)

numeric_short : Short (SpellsNumeric true) (SpellsNumeric false)
numeric_short v a b p q = omega (arith, form_length true p.sign p.scale p.weight p.digits a p.form, form_length false q.sign q.scale q.weight q.digits b q.form, go p.is q.is)
  where
    go : IsNumeral p.sign p.scale p.weight p.digits v → IsNumeral q.sign q.scale q.weight q.digits v → length p.digits ≤ length q.digits
    go (inl m) (inl n) =
        let same : d.Numeric m.unscaled p.scale ≡ d.Numeric n.unscaled q.scale = sym m.same ∙ n.same in
        let number : n.unscaled ≡ m.unscaled = sym (cc same) in
        let scale : q.scale ≡ p.scale = sym (cc same) in
        let is : AreDigitsOf (unsigned_abs m.unscaled) p.scale q.weight q.digits =
        subst (λ (z : _). AreDigitsOf (unsigned_abs z) p.scale q.weight q.digits) number (subst (λ (c : ℕ). AreDigitsOf (unsigned_abs n.unscaled) c q.weight q.digits) scale n.number) in
        digits_fewest (unsigned_abs m.unscaled) p.scale p.weight q.weight p.digits q.digits p.form.below q.form.below (p.form.first refl) (p.form.last refl) m.number is
    go (inl m) (inr n) = let same : d.Numeric m.unscaled p.scale ≡ d.NotANumber = sym m.same ∙ n.same in absurd (cc same)
    go (inr m) n = let none : length p.digits ≡ 0 = ap (λ (l : List ℕ). length l) ((p.bare refl).nan m.sign_is).0 in omega (arith, none)

-- ---- scalars

value_short : (n : ℕ) → Short (IsValue true n) (IsValue false n)
value_short n v a b p q =
    let same : q.value ≡ p.value = same_value q.value p.value (sym q.same ∙ p.same) in
    let first : Shape (int_width n) n a p.value = shape n a p.value p.spelled in
    let second : Shape (int_width n) n b p.value = shape n b p.value (q.spelled ∙ ap (λ (w : Value). Ok w) same) in
    let size : length a ≡ length b = same_length n p.value a b first second in
    omega (arith, size)

either_short : (c : Bool) (P Q R S : Type 0) (m n : ℕ) → (P → R → m ≤ n) → (Q → S → m ≤ n) → MatchBool c P Q → MatchBool c R S → m ≤ n
either_short true P Q R S m n p q x y = p x y
either_short false P Q R S m n p q x y = q x y

scalar_short : (n : ℕ) → Short (SpellsScalar true n) (SpellsScalar false n)
scalar_short n v a b =
    let id : Bool → List ℕ → Type 0 = λ p l. MatchBool (n == uuid) (IsUuid v l) (IsValue p n v l) in
    let stamp : Bool → List ℕ → Type 0 = λ p l. MatchBool (is_timestamp n) (IsTimestamp v l) (id p l) in
    let day : Bool → List ℕ → Type 0 = λ p l. MatchBool (n == date) (IsDate v l) (stamp p l) in
    either_short (n == numeric) (SpellsNumeric true v a) (day true a) (SpellsNumeric false v b) (day false b) (length a) (length b) (numeric_short v a b)
    (either_short (n == date) (IsDate v a) (stamp true a) (IsDate v b) (stamp false b) (length a) (length b) (λ p q. omega (arith, p.four, q.four))
    (either_short (is_timestamp n) (IsTimestamp v a) (id true a) (IsTimestamp v b) (id false b) (length a) (length b) (λ p q. omega (arith, p.eight, q.eight))
    (either_short (n == uuid) (IsUuid v a) (IsValue true n v a) (IsUuid v b) (IsValue false n v b) (length a) (length b) (λ p q. omega (arith, p.sixteen, q.sixteen)) (value_short n v a b))))

label_short : (labels : List (List ℕ)) → Short (IsLabel labels) (IsLabel labels)
label_short labels v a b p q =
    let same : d.Label a ≡ d.Label b = sym p.same ∙ q.same in
    let bytes : a ≡ b = cc same in
    let size : length a ≡ length b = ap (λ (l : List ℕ). length l) bytes in
    omega (arith, size)

-- ---- parts

abbrev IsSome : (Datum → List ℕ → Type 0) → Type 0
IsSome W = (bytes : List ℕ) → W d.Null bytes → ⊥

part_short : (W S : Datum → List ℕ → Type 0) → IsSome W → Short W S → (p q : Option (List ℕ)) (v : Datum) → SpellsPart W p v → SpellsPart S q v
    → length (part_bytes p) ≤ length (part_bytes q)
part_short W S some short None None v x y = omega arith
part_short W S some short None (Some b) v x y = omega arith
part_short W S some short (Some a) None v x y = absurd (some a (subst (λ (w : Datum). W w a) y x))
part_short W S some short (Some a) (Some b) v x y = let less = short v a b x y in omega (arith, less)

next_short : (nullable : Bool) (W S : Datum → List ℕ → Type 0) → IsSome W → Short W S → (v : Datum) (a b r s : List ℕ) → IsNext nullable W v a r → IsNext nullable S v b s
    → length r ≤ length s → length a ≤ length b
next_short nullable W S some short v a b r s p q less =
    let first : length a ≡ length (part_bytes p.part) + length r = ap (λ (l : List ℕ). length l) p.front.spelled ∙ length-append (part_bytes p.part) r in
    let second : length b ≡ length (part_bytes q.part) + length s = ap (λ (l : List ℕ). length l) q.front.spelled ∙ length-append (part_bytes q.part) s in
    omega (arith, first, second, less, part_short W S some short p.part q.part v p.is q.is)

items_short : (nullable : Bool) (W S : Datum → List ℕ → Type 0) → IsSome W → Short W S → (vs : List Datum) (a b : List ℕ) → SpellItems nullable W vs a → SpellItems nullable S vs b
    → length a ≤ length b
items_short nullable W S some short [] a b p q = let none : length a ≡ 0 = ap (λ (l : List ℕ). length l) p in omega (arith, none)
items_short nullable W S some short (v ∷ vs) a b p q = next_short nullable W S some short v a b p.0 q.0 p.1 q.1 (items_short nullable W S some short vs p.0 q.0 p.2 q.2)

array_short : (element : ℕ) (W S : Datum → List ℕ → Type 0) → IsSome W → Short W S → Short (IsArray true element W) (IsArray false element S)
array_short element W S some short v a b p q =
    let same : d.Array p.dims p.items ≡ d.Array q.dims q.items = sym p.same ∙ q.same in
    let dims : p.dims ≡ q.dims = cc same in
    let items : q.items ≡ p.items = sym (same_items p.dims q.dims p.items q.items same) in
    let count : length p.dims ≡ length q.dims = ap (λ (ds : List Dim). length ds) dims in
    let rest : length p.rest ≤ length q.rest = items_short true W S some short p.items p.rest q.rest p.are.are (subst (λ (vs : List Datum). SpellItems true S vs q.rest) items q.are.are) in
    let first : length a ≡ length (array_front p.flag element p.dims) + length p.rest = ap (λ (l : List ℕ). length l) p.spelled ∙ length-append (array_front p.flag element p.dims) p.rest in
    let second : length b ≡ length (array_front q.flag element q.dims) + length q.rest = ap (λ (l : List ℕ). length l) q.spelled ∙ length-append (array_front q.flag element q.dims) q.rest in
    omega (arith, count, rest, first, second, front_length p.flag element p.dims, front_length q.flag element q.dims)

range_short : (W S : Datum → List ℕ → Type 0) → IsSome W → Short W S → Short (IsRange true W) (IsRange false S)
range_short W S some short v a b p q =
    let bounds : q.bounds ≡ p.bounds = sym (same_bounds _ _ _ _ _ _ p.bounds q.bounds (sym p.same ∙ q.same)) in
    let rest : length p.rest ≤ length q.rest = items_short false W S some short p.bounds p.rest q.rest p.are.are (subst (λ (vs : List Datum). SpellItems false S vs q.rest) bounds q.are.are) in
    let first = ap (λ (l : List ℕ). length l) p.spelled in
    let second = ap (λ (l : List ℕ). length l) q.spelled in
    omega (arith, rest, first, second)

abbrev ShortFields : (F G : List Datum → List ℕ → Type 0) → Type 0
ShortFields F G = (vs : List Datum) (a b : List ℕ) → F vs a → G vs b → length a ≤ length b

composite_short : (n : ℕ) (F G : List Datum → List ℕ → Type 0) → ShortFields F G → Short (IsComposite n F) (IsComposite n G)
composite_short n F G short v a b p q =
    let values : q.fields ≡ p.fields = sym (same_values p.fields q.fields (sym p.same ∙ q.same)) in
    let rest : length p.rest ≤ length q.rest = short p.fields p.rest q.rest p.fields_are (subst (λ (vs : List Datum). G vs q.rest) values q.fields_are) in
    let first = ap (λ (l : List ℕ). length l) p.spelled in
    let second = ap (λ (l : List ℕ). length l) q.spelled in
    omega (arith, rest, first, second)

field_short : (oid : ℕ) (W S : Datum → List ℕ → Type 0) → IsSome W → Short W S → (v : Datum) (a b p q r s : List ℕ) → a ≡ to_be_bytes w32 oid ++ p → b ≡ to_be_bytes w32 oid ++ q
    → IsNext true W v p r → IsNext true S v q s → length r ≤ length s → length a ≤ length b
field_short oid W S some short v a b p q r s e f x y less =
    let first = ap (λ (l : List ℕ). length l) e in
    let second = ap (λ (l : List ℕ). length l) f in
    omega (arith, first, second, next_short true W S some short v p q r s x y less)

-- ---- all types

some_held : {m : _} (oid : ℕ) (row : k.Row_of-Kind m) → IsSome (SpellsHeld true oid row)
some_held oid row bytes is = held_some oid row bytes (held_plain oid row d.Null bytes is)

mutual
  pub kind_short : (oid : ℕ) (kind : k.Kind) → Short (SpellsKind true oid kind) (SpellsKind false oid kind)
  kind_short oid k.Simple = scalar_short oid
  kind_short oid (k.Enum labels) = label_short labels
  kind_short oid k.Pseudo = λ v a b p q. absurd p
  kind_short oid (k.Array' name element shape kind schema) =
      array_short element (SpellsHeld true element kind) (SpellsHeld false element kind) (some_held element kind) (held_short element kind)
  kind_short oid (k.Range' name element shape kind schema) = range_short (SpellsHeld true element kind) (SpellsHeld false element kind) (some_held element kind) (held_short element kind)
  kind_short oid (k.Domain' name base shape kind schema) = held_short base kind
  kind_short oid (k.Composite' shape fields) = composite_short (count_fields fields) (SpellFields true fields) (SpellFields false fields) (fields_short fields)

  pub held_short : {m : _} (oid : ℕ) (row : k.Row_of-Kind m) → Short (SpellsHeld true oid row) (SpellsHeld false oid row)
  held_short oid k.end_of-Kind = λ v a b p q. absurd p
  held_short oid (k.more_of-Kind kind rest) = kind_short oid kind

  pub fields_short : {m : _} (row : k.Row_of-Field m) → ShortFields (SpellFields true row) (SpellFields false row)
  fields_short k.end_of-Field [] a b p q = let none : length a ≡ 0 = ap (λ (l : List ℕ). length l) p in omega (arith, none)
  fields_short k.end_of-Field (v ∷ vs) a b p q = absurd p
  fields_short (k.more_of-Field field name oid shape kind schema rest) [] a b p q = absurd p
  fields_short (k.more_of-Field field name oid shape kind schema rest) (v ∷ vs) a b p q =
      field_short oid (SpellsHeld true oid kind) (SpellsHeld false oid kind) (some_held oid kind) (held_short oid kind) v a b p.0 q.0 p.1 q.1 p.2 q.2 p.3 q.3 (fields_short rest vs p.1 q.1 p.4 q.4)

-- so no part spells a value that is written in more bytes than a part may have
too_long : (oid : ℕ) (kind : k.Kind) (v : Datum) (bytes own rest : List ℕ) (nullable : Bool) (part : Option (List ℕ)) → SpellsKind true oid kind v bytes → 2 ^ 31 ≤ length bytes
    → IsPart nullable part own rest → SpellsPart (SpellsKind false oid kind) part v → ⊥
too_long oid kind v bytes own rest nullable None written long front is =
    kind_some oid kind bytes (kind_plain oid kind d.Null bytes (subst (λ (w : Datum). SpellsKind true oid kind w bytes) is written))
too_long oid kind v bytes own rest nullable (Some part) written long front is =
    let fits : length part < 2 ^ 31 = front.fits in
    let less = kind_short oid kind v bytes part written is in
    omega (arith, fits, less, long)

pub long_none : (nullable : Bool) (oid : ℕ) (kind : k.Kind) (v : Datum) (bytes : List ℕ) → SpellsKind true oid kind v bytes → 2 ^ 31 ≤ length bytes
    → HasNone (λ b. IsNext nullable (SpellsKind false oid kind) v b [])
long_none nullable oid kind v bytes written long own are next = too_long oid kind v bytes own [] nullable next.part written long next.front next.is
