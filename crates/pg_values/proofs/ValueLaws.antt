-- A `Value` that is written.
use Rattle.std.proofs.Common.{◌≡◌, inl, inr, ℕ, ℤ, pos, unsigned_abs, ◌<◌, ◌^◌, ◌==◌, Bool, true, false, if◌then◌else◌, List, [], ◌∷◌, ◌++◌, length, Option, Some, None, Result, Ok, Err, IsOk, ap, refl, sym, ◌∙◌, subst, arith, rules, FitsSigned, w8, w16, w32, w64}
use Rattle.std.specs.Int.{Width, byte_len}
use Rattle.std.specs.Str.{is_utf8}
use Rattle.std.proofs.lemmas.List.{append-nil}
use mir.ValLaws.{to_z-Fits}
use Rattle.byteorder.specs.Endian.{big_number}
use Rattle.pg_types.specs.declared.fault.ValueFault.{ValueFault}
use Rattle.pg_types.specs.declared.fault.ValueFault.TheVariants as fault
use Rattle.pg_types.specs.declared.format.IsNull.{IsNull}
use Rattle.pg_types.specs.declared.format.IsNull.TheVariants as null
use Rattle.pg_types.specs.declared.value.Value.{Value}
use Rattle.pg_types.specs.declared.value.Value.TheVariants as value
use Rattle.pg_types.specs.AnyValues.{value_in, value_of_width, int_width, in_form, value_gives, number_given, number_of_width, wrong_given, fits, fits_oid}
use Rattle.pg_types.specs.declared.fault.RustType.{RustType}
use Rattle.pg_types.specs.declared.fault.RustType.TheVariants as rust
use Rattle.pg_types.specs.Oids as oids
use Rattle.pg_types.specs.Oids.{is_text}
use Rattle.pg_types.specs.Values.{Given, bytes_given, wrong_type, bool_in, bool_bytes, int_in, int_bytes, oid_in, oid_bytes}
use Rattle.pg_values.specs.declared.datum.Datum as d
use Rattle.pg_values.specs.declared.datum.Datum.{Datum}
use Rattle.pg_values.specs.Scalars.{datum_of, IsValue, IsDate, IsTimestamp}
use Rattle.pg_values.specs.Writing.{AreBytes}
use Rattle.pg_types.proofs.RoundTrips.{number_in, text_in}

-- ---- the value of a datum

abbrev pub value_of : Datum → Option Value
value_of d.Null = Some value.Null
value_of (d.Bool b) = Some (value.Bool b)
value_of (d.Int z) = Some (value.Int z)
value_of (d.Text t) = Some (value.Text t)
value_of (d.Bytes b) = Some (value.Bytes b)
value_of v = None

pub value_back : (v : Value) → value_of (datum_of v) ≡ Some v
value_back value.Null = refl
value_back (value.Bool b) = refl
value_back (value.Int z) = refl
value_back (value.Text t) = refl
value_back (value.Bytes b) = refl

pub same_value : (v w : Value) → datum_of v ≡ datum_of w → v ≡ w
same_value v w e =
    let both : Some v ≡ Some w = sym (value_back v) ∙ ap value_of e ∙ value_back w in
    cc both

-- ---- what bytes give

pub formed : (b : Bool) (v w : Value) → in_form b v ≡ Ok w → (b ≡ true) × (v ≡ w)
formed true v w e = (refl, cc e)
formed false v w e = absurd (cc e)

same_nat : (n k : ℕ) → (n == k) ≡ true → n ≡ k
same_nat n k e = search rules

-- which type it is, and how many bytes
abbrev pub IntShape : Option Width → ℕ → List ℕ → Type 0
IntShape (Some w) n bytes = length bytes ≡ byte_len w
IntShape None n bytes = ((n == oids.oid) ≡ true) × (length bytes ≡ 4)

abbrev pub Shape : Option Width → ℕ → List ℕ → Value → Type 0
Shape w n bytes value.Null = ⊥
Shape w n bytes (value.Bool b) = ((n == oids.bool) ≡ true) × (length bytes ≡ 1)
Shape w n bytes (value.Int z) = IntShape w n bytes
Shape w n bytes (value.Text t) = (is_text n ≡ true) × (bytes ≡ t)
Shape w n bytes (value.Bytes b) = ((n == oids.bytea) ≡ true) × (bytes ≡ b)

shape_none : (n : ℕ) (bytes : List ℕ) (v : Value) → value_of_width None n bytes ≡ Ok v → Shape None n bytes v
shape_none n bytes v = go (n == oids.bool) (n == oids.oid) (is_text n) (n == oids.bytea) refl refl refl refl
  where
    go : (a b c e : Bool) → (n == oids.bool) ≡ a → (n == oids.oid) ≡ b → is_text n ≡ c → (n == oids.bytea) ≡ e
        → (if a then in_form (length bytes == 1) (value.Bool (bool_in bytes))
        else if b then in_form (length bytes == 4) (value.Int (pos (oid_in bytes)))
        else if c then in_form (is_utf8 bytes) (value.Text bytes)
        else if e then Ok (value.Bytes bytes)
        else Err (fault.WrongType (wrong_type n rust.Value))) ≡ Ok v → Shape None n bytes v
    go true b c e ea eb ec ee p =
        let f = formed (length bytes == 1) (value.Bool (bool_in bytes)) v p in subst (Shape None n bytes) f.1 (ea, same_nat (length bytes) 1 f.0)
    go false true c e ea eb ec ee p =
        let f = formed (length bytes == 4) (value.Int (pos (oid_in bytes))) v p in subst (Shape None n bytes) f.1 (eb, same_nat (length bytes) 4 f.0)
    go false false true e ea eb ec ee p =
        let f = formed (is_utf8 bytes) (value.Text bytes) v p in subst (Shape None n bytes) f.1 (ec, refl)
    go false false false true ea eb ec ee p =
        let same : value.Bytes bytes ≡ v = cc p in subst (Shape None n bytes) same (ee, refl)
    go false false false false ea eb ec ee p = absurd (cc p)

shape_of : (w : Option Width) (n : ℕ) (bytes : List ℕ) (v : Value) → value_of_width w n bytes ≡ Ok v → Shape w n bytes v
shape_of (Some w) n bytes v p =
    let f = formed (length bytes == byte_len w) (value.Int (int_in w bytes)) v p in subst (Shape (Some w) n bytes) f.1 (same_nat (length bytes) (byte_len w) f.0)
shape_of None n bytes v p = shape_none n bytes v p

pub shape : (n : ℕ) (bytes : List ℕ) (v : Value) → value_in n bytes ≡ Ok v → Shape (int_width n) n bytes v
shape n bytes v p = shape_of (int_width n) n bytes v p

-- a text is UTF-8
utf8_of : (w : Option Width) (n : ℕ) (bytes t : List ℕ) → value_of_width w n bytes ≡ Ok (value.Text t) → is_utf8 t ≡ true
utf8_of (Some w) n bytes t p = let f = formed (length bytes == byte_len w) (value.Int (int_in w bytes)) (value.Text t) p in absurd (cc f.1)
utf8_of None n bytes t p = go (n == oids.bool) (n == oids.oid) (is_text n) (n == oids.bytea) p
  where
    go : (a b c e : Bool)
        → (if a then in_form (length bytes == 1) (value.Bool (bool_in bytes))
        else if b then in_form (length bytes == 4) (value.Int (pos (oid_in bytes)))
        else if c then in_form (is_utf8 bytes) (value.Text bytes)
        else if e then Ok (value.Bytes bytes)
        else Err (fault.WrongType (wrong_type n rust.Value))) ≡ Ok (value.Text t) → is_utf8 t ≡ true
    go true b c e p = let f = formed (length bytes == 1) (value.Bool (bool_in bytes)) (value.Text t) p in absurd (cc f.1)
    go false true c e p = let f = formed (length bytes == 4) (value.Int (pos (oid_in bytes))) (value.Text t) p in absurd (cc f.1)
    go false false true e p =
        let f = formed (is_utf8 bytes) (value.Text bytes) (value.Text t) p in
        let same : bytes ≡ t = cc f.1 in
        ap is_utf8 (sym same) ∙ f.0
    go false false false true p = let same : value.Bytes bytes ≡ value.Text t = cc p in absurd (cc same)
    go false false false false p = absurd (cc p)

pub text_is_utf8 : (n : ℕ) (bytes t : List ℕ) → value_in n bytes ≡ Ok (value.Text t) → is_utf8 t ≡ true
text_is_utf8 n bytes t p = utf8_of (int_width n) n bytes t p

-- all bytes of a value are as many
int_length : (w : Option Width) (n : ℕ) (a b : List ℕ) → IntShape w n a → IntShape w n b → length a ≡ length b
int_length (Some w) n a b p q = p ∙ sym q
int_length None n a b p q = p.1 ∙ sym q.1

pub same_length : (n : ℕ) (v : Value) (a b : List ℕ) → Shape (int_width n) n a v → Shape (int_width n) n b v → length a ≡ length b
same_length n value.Null a b p q = absurd p
same_length n (value.Bool t) a b p q = p.1 ∙ sym q.1
same_length n (value.Int z) a b p q = int_length (int_width n) n a b p q
same_length n (value.Text t) a b p q = ap (λ (l : List ℕ). length l) (p.1 ∙ sym q.1)
same_length n (value.Bytes t) a b p q = ap (λ (l : List ℕ). length l) (p.1 ∙ sym q.1)

-- no bytes are null
pub null_none : (n : ℕ) (bytes : List ℕ) → value_in n bytes ≡ Ok value.Null → ⊥
null_none n bytes p = shape n bytes value.Null p

no_int : (z : ℤ) (n : ℕ) (bytes : List ℕ) → int_width n ≡ None → (n == oids.oid) ≡ false → value_in n bytes ≡ Ok (value.Int z) → ⊥
no_int z n bytes none isnt p =
    let s : IntShape None n bytes = subst (λ (w : Option Width). IntShape w n bytes) none (shape n bytes (value.Int z) p) in
    absurd (cc (s.0, isnt))

-- ---- numbers that bytes spell are in range

number1 : (bytes : List ℕ) → length bytes ≡ 1 → AreBytes bytes → big_number 1 bytes < 2 ^ 8
number1 [] e are = absurd (omega (arith, e))
number1 (a ∷ []) e (la, are) = omega (arith, la)
number1 (a ∷ b ∷ rest) e are = absurd (omega (arith, e))

number2 : (bytes : List ℕ) → length bytes ≡ 2 → AreBytes bytes → big_number 2 bytes < 2 ^ 16
number2 [] e are = absurd (omega (arith, e))
number2 (a ∷ []) e are = absurd (omega (arith, e))
number2 (a ∷ b ∷ []) e (la, (lb, are)) = omega (arith, la, lb)
number2 (a ∷ b ∷ c ∷ rest) e are = absurd (omega (arith, e))

number4 : (bytes : List ℕ) → length bytes ≡ 4 → AreBytes bytes → big_number 4 bytes < 2 ^ 32
number4 [] e are = absurd (omega (arith, e))
number4 (a ∷ []) e are = absurd (omega (arith, e))
number4 (a ∷ b ∷ []) e are = absurd (omega (arith, e))
number4 (a ∷ b ∷ c ∷ []) e are = absurd (omega (arith, e))
number4 (a ∷ b ∷ c ∷ f ∷ []) e (la, (lb, (lc, (lf, are)))) = omega (arith, la, lb, lc, lf)
number4 (a ∷ b ∷ c ∷ f ∷ g ∷ rest) e are = absurd (omega (arith, e))

number8 : (bytes : List ℕ) → length bytes ≡ 8 → AreBytes bytes → big_number 8 bytes < 2 ^ 64
number8 [] e are = absurd (omega (arith, e))
number8 (a ∷ []) e are = absurd (omega (arith, e))
number8 (a ∷ b ∷ []) e are = absurd (omega (arith, e))
number8 (a ∷ b ∷ c ∷ []) e are = absurd (omega (arith, e))
number8 (a ∷ b ∷ c ∷ f ∷ []) e are = absurd (omega (arith, e))
number8 (a ∷ b ∷ c ∷ f ∷ g ∷ []) e are = absurd (omega (arith, e))
number8 (a ∷ b ∷ c ∷ f ∷ g ∷ h ∷ []) e are = absurd (omega (arith, e))
number8 (a ∷ b ∷ c ∷ f ∷ g ∷ h ∷ i ∷ []) e are = absurd (omega (arith, e))
number8 (a ∷ b ∷ c ∷ f ∷ g ∷ h ∷ i ∷ j ∷ []) e (la, (lb, (lc, (lf, (lg, (lh, (li, (lj, are)))))))) = omega (arith, la, lb, lc, lf, lg, lh, li, lj)
number8 (a ∷ b ∷ c ∷ f ∷ g ∷ h ∷ i ∷ j ∷ k ∷ rest) e are = absurd (omega (arith, e))

fits_is8 : (z : ℤ) → FitsSigned w8 z → fits w8 z ≡ true
fits_is8 z f = search rules

fits_is16 : (z : ℤ) → FitsSigned w16 z → fits w16 z ≡ true
fits_is16 z f = search rules

pub fits_is32 : (z : ℤ) → FitsSigned w32 z → fits w32 z ≡ true
fits_is32 z f = search rules

pub fits_is64 : (z : ℤ) → FitsSigned w64 z → fits w64 z ≡ true
fits_is64 z f = search rules

in8 : (bytes : List ℕ) → length bytes ≡ 1 → AreBytes bytes → fits w8 (int_in w8 bytes) ≡ true
in8 bytes e are = fits_is8 (int_in w8 bytes) (to_z-Fits w8 (big_number 1 bytes) (record { fits = number1 bytes e are }))

in16 : (bytes : List ℕ) → length bytes ≡ 2 → AreBytes bytes → fits w16 (int_in w16 bytes) ≡ true
in16 bytes e are = fits_is16 (int_in w16 bytes) (to_z-Fits w16 (big_number 2 bytes) (record { fits = number2 bytes e are }))

pub in32 : (bytes : List ℕ) → length bytes ≡ 4 → AreBytes bytes → fits w32 (int_in w32 bytes) ≡ true
in32 bytes e are = fits_is32 (int_in w32 bytes) (to_z-Fits w32 (big_number 4 bytes) (record { fits = number4 bytes e are }))

pub in64 : (bytes : List ℕ) → length bytes ≡ 8 → AreBytes bytes → fits w64 (int_in w64 bytes) ≡ true
in64 bytes e are = fits_is64 (int_in w64 bytes) (to_z-Fits w64 (big_number 8 bytes) (record { fits = number8 bytes e are }))

fits_is_oid : (n : ℕ) → n < 2 ^ 32 → fits_oid (pos n) ≡ true
fits_is_oid n f = search rules

in_oid : (bytes : List ℕ) → length bytes ≡ 4 → AreBytes bytes → fits_oid (pos (oid_in bytes)) ≡ true
in_oid bytes e are = fits_is_oid (oid_in bytes) (number4 bytes e are)

-- ---- a number of a width

abbrev int_of : Value → ℤ
int_of (value.Int z) = z
int_of v = pos 0

-- what is refused isn't spelled
refused : (form fit : Bool) (z y : ℤ) (own : List ℕ) (f : ValueFault) → (form ≡ true → z ≡ y → fit ≡ true)
    → (if fit then bytes_given own else Err fault.BadValue) ≡ Err f → in_form form (value.Int y) ≡ Ok (value.Int z) → ⊥
refused form true z y own f is e spelled = absurd (cc e)
refused form false z y own f is e spelled =
    let both = formed form (value.Int y) (value.Int z) spelled in
    absurd (cc (is both.0 (ap int_of (sym both.1))))

decide : {P : Type 0} (n k : ℕ) → (n ≡ k → P) → ((n == k) ≡ false → P) → P
decide {P} n k is isnt = go (n == k) refl
  where
    go : (b : Bool) → (n == k) ≡ b → P
    go true e = is (same_nat n k e)
    go false e = isnt e

pub no_number : (z : ℤ) (bytes : List ℕ) (f : ValueFault) → AreBytes bytes → (n : ℕ) → number_given z n ≡ Err f → value_in n bytes ≡ Ok (value.Int z) → ⊥
no_number z bytes f are n =
    let P : ℕ → Type 0 = λ m. number_given z m ≡ Err f → value_in m bytes ≡ Ok (value.Int z) → ⊥ in
    decide n 18 (λ p. subst P (sym p) (refused (length bytes == 1) (fits w8 z) z (int_in w8 bytes) _ f (λ l e. ap (fits w8) e ∙ in8 bytes (same_nat (length bytes) 1 l) are))) (λ e18.
    decide n 21 (λ p. subst P (sym p) (refused (length bytes == 2) (fits w16 z) z (int_in w16 bytes) _ f (λ l e. ap (fits w16) e ∙ in16 bytes (same_nat (length bytes) 2 l) are))) (λ e21.
    decide n 23 (λ p. subst P (sym p) (refused (length bytes == 4) (fits w32 z) z (int_in w32 bytes) _ f (λ l e. ap (fits w32) e ∙ in32 bytes (same_nat (length bytes) 4 l) are))) (λ e23.
    decide n 20 (λ p. subst P (sym p) (refused (length bytes == 8) (fits w64 z) z (int_in w64 bytes) _ f (λ l e. ap (fits w64) e ∙ in64 bytes (same_nat (length bytes) 8 l) are))) (λ e20.
    decide n 26 (λ p. subst P (sym p) (refused (length bytes == 4) (fits_oid z) z (pos (oid_in bytes)) _ f (λ l e. ap fits_oid e ∙ in_oid bytes (same_nat (length bytes) 4 l) are))) (λ e26 e spelled.
    no_int z n bytes (rw (e18, e21, e23, e20) refl) e26 spelled)))))

-- ---- a date and a timestamp

back32 : (z : ℤ) → FitsSigned w32 z → int_in w32 (int_bytes w32 z) ≡ z
back32 z f = search rules

back64 : (z : ℤ) → FitsSigned w64 z → int_in w64 (int_bytes w64 z) ≡ z
back64 z f = search rules

pub date_bytes : (z : ℤ) → FitsSigned w32 z → IsDate (d.Date z) (int_bytes w32 z)
date_bytes z f = record { four = refl; same = ap (λ (y : ℤ). d.Date y) (sym (back32 z f)) }

pub timestamp_bytes : (z : ℤ) → FitsSigned w64 z → IsTimestamp (d.Timestamp z) (int_bytes w64 z)
timestamp_bytes z f = record { eight = refl; same = ap (λ (y : ℤ). d.Timestamp y) (sym (back64 z f)) }

pub given_none : (own : List ℕ) → bytes_given own ≡ Ok None → ⊥
given_none own e = cc e

-- ---- each value

pub has_value : (v : Value) (n : ℕ) (bytes : List ℕ) → IsValue false n (datum_of v) bytes → value_in n bytes ≡ Ok v
has_value v n bytes is = is.spelled ∙ ap (λ (w : Value). Ok w) (sym (same_value v is.value is.same))

pub is_value : (v : Value) (n : ℕ) (bytes : List ℕ) → value_in n bytes ≡ Ok v → value_gives v n ≡ bytes_given bytes → IsValue true n (datum_of v) bytes
is_value v n bytes spelled given = record { value = v; spelled = spelled; same = refl; given = λ p. given }

given_some : (fit : Bool) (own : List ℕ) → (if fit then bytes_given own else Err fault.BadValue) ≡ Ok None → ⊥
given_some true own e = cc e
given_some false own e = cc e

width_some : (w : Option Width) (z : ℤ) (n : ℕ) → number_of_width w z n ≡ Ok None → ⊥
width_some (Some w) z n e = given_some (fits w z) (int_bytes w z) e
width_some None z n e = oid_some (n == oids.oid) (fits_oid z) e
  where
    oid_some : (b fit : Bool) → (if b then (if fit then bytes_given (oid_bytes (unsigned_abs z)) else Err fault.BadValue) else wrong_given n) ≡ Ok None → ⊥
    oid_some true fit e = given_some fit (oid_bytes (unsigned_abs z)) e
    oid_some false fit e = cc e

pub number_some : (z : ℤ) (n : ℕ) → number_given z n ≡ Ok None → ⊥
number_some z n e = width_some (int_width n) z n e

-- a truth value and bytes are read again
pub bool_back : (b : Bool) (n : ℕ) (bytes : List ℕ) → n ≡ oids.bool → bool_bytes b ≡ bytes → value_in n bytes ≡ Ok (value.Bool b)
bool_back true n bytes e is = subst (λ (m : ℕ). value_in m bytes ≡ Ok (value.Bool true)) (sym e) (subst (λ (l : List ℕ). value_in oids.bool l ≡ Ok (value.Bool true)) is refl)
bool_back false n bytes e is = subst (λ (m : ℕ). value_in m bytes ≡ Ok (value.Bool false)) (sym e) (subst (λ (l : List ℕ). value_in oids.bool l ≡ Ok (value.Bool false)) is refl)

pub bytea_back : (t : List ℕ) (n : ℕ) (bytes : List ℕ) → n ≡ oids.bytea → t ≡ bytes → value_in n bytes ≡ Ok (value.Bytes t)
bytea_back t n bytes e is = subst (λ (m : ℕ). value_in m bytes ≡ Ok (value.Bytes t)) (sym e) (ap (λ (l : List ℕ). Ok (value.Bytes l)) (sym is))

-- a choice of bytes
pub some_chosen : (b : Bool) (own : List ℕ) (f : ValueFault) → (if b then bytes_given own else Err f) ≡ Ok None → ⊥
some_chosen true own f e = cc e
some_chosen false own f e = cc e
