-- What a `Value` wrote is read back.
use Rattle.std.proofs.Common.{◌≡◌, ℕ, ℤ, pos, negsuc, unsigned_abs, Bool, true, false, List, [], Some, None, Result, Ok, Err, refl, sym, ap, subst, ◌∙◌, if◌then◌else◌, ◌==◌, ◌<◌, ◌^◌, rules, FitsSigned, w8, w16, w32, w64}
use Rattle.std.specs.Str.{is_utf8}
use Rattle.pg_types.specs.declared.fault.ValueFault.{ValueFault}
use Rattle.pg_types.specs.declared.fault.ValueFault.TheVariants as fault
use Rattle.pg_types.specs.declared.value.Value.{Value}
use Rattle.pg_types.specs.declared.value.Value.TheVariants as value
use Rattle.pg_types.specs.AnyValues.{value_in, fault_in, number_given, wrong_given, fits, fits_oid}
use Rattle.pg_types.specs.Oids.{is_text}
use Rattle.pg_types.specs.Values.{Given, bytes_given, int_in, int_bytes, oid_in, oid_bytes}

-- what the law says of a value under the type with an oid
abbrev pub Back : ℕ → List ℕ → Value → Type 0
Back n bytes v = (fault_in (value_in n bytes) ≡ None) × (value_in n bytes ≡ Ok v) × ((w : Value) → value_in n bytes ≡ Ok w → w ≡ v)

abbrev ok_of : Value → Result Value ValueFault → Value
ok_of v (Ok w) = w
ok_of v (Err f) = v

-- the value that is read is the only one
pub only : (n : ℕ) (bytes : List ℕ) (v : Value) → value_in n bytes ≡ Ok v → Back n bytes v
only n bytes v e = (ap fault_in e, e, λ w e2. ap (ok_of v) (sym e2 ∙ e))

abbrev given_bytes : Given → List ℕ
given_bytes (Ok (Some bytes)) = bytes
given_bytes (Ok None) = []
given_bytes (Err f) = []

abbrev IsRefused : Given → Type 0
IsRefused (Ok given) = ⊥
IsRefused (Err f) = Unit {0}

-- a value that is refused out of its form, read from its own bytes
back : (form : Bool) (own bytes : List ℕ) (f : ValueFault) (read : List ℕ → Result Value ValueFault) (v : Value) → (form ≡ true → read own ≡ Ok v)
    → (if form then bytes_given own else Err f) ≡ Ok (Some bytes) → read bytes ≡ Ok v
back true own bytes f read v same e = subst (λ (xs : List ℕ). read xs ≡ Ok v) (ap given_bytes e) (same refl)
back false own bytes f read v same e = absurd (subst IsRefused e tt)

fits8 : (z : ℤ) → fits w8 z ≡ true → FitsSigned w8 z
fits8 z f = search rules

fits16 : (z : ℤ) → fits w16 z ≡ true → FitsSigned w16 z
fits16 z f = search rules

fits32 : (z : ℤ) → fits w32 z ≡ true → FitsSigned w32 z
fits32 z f = search rules

fits64 : (z : ℤ) → fits w64 z ≡ true → FitsSigned w64 z
fits64 z f = search rules

same8 : (z : ℤ) → FitsSigned w8 z → int_in w8 (int_bytes w8 z) ≡ z
same8 z f = search rules

same16 : (z : ℤ) → FitsSigned w16 z → int_in w16 (int_bytes w16 z) ≡ z
same16 z f = search rules

same32 : (z : ℤ) → FitsSigned w32 z → int_in w32 (int_bytes w32 z) ≡ z
same32 z f = search rules

same64 : (z : ℤ) → FitsSigned w64 z → int_in w64 (int_bytes w64 z) ≡ z
same64 z f = search rules

same_oid : (n : ℕ) → n < 2 ^ 32 → oid_in (oid_bytes n) ≡ n
same_oid n f = search rules

as_oid : (z : ℤ) → fits_oid z ≡ true → pos (oid_in (oid_bytes (unsigned_abs z))) ≡ z
as_oid (pos n) f = ap pos (same_oid n (search rules))
as_oid (negsuc n) f = search rules

same_nat : (n k : ℕ) → (n == k) ≡ true → n ≡ k
same_nat n k e = search rules

decide : {P : Type 0} (n k : ℕ) → (n ≡ k → P) → ((n == k) ≡ false → P) → P
decide {P} n k is isnt = go (n == k) refl
  where
    go : (b : Bool) → (n == k) ≡ b → P
    go true e = is (same_nat n k e)
    go false e = isnt e

-- a whole number
pub number_in : (z : ℤ) (bytes : List ℕ) (n : ℕ) → number_given z n ≡ Ok (Some bytes) → value_in n bytes ≡ Ok (value.Int z)
number_in z bytes n =
    let P : ℕ → Type 0 = λ m. number_given z m ≡ Ok (Some bytes) → value_in m bytes ≡ Ok (value.Int z) in
    decide n 18 (λ p. subst P (sym p) (back (fits w8 z) (int_bytes w8 z) bytes fault.BadValue (value_in 18) (value.Int z) (λ f. ap (λ y. Ok (value.Int y)) (same8 z (fits8 z f))))) (λ e18.
    decide n 21 (λ p. subst P (sym p) (back (fits w16 z) (int_bytes w16 z) bytes fault.BadValue (value_in 21) (value.Int z) (λ f. ap (λ y. Ok (value.Int y)) (same16 z (fits16 z f))))) (λ e21.
    decide n 23 (λ p. subst P (sym p) (back (fits w32 z) (int_bytes w32 z) bytes fault.BadValue (value_in 23) (value.Int z) (λ f. ap (λ y. Ok (value.Int y)) (same32 z (fits32 z f))))) (λ e23.
    decide n 20 (λ p. subst P (sym p) (back (fits w64 z) (int_bytes w64 z) bytes fault.BadValue (value_in 20) (value.Int z) (λ f. ap (λ y. Ok (value.Int y)) (same64 z (fits64 z f))))) (λ e20.
    decide n 26 (λ p. subst P (sym p) (back (fits_oid z) (oid_bytes (unsigned_abs z)) bytes fault.BadValue (value_in 26) (value.Int z) (λ f. ap (λ y. Ok (value.Int y)) (as_oid z f)))) (λ e26 e.
    let wrong : number_given z n ≡ wrong_given n = rw (e18, e21, e23, e20, e26) refl in
    absurd (subst IsRefused (sym wrong ∙ e) tt))))))

-- a text
pub text_in : (t : List ℕ) → is_utf8 t ≡ true → (bytes : List ℕ) (n : ℕ) → (if is_text n then bytes_given t else wrong_given n) ≡ Ok (Some bytes) → value_in n bytes ≡ Ok (value.Text t)
text_in t u bytes n =
    let P : ℕ → Type 0 = λ m. (if is_text m then bytes_given t else wrong_given m) ≡ Ok (Some bytes) → value_in m bytes ≡ Ok (value.Text t) in
    decide n 25 (λ p. subst P (sym p) (back true t bytes fault.BadValue (value_in 25) (value.Text t) (λ f. rw u refl))) (λ e25.
    decide n 1043 (λ p. subst P (sym p) (back true t bytes fault.BadValue (value_in 1043) (value.Text t) (λ f. rw u refl))) (λ e1043.
    decide n 1042 (λ p. subst P (sym p) (back true t bytes fault.BadValue (value_in 1042) (value.Text t) (λ f. rw u refl))) (λ e1042.
    decide n 19 (λ p. subst P (sym p) (back true t bytes fault.BadValue (value_in 19) (value.Text t) (λ f. rw u refl))) (λ e19.
    decide n 705 (λ p. subst P (sym p) (back true t bytes fault.BadValue (value_in 705) (value.Text t) (λ f. rw u refl))) (λ e705 e.
    let wrong : (if is_text n then bytes_given t else wrong_given n) ≡ wrong_given n = rw (e25, e1043, e1042, e19, e705) refl in
    absurd (subst IsRefused (sym wrong ∙ e) tt))))))
