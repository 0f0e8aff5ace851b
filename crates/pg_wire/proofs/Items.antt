-- Counted items, read one after another, are all the items of a body.
use Rattle.std.proofs.Common.{◌≡◌, ◌≢◌, ℕ, zero, suc, ◌+◌, ◌-◌, ◌≤◌, true, false, cond, List, [], ◌∷◌, ◌++◌, length, take, drop, Option, Some, None, Result, Ok, Err, refl, sym, ap, subst, ◌∙◌, arith, append_assoc, append-nil, ◌==◌, to_z, of_z, ℤ}
use mir.Val.{SFits}
use Rattle.std.specs.Option.{option_and_then}
use Rattle.std.specs.Int.{Width, w16, w32, byte_len, from_be_bytes, cast_signed}
use Rattle.std.specs.Str.{is_utf8}
use Rattle.std.proofs.lemmas.Bool.{le-leb, eqb-true}
use Rattle.std.proofs.lemmas.Int.{to_z-of_z}
use Rattle.std.proofs.lemmas.List.{length-drop}
use Rattle.std.proofs.Math.Seq.{take-length}
use Rattle.pg_spec.specs.Bytes.{bytes_at, number_at, signed_at}
use Rattle.pg_spec.specs.Bodies.{or_layout, utf8_at, field_at, exactly}
use Rattle.pg_spec.specs.Faults as spec
use Rattle.pg_spec.specs.Faults.{◌>>=◌}
use Rattle.pg_wire.specs.Bodies.{TextEnds}
use Rattle.pg_wire.specs.Steps.{Step, ItemsLeft, counted_step}

-- ---- numbers and texts

pub bytes_at_all : (n : ℕ) (s : List ℕ) → n ≤ length s → bytes_at n s ≡ Some (take n s, drop n s)
bytes_at_all n s fits = ap (λ b. cond b (Some (take n s, drop n s)) None) (le-leb n (length s) fits)

-- what `number_at` makes of the digits
abbrev number : Width → Option (List ℕ × List ℕ) → Option (ℕ × List ℕ)
number w digits = option_and_then (λ (d : List ℕ × List ℕ). Some (from_be_bytes w d.0, d.1)) digits

number_is : (w : Width) (s rest : List ℕ) (n : ℕ) → n ≡ from_be_bytes w (take (byte_len w) s) →
    (byte_len w ≤ length s) × (rest ≡ drop (byte_len w) s) → number_at w s ≡ Some (n, rest)
number_is w s rest n is took =
    let both : ◌≡◌ {A = ℕ × List ℕ} (from_be_bytes w (take (byte_len w) s), drop (byte_len w) s) (n, rest) = λ i. (sym is i, sym took.1 i) in
    ap (number w) (bytes_at_all (byte_len w) s took.0) ∙ ap (λ p. Some p) both

pub number_taken : (w : Width) (s rest : List ℕ) (n : ℕ) → n ≡ from_be_bytes w (take (byte_len w) s) →
    (byte_len w ≤ length s) × (rest ≡ drop (byte_len w) s) → or_layout (number_at w s) ≡ Ok (n, rest)
number_taken w s rest n is took = ap or_layout (number_is w s rest n is took)

pub signed_taken : (w : Width) (s rest : List ℕ) (z : ℤ) → SFits w z → z ≡ cast_signed w (from_be_bytes w (take (byte_len w) s)) →
    (byte_len w ≤ length s) × (rest ≡ drop (byte_len w) s) → or_layout (signed_at w s) ≡ Ok (to_z w (of_z w z), rest)
signed_taken w s rest z fits is took =
    let number : ℕ = from_be_bytes w (take (byte_len w) s) in
    let same : cast_signed w number ≡ to_z w (of_z w z) = sym is ∙ sym (to_z-of_z w z fits) in
    ap or_layout (ap (option_and_then (λ (n : ℕ × List ℕ). Some (cast_signed w n.0, n.1))) (number_is w s rest number refl took)
    ∙ ap (λ (x : ℤ). Some (x, rest)) same)

pub rest_is : (s : List ℕ) (at : ℕ) → take (length s - at) (drop at s) ≡ drop at s
rest_is s at = ap (λ k. take k (drop at s)) (sym (length-drop at s)) ∙ take-length (drop at s)

-- what `utf8_at` makes of a text
abbrev as_utf8 : Option (List ℕ × List ℕ) → Result (List ℕ × List ℕ) spec.WireFault
as_utf8 read = or_layout read >>= λ text. cond (is_utf8 text.0) (Ok text) (Err spec.NotUtf8)

pub text_taken : (s text : List ℕ) (n : ℕ) → TextEnds s (Some n) → text ≡ take n s → is_utf8 (take n s) ≡ true →
    utf8_at s ≡ Ok (text, take (length s - (n + 1)) (drop (n + 1) s))
text_taken s text n ends is valid =
    let both : ◌≡◌ {A = List ℕ × List ℕ} (take n s, drop (n + 1) s) (text, take (length s - (n + 1)) (drop (n + 1) s)) =
    λ i. (sym is i, sym (rest_is s (n + 1)) i) in
    ap as_utf8 ends.1
    ∙ ap (λ b. cond b (Ok (take n s, drop (n + 1) s)) (Err spec.NotUtf8)) valid
    ∙ ap (λ p. Ok p) both

pub text_refused : (s : List ℕ) (n : ℕ) → TextEnds s (Some n) → is_utf8 (take n s) ≡ false → utf8_at s ≡ Err spec.NotUtf8
text_refused s n ends invalid =
    ap as_utf8 ends.1 ∙ ap (λ b. cond b (Ok (take n s, drop (n + 1) s)) (Err spec.NotUtf8)) invalid

pub field_taken : (s r0 r1 r2 r3 r4 r5 r6 name : List ℕ) (table oid : ℕ) (column size modifier format : ℤ) →
    utf8_at s ≡ Ok (name, r0) → or_layout (number_at w32 r0) ≡ Ok (table, r1) → or_layout (signed_at w16 r1) ≡ Ok (column, r2) →
    or_layout (number_at w32 r2) ≡ Ok (oid, r3) → or_layout (signed_at w16 r3) ≡ Ok (size, r4) → or_layout (signed_at w32 r4) ≡ Ok (modifier, r5) →
    or_layout (signed_at w16 r5) ≡ Ok (format, r6) →
    field_at s ≡ Ok (record { name = name; table_oid = table; column_id = column; type_oid = oid; type_size = size; type_modifier = modifier; format = format }, r6)
field_taken s r0 r1 r2 r3 r4 r5 r6 name table oid column size modifier format e0 e1 e2 e3 e4 e5 e6 = rw (e0, e1, e2, e3, e4, e5, e6) refl

-- ---- one step

abbrev left_of : ℕ → List ℕ → ItemsLeft
left_of n s = record { count = n; bytes = s }

pub step_ends : {A : Type 0} (item : List ℕ → Result (A × List ℕ) spec.WireFault) (n : ℕ) (s : List ℕ) (left : ItemsLeft) → left_of n s ≡ left →
    n ≡ 0 → true ≡ (length s == 0) → counted_step item left.count left.bytes ≡ Ok None
step_ends {A = A} item n s left is none empty =
    subst (λ (l : ItemsLeft). counted_step item l.count l.bytes ≡ Ok None) is (ap (λ (k : ℕ). counted_step item k s) none ∙ at_end s empty)
  where
    at_end : (s : List ℕ) → true ≡ (length s == 0) → counted_step {A = A} item 0 s ≡ Ok None
    at_end [] e = refl
    at_end (b ∷ rest) e = absurd (omega (arith, eqb-true (length (b ∷ rest)) 0 (sym e)))

pub step_goes_on : {A : Type 0} (item : List ℕ → Result (A × List ℕ) spec.WireFault) (n : ℕ) (s : List ℕ) (left : ItemsLeft) → left_of n s ≡ left →
    n ≡ 0 → false ≡ (length s == 0) → counted_step item left.count left.bytes ≡ Err spec.Layout
step_goes_on {A = A} item n s left is none more =
    subst (λ (l : ItemsLeft). counted_step item l.count l.bytes ≡ Err spec.Layout) is (ap (λ (k : ℕ). counted_step item k s) none ∙ beyond s more)
  where
    beyond : (s : List ℕ) → false ≡ (length s == 0) → counted_step {A = A} item 0 s ≡ Err spec.Layout
    beyond [] e = absurd cc
    beyond (b ∷ rest) e = refl

pub step_reads : {A : Type 0} (item : List ℕ → Result (A × List ℕ) spec.WireFault) (n : ℕ) (s : List ℕ) (left : ItemsLeft) (x : A) (rest : List ℕ) →
    left_of n s ≡ left → n ≢ 0 → item s ≡ Ok (x, rest) → counted_step item left.count left.bytes ≡ Ok (Some (x, left_of (n - 1) rest))
step_reads {A = A} item n s left x rest is some read =
    subst (λ (l : ItemsLeft). counted_step item l.count l.bytes ≡ Ok (Some (x, left_of (n - 1) rest))) is (by_count n some)
  where
    by_count : (n : ℕ) → n ≢ 0 → counted_step {A = A} item n s ≡ Ok (Some (x, left_of (n - 1) rest))
    by_count zero some = absurd (some refl)
    by_count (suc n) some =
        let e : n ≡ suc n - 1 = omega arith in
        ap (λ r. r >>= λ p. Ok (Some (p.0, left_of n p.1))) read ∙ ap (λ (k : ℕ). Ok (Some (x, left_of k rest))) e

pub step_refuses : {A : Type 0} (item : List ℕ → Result (A × List ℕ) spec.WireFault) (n : ℕ) (s : List ℕ) (left : ItemsLeft) (cause : spec.WireFault) →
    left_of n s ≡ left → n ≢ 0 → item s ≡ Err cause → counted_step item left.count left.bytes ≡ Err cause
step_refuses {A = A} item n s left cause is some read =
    subst (λ (l : ItemsLeft). counted_step item l.count l.bytes ≡ Err cause) is (by_count n some)
  where
    by_count : (n : ℕ) → n ≢ 0 → counted_step {A = A} item n s ≡ Err cause
    by_count zero some = absurd (some refl)
    by_count (suc n) some = ap (λ r. r >>= λ p. Ok (Some (p.0, left_of n p.1))) read

-- ---- for a loop that has read some of the items

-- what the step says of all the items
abbrev by_step : {A : Type 0} → (List ℕ → Result (A × List ℕ) spec.WireFault) → Step A ItemsLeft → Result (List A) spec.WireFault
by_step item (Ok (Some read)) = exactly read.1.count item read.1.bytes >>= λ others. Ok (read.0 ∷ others)
by_step item (Ok None) = Ok []
by_step item (Err cause) = Err cause

-- the items are those of the next step
pub exactly-step : {A : Type 0} (item : List ℕ → Result (A × List ℕ) spec.WireFault) (n : ℕ) (s : List ℕ) →
    exactly n item s ≡ by_step item (counted_step item n s)
exactly-step item zero [] = refl
exactly-step item zero (b ∷ rest) = refl
exactly-step {A = A} item (suc n) s =
    elim (item s) as (λ (r : Result (A × List ℕ) spec.WireFault). (r >>= λ first. exactly n item first.1 >>= λ others. Ok (first.0 ∷ others))
    ≡ by_step item (r >>= λ read. Ok (Some (read.0, left_of n read.1)))) [
      | Ok read ↦ refl
      | Err cause ↦ refl
    ]

-- the items of the body are those that were read and those that are left
abbrev pub AreItems : {A : Type 0} → (List ℕ → Result (A × List ℕ) spec.WireFault) → Result (List A) spec.WireFault → List A → ItemsLeft → Type 0
AreItems item all read left = all ≡ (exactly left.count item left.bytes >>= λ others. Ok (read ++ others))

pub no_item_yet : {A : Type 0} (item : List ℕ → Result (A × List ℕ) spec.WireFault) (n : ℕ) (s : List ℕ) → AreItems item (exactly n item s) [] (left_of n s)
no_item_yet {A = A} item n s = elim (exactly n item s) as (λ (r : Result (List A) spec.WireFault). r ≡ (r >>= λ others. Ok ([] ++ others))) [
  | Ok items ↦ refl
  | Err cause ↦ refl
]

pub one_more_item : {A : Type 0} (item : List ℕ → Result (A × List ℕ) spec.WireFault) (all : Result (List A) spec.WireFault) (read : List A) (left rest : ItemsLeft) (x : A) →
    AreItems item all read left → counted_step item left.count left.bytes ≡ Ok (Some (x, rest)) → AreItems item all (read ++ x ∷ []) rest
one_more_item {A = A} item all read left rest x are step =
    are ∙ ap (λ (r : Result (List A) spec.WireFault). r >>= λ others. Ok (read ++ others)) (exactly-step item left.count left.bytes ∙ ap (by_step item) step)
    ∙ joined (exactly rest.count item rest.bytes)
  where
    joined : (r : Result (List A) spec.WireFault) →
        ((r >>= λ others. Ok (x ∷ others)) >>= λ others. Ok (read ++ others)) ≡ (r >>= λ others. Ok ((read ++ x ∷ []) ++ others))
    joined (Ok items) = ap (λ l. Ok l) (sym (append_assoc read (x ∷ []) items))
    joined (Err cause) = refl

pub all_items : {A : Type 0} (item : List ℕ → Result (A × List ℕ) spec.WireFault) (all : Result (List A) spec.WireFault) (read : List A) (left : ItemsLeft) →
    AreItems item all read left → counted_step item left.count left.bytes ≡ Ok None → all ≡ Ok read
all_items {A = A} item all read left are step =
    are ∙ ap (λ (r : Result (List A) spec.WireFault). r >>= λ others. Ok (read ++ others)) (exactly-step item left.count left.bytes ∙ ap (by_step item) step)
    ∙ ap (λ l. Ok l) (append-nil read)

pub no_items : {A : Type 0} (item : List ℕ → Result (A × List ℕ) spec.WireFault) (all : Result (List A) spec.WireFault) (read : List A) (left : ItemsLeft) (cause : spec.WireFault) →
    AreItems item all read left → counted_step item left.count left.bytes ≡ Err cause → all ≡ Err cause
no_items {A = A} item all read left cause are step =
    are ∙ ap (λ (r : Result (List A) spec.WireFault). r >>= λ others. Ok (read ++ others)) (exactly-step item left.count left.bytes ∙ ap (by_step item) step)
