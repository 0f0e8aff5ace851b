-- What an answer of next_out says of the book: the users of a hub need no more of its order.
use Rattle.std.proofs.Common.{◌≡◌, ◌<◌, ◌≤◌, ℕ, zero, suc, ◌-◌, List, [], ◌∷◌, ◌++◌, length, drop, Bool, true, false, if◌then◌else◌, refl, sym, ◌∙◌, ap, arith, slice_set}
use Rattle.pg_desk.specs.declared.event.Booking.{Booking}
use Rattle.pg_desk.specs.declared.event.Out.{Out}
use Rattle.pg_desk.specs.declared.event.Out.TheVariants as out
use Rattle.pg_desk.specs.History.{GoesInOrder, wire, extended, waits_of, started, first_flag, rest_flags, is_copying, first_part, next_part}
use Rattle.pg_desk.specs.Order.{AllParts}
use Rattle.pg_desk.proofs.Parts.{left-of, past-drop, started-zero}

-- none of these requests is a copy that isn't ended
abbrev pub AllEnded : List Booking → List Bool → Type 0
AllEnded [] cs = Unit {0}
AllEnded (b ∷ bs) cs = (first_flag cs ≡ false) × AllEnded bs (rest_flags cs)

-- so no part is added to any
pub ended-extended : (k : ℕ) (part : List ℕ) (bs : List Booking) (cs : List Bool) → AllEnded bs cs → is_copying k cs ≡ true → extended k part bs ≡ bs
ended-extended k part [] cs h c = refl
ended-extended k part (b ∷ bs) [] h c = absurd (let no : false ≡ true = c in cc)
ended-extended zero part (b ∷ bs) (x ∷ cs) h c = absurd (let no : false ≡ true = sym h.0 ∙ c in cc)
ended-extended (suc k) part (b ∷ bs) (x ∷ cs) h c = ap (λ (l : List Booking). b ∷ l) (ended-extended k part bs cs h.1 c)

pub ended-cleared : (k : ℕ) (bs : List Booking) (cs : List Bool) → AllEnded bs cs → AllEnded bs (slice_set cs k false)
ended-cleared k [] cs h = tt
ended-cleared k (b ∷ bs) [] h = h
ended-cleared zero (b ∷ bs) (x ∷ cs) h = (refl, h.1)
ended-cleared (suc k) (b ∷ bs) (x ∷ cs) h = (h.0, ended-cleared k bs cs h.1)

pub ended-more : (bs : List Booking) (cs : List Bool) (b : Booking) → length cs ≡ length bs → AllEnded bs cs → AllEnded (bs ++ b ∷ []) (cs ++ false ∷ [])
ended-more [] [] b same h = (refl, tt)
ended-more [] (c ∷ cs) b same h = absurd cc
ended-more (x ∷ bs) [] b same h = absurd cc
ended-more (x ∷ bs) (c ∷ cs) b same h = (h.0, ended-more bs cs b (omega arith) h.1)

-- one that is ended isn't a copy that waits for parts
pub ended-not : (k : ℕ) (bs : List Booking) (cs : List Bool) → AllEnded bs cs → k < length bs → is_copying k cs ≡ true → ⊥
ended-not k [] cs h low c = omega (arith, low)
ended-not k (b ∷ bs) [] h low c = let no : false ≡ true = c in cc
ended-not zero (b ∷ bs) (x ∷ cs) h low c = let no : false ≡ true = sym h.0 ∙ c in cc
ended-not (suc k) (b ∷ bs) (x ∷ cs) h low c = ended-not k bs cs h.1 (omega (arith, low)) c

-- all parts went out, and no more come of these requests
pub record AllOut (last : Out) (n : ℕ) (bs : List Booking) (cs : List Bool) (o : Out) : Type 0 where
  pub parts : drop n (wire bs) ≡ []
  pub is : o ≡ last
  pub ended : AllEnded bs cs

-- request k is a copy that isn't ended, no part of it waits, and it is the last that began
pub record CopyStands (n : ℕ) (bs : List Booking) (cs : List Bool) : Type 0 where
  pub k : ℕ
  pub booked : k < length bs
  pub copies : is_copying k cs ≡ true
  pub none_waits : waits_of n k bs ≡ 0
  pub begun : GoesInOrder n bs cs → AllParts bs → started n bs ≡ suc k

-- what an answer that is no part says
pub data Stands (last : Out) (n : ℕ) (bs : List Booking) (cs : List Bool) (o : Out) : Type 0 where
  Whole : AllOut last n bs cs o → Stands last n bs cs o
  Waits : o ≡ out.CopyWaits → CopyStands n bs cs → Stands last n bs cs o
  Part : (part : List ℕ) → o ≡ out.Part part → Stands last n bs cs o

started-one : (n : ℕ) (b : Booking) (bs : List Booking) → 0 < n → started n (b ∷ bs) ≡ suc (started (n - length b.parts) bs)
started-one zero b bs h = absurd (omega (arith, h))
started-one (suc n) b bs h = refl

one-more : (last o : Out) (n : ℕ) (b : Booking) (bs : List Booking) (cs : List Bool) → length b.parts ≤ n → first_flag cs ≡ false → Stands last (n - length b.parts) bs (rest_flags cs) o → Stands last n (b ∷ bs) cs o
one-more last o n b bs cs high off (Whole w) = Whole (record {
  parts = past-drop b.parts (wire bs) n high ∙ w.parts;
  is = w.is;
  ended = (off, w.ended);
})
one-more last o n b bs (c ∷ cs) high off (Waits is w) = Waits is (record {
  k = suc w.k;
  booked = omega (arith, w.booked);
  copies = w.copies;
  none_waits = w.none_waits;
  begun = λ order all. started-one n b bs (omega (arith, all.0, high)) ∙ ap suc (w.begun order.1 all.1);
})
one-more last o n b bs [] high off (Waits is w) = absurd (none w.k w.copies)
  where
    none : (k : ℕ) → is_copying k [] ≡ true → ⊥
    none k h = cc
one-more last o n b bs cs high off (Part part is) = Part part is

here : (last o : Out) (n : ℕ) (b : Booking) (bs : List Booking) (cs : List Bool) (l : List (List ℕ)) (c : Bool) → drop n b.parts ≡ l → first_flag cs ≡ c →
    (o ≡ next_part last (n - length b.parts) bs (rest_flags cs) → Stands last (n - length b.parts) bs (rest_flags cs) o) →
    o ≡ first_part l (if c then out.CopyWaits else next_part last (n - length b.parts) bs (rest_flags cs)) → Stands last n (b ∷ bs) cs o
here last o n b bs cs (p ∷ ps) c e f later is = Part p is
here last o n b bs [] [] true e f later is = absurd cc
here last o n b bs (c ∷ cs) [] true e f later is =
    let left = left-of n b.parts [] e in
    Waits is (record {
      k = 0;
      booked = omega arith;
      copies = f;
      none_waits = omega (arith, left);
      begun = λ order all.
          let low : n ≤ length b.parts = order.0 f in
          let none : n - length b.parts ≡ 0 = omega (arith, low) in
          started-one n b bs (omega (arith, left, low, all.0)) ∙ ap (λ (m : ℕ). suc (started m bs)) none ∙ ap suc (started-zero bs);
    })
here last o n b bs cs [] false e f later is = let left = left-of n b.parts [] e in one-more last o n b bs cs (omega (arith, left)) f (later is)

-- by any answer
pub stands : (last o : Out) (n : ℕ) (bs : List Booking) (cs : List Bool) → o ≡ next_part last n bs cs → Stands last n bs cs o
stands last o n [] cs is = Whole (record { parts = drop-none n; is = is; ended = tt })
  where
    drop-none : (n : ℕ) → drop {A = List ℕ} n [] ≡ []
    drop-none zero = refl
    drop-none (suc n) = refl
stands last o n (b ∷ bs) cs is = here last o n b bs cs (drop n b.parts) (first_flag cs) refl refl (λ later. stands last o (n - length b.parts) bs (rest_flags cs) later) is
