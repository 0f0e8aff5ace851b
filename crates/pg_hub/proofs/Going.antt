-- What of each request hasn't gone out, from event to event.
use Rattle.std.proofs.Common.{◌≡◌, ◌⊎◌, ◌<◌, ◌≤◌, ℕ, zero, suc, ◌+◌, ◌-◌, List, [], ◌∷◌, ◌++◌, length, drop, Bool, true, false, ◌&&◌, not, if◌then◌else◌, refl, sym, ◌∙◌, ap, subst, inl, inr, arith, nat_lt, slice_set}
use Rattle.std.proofs.lemmas.List.{drop-append-le, length_push, length-drop, drop_all}
use Rattle.std.proofs.lemmas.Bool.Decides.{leb_tells}
use Rattle.pg_desk.specs.declared.event.Booking.{Booking}
use Rattle.pg_desk.specs.declared.event.Out.{Out}
use Rattle.pg_desk.specs.declared.event.Out.TheVariants as out
use Rattle.pg_desk.specs.History.{GoesInOrder, started, waits_of, first_flag, rest_flags, is_copying, extended, first_part, next_part}
use Rattle.pg_desk.specs.Order.{AllParts}
use Rattle.pg_desk.proofs.Parts.{left-of, started-zero}
use Rattle.pg_hub.specs.Rests.{Rest, rest_at, rests, is_whole, whole_of}
use Rattle.pg_hub.proofs.Mailing.{drop-one-more}

-- what the test of a whole request tells
pub whole-tells : (c : Bool) (n m : ℕ) → (((not c && not (nat_lt n m)) ≡ true) × (c ≡ false) × (m ≤ n)) ⊎ (((not c && not (nat_lt n m)) ≡ false) × ((c ≡ true) ⊎ (n < m)))
whole-tells true n m = inr (refl, inl refl)
whole-tells false n m = elim (leb_tells (suc n) m) [
  | inl low ↦ inr (ap not low.0, inr (omega arith))
  | inr high ↦ inl (ap not high.0, refl, omega arith)
]

-- a request more
pub rests-more : (n : ℕ) (bs : List Booking) (cs : List Bool) (b : Booking) (c : Bool) → length cs ≡ length bs → GoesInOrder n bs cs →
    rests n (bs ++ b ∷ []) (cs ++ c ∷ []) ≡ rests n bs cs ++ record { parts = b.parts; copying = c } ∷ []
rests-more n [] [] b c e h = ap (λ (m : ℕ). record { parts = drop m b.parts; copying = c } ∷ []) h
rests-more n [] (y ∷ cs) b c e h = absurd cc
rests-more n (x ∷ bs) [] b c e h = absurd cc
rests-more n (x ∷ bs) (y ∷ cs) b c e h = ap (λ (l : List Rest). record { parts = drop n x.parts; copying = y } ∷ l) (rests-more (n - length x.parts) bs cs b c (omega arith) h.1)

not-whole : (n : ℕ) (b : Booking) (c : Bool) (x : ℕ) → n < length b.parts → (if is_whole n b c then suc x else 0) ≡ 0
not-whole n b c x low = elim (whole-tells c n (length b.parts)) [
  | inl w ↦ absurd (omega arith)
  | inr w ↦ ap (λ (t : Bool). if t then suc x else 0) w.0
]

pub whole-more : (n : ℕ) (bs : List Booking) (cs : List Bool) (b : Booking) (c : Bool) → length cs ≡ length bs → 0 < length b.parts → GoesInOrder n bs cs →
    whole_of n (bs ++ b ∷ []) (cs ++ c ∷ []) ≡ whole_of n bs cs
whole-more n [] [] b c e one h = not-whole n b c 0 (omega arith)
whole-more n [] (y ∷ cs) b c e one h = absurd cc
whole-more n (x ∷ bs) [] b c e one h = absurd cc
whole-more n (x ∷ bs) (y ∷ cs) b c e one h = ap (λ (m : ℕ). if is_whole n x y then suc m else 0) (whole-more (n - length x.parts) bs cs b c (omega arith) one h.1)

-- a part more of a copy, which goes on as one or not
pub rests-extended : (n k : ℕ) (part : List ℕ) (on : Bool) (bs : List Booking) (cs : List Bool) → GoesInOrder n bs cs → is_copying k cs ≡ true →
    rests n (extended k part bs) (slice_set cs k on) ≡ slice_set (rests n bs cs) k (record { parts = (rest_at (rests n bs cs) k).parts ++ part ∷ []; copying = on })
rests-extended n k part on [] cs h c = refl
rests-extended n k part on (b ∷ bs) [] h c = absurd cc
rests-extended n zero part on (b ∷ bs) (x ∷ cs) h c =
    let low : n ≤ length b.parts = h.0 c in
    let more : length (b.parts ++ part ∷ []) ≡ length b.parts + 1 = length_push b.parts part in
    let same : n - length (b.parts ++ part ∷ []) ≡ n - length b.parts = omega arith in
    ap (λ (m : ℕ). record { parts = drop n (b.parts ++ part ∷ []); copying = on } ∷ rests m bs cs) same
    ∙ ap (λ (l : List (List ℕ)). record { parts = l; copying = on } ∷ rests (n - length b.parts) bs cs) (drop-append-le n b.parts (part ∷ []) low)
rests-extended n (suc k) part on (b ∷ bs) (x ∷ cs) h c = ap (λ (l : List Rest). record { parts = drop n b.parts; copying = x } ∷ l) (rests-extended (n - length b.parts) k part on bs cs h.1 c)

pub whole-extended : (n k : ℕ) (part : List ℕ) (on : Bool) (bs : List Booking) (cs : List Bool) → GoesInOrder n bs cs → is_copying k cs ≡ true →
    whole_of n (extended k part bs) (slice_set cs k on) ≡ whole_of n bs cs
whole-extended n k part on [] cs h c = refl
whole-extended n k part on (b ∷ bs) [] h c = absurd cc
whole-extended n zero part on (b ∷ bs) (x ∷ cs) h c =
    let low : n ≤ length b.parts = h.0 c in
    let more : length (b.parts ++ part ∷ []) ≡ length b.parts + 1 = length_push b.parts part in
    not-whole n (record { stamp = b.stamp; parts = b.parts ++ part ∷ [] }) on _ (omega arith)
    ∙ sym (elim (whole-tells x n (length b.parts)) [
      | inl w ↦ absurd (let e : true ≡ false = sym c ∙ w.1 in cc)
      | inr w ↦ ap (λ (t : Bool). if t then suc (whole_of (n - length b.parts) bs cs) else 0) w.0
    ])
whole-extended n (suc k) part on (b ∷ bs) (x ∷ cs) h c = ap (λ (m : ℕ). if is_whole n b x then suc m else 0) (whole-extended (n - length b.parts) k part on bs cs h.1 c)

-- the flag of a copy that goes on stays
pub flag-same : (k : ℕ) (cs : List Bool) → is_copying k cs ≡ true → slice_set cs k true ≡ cs
flag-same k [] c = refl
flag-same zero (x ∷ cs) c = ap (λ (b : Bool). b ∷ cs) (sym c)
flag-same (suc k) (x ∷ cs) c = ap (λ (l : List Bool). x ∷ l) (flag-same k cs c)

pub no-flag : (k : ℕ) (cs : List Bool) → length cs ≤ k → is_copying k cs ≡ false
no-flag k [] past = refl
no-flag zero (x ∷ cs) past = absurd (omega arith)
no-flag (suc k) (x ∷ cs) past = no-flag k cs (omega arith)

pub length-rests : (n : ℕ) (bs : List Booking) (cs : List Bool) → length (rests n bs cs) ≡ length bs
length-rests n [] cs = refl
length-rests n (b ∷ bs) cs = ap suc (length-rests (n - length b.parts) bs (rest_flags cs))

pub copying-at : (n k : ℕ) (bs : List Booking) (cs : List Bool) → length cs ≡ length bs → (rest_at (rests n bs cs) k).copying ≡ is_copying k cs
copying-at n k [] [] e = refl
copying-at n k [] (x ∷ cs) e = absurd cc
copying-at n k (b ∷ bs) [] e = absurd cc
copying-at n zero (b ∷ bs) (x ∷ cs) e = refl
copying-at n (suc k) (b ∷ bs) (x ∷ cs) e = copying-at (n - length b.parts) k bs cs (omega arith)

pub waits-at : (n k : ℕ) (bs : List Booking) (cs : List Bool) → length (rest_at (rests n bs cs) k).parts ≡ waits_of n k bs
waits-at n k [] cs = refl
waits-at n zero (b ∷ bs) cs = length-drop n b.parts
waits-at n (suc k) (b ∷ bs) cs = waits-at (n - length b.parts) k bs (rest_flags cs)

-- what goes out next
first-none : (n : ℕ) (b : Booking) (c : Bool) (other : Out) → c ≡ false → length b.parts ≤ n → first_part (drop n b.parts) (if c then out.CopyWaits else other) ≡ other
first-none n b c other is high = ap (λ (l : List (List ℕ)). first_part l (if c then out.CopyWaits else other)) (drop_all n b.parts high) ∙ ap (λ (t : Bool). if t then out.CopyWaits else other) is

pub next-none : (last : Out) (n : ℕ) (bs : List Booking) (cs : List Bool) → length bs ≤ whole_of n bs cs → next_part last n bs cs ≡ last
next-none last n [] cs all = refl
next-none last n (b ∷ bs) cs all = elim (whole-tells (first_flag cs) n (length b.parts)) [
  | inl w ↦ first-none n b (first_flag cs) (next_part last (n - length b.parts) bs (rest_flags cs)) w.1 w.2 ∙ next-none last (n - length b.parts) bs (rest_flags cs)
      (let e : suc (length bs) ≤ suc (whole_of (n - length b.parts) bs (rest_flags cs)) = subst (λ (t : Bool). suc (length bs) ≤ (if t then suc (whole_of (n - length b.parts) bs (rest_flags cs)) else 0)) w.0 all in omega arith)
  | inr w ↦ absurd (let e : suc (length bs) ≤ 0 = subst (λ (t : Bool). suc (length bs) ≤ (if t then suc (whole_of (n - length b.parts) bs (rest_flags cs)) else 0)) w.0 all in omega arith)
]

-- the oldest request that hasn't gone out whole
next-here : (n : ℕ) (b : Booking) (c : Bool) (other : Out) (l : List (List ℕ)) → drop n b.parts ≡ l → (c ≡ true) ⊎ (n < length b.parts) →
    first_part l (if c then out.CopyWaits else other) ≡ first_part l out.CopyWaits
next-here n b c other (p ∷ ps) e w = refl
next-here n b c other [] e w = elim w [
  | inl is ↦ ap (λ (t : Bool). if t then out.CopyWaits else other) is
  | inr low ↦ absurd (let left = left-of n b.parts [] e in omega arith)
]

pub next-some : (last : Out) (n : ℕ) (bs : List Booking) (cs : List Bool) → whole_of n bs cs < length bs →
    next_part last n bs cs ≡ first_part (rest_at (rests n bs cs) (whole_of n bs cs)).parts out.CopyWaits
next-some last n [] cs some = absurd (omega arith)
next-some last n (b ∷ bs) cs some = elim (whole-tells (first_flag cs) n (length b.parts)) [
  | inl w ↦ first-none n b (first_flag cs) (next_part last (n - length b.parts) bs (rest_flags cs)) w.1 w.2
      ∙ next-some last (n - length b.parts) bs (rest_flags cs) (let e : suc (whole_of (n - length b.parts) bs (rest_flags cs)) < suc (length bs) = subst (λ (t : Bool). (if t then suc (whole_of (n - length b.parts) bs (rest_flags cs)) else 0) < suc (length bs)) w.0 some in omega arith)
      ∙ ap (λ (t : Bool). first_part (rest_at (rests n (b ∷ bs) cs) (if t then suc (whole_of (n - length b.parts) bs (rest_flags cs)) else 0)).parts out.CopyWaits) (sym w.0)
  | inr w ↦ next-here n b (first_flag cs) (next_part last (n - length b.parts) bs (rest_flags cs)) (drop n b.parts) refl w.1
      ∙ ap (λ (t : Bool). first_part (rest_at (rests n (b ∷ bs) cs) (if t then suc (whole_of (n - length b.parts) bs (rest_flags cs)) else 0)).parts out.CopyWaits) (sym w.0)
]

pub whole-zero : (bs : List Booking) (cs : List Bool) → AllParts bs → whole_of 0 bs cs ≡ 0
whole-zero [] cs h = refl
whole-zero (b ∷ bs) cs h = not-whole 0 b (first_flag cs) _ h.0

-- the first began where something went out
started-one : (n : ℕ) (b : Booking) (bs : List Booking) → 0 < n → started n (b ∷ bs) ≡ suc (started (n - length b.parts) bs)
started-one zero b bs h = absurd (omega (arith, h))
started-one (suc n) b bs h = refl

-- One part more went out, of request w, of which this is left.
pub record Went (n : ℕ) (bs : List Booking) (cs : List Bool) (w : ℕ) (left : Rest) : Type 0 where
  pub rests : rests (n + 1) bs cs ≡ slice_set (rests n bs cs) w left
  pub started : started (n + 1) bs ≡ w + 1
  pub whole : left ≡ record { parts = []; copying = false } → whole_of (n + 1) bs cs ≡ w + 1
  pub not_whole : (left ≡ record { parts = []; copying = false } → ⊥) → whole_of (n + 1) bs cs ≡ w

went-here : (n : ℕ) (b : Booking) (bs : List Booking) (cs : List Bool) (p : List ℕ) (left : Rest) → drop n b.parts ≡ p ∷ left.parts → left.copying ≡ first_flag cs → AllParts bs → Went n (b ∷ bs) cs 0 left
went-here n b bs cs p left e c all =
    let size : length b.parts - n ≡ suc (length left.parts) = left-of n b.parts (p ∷ left.parts) e in
    let gone : n + 1 - length b.parts ≡ 0 = omega arith in
    let gone' : n - length b.parts ≡ 0 = omega arith in
    record {
      rests = ap (λ (m : ℕ). record { parts = drop (n + 1) b.parts; copying = first_flag cs } ∷ rests m bs (rest_flags cs)) (gone ∙ sym gone')
          ∙ ap (λ (l : List (List ℕ)). record { parts = l; copying = first_flag cs } ∷ rests (n - length b.parts) bs (rest_flags cs)) (drop-one-more n b.parts p left.parts e)
          ∙ ap (λ (t : Bool). record { parts = left.parts; copying = t } ∷ rests (n - length b.parts) bs (rest_flags cs)) (sym c);
      started = started-one (n + 1) b bs (omega arith) ∙ ap (λ (m : ℕ). suc (started m bs)) gone ∙ ap suc (started-zero bs);
      whole = λ is. elim (whole-tells (first_flag cs) (n + 1) (length b.parts)) [
        | inl w ↦ ap (λ (t : Bool). if t then suc (whole_of (n + 1 - length b.parts) bs (rest_flags cs)) else 0) w.0 ∙ ap (λ (m : ℕ). suc (whole_of m bs (rest_flags cs))) gone ∙ ap suc (whole-zero bs (rest_flags cs) all)
        | inr w ↦ absurd (elim w.1 [
          | inl on ↦ let e' : true ≡ false = sym on ∙ sym c ∙ ap (λ (r : Rest). r.copying) is in cc
          | inr low ↦ let e' : length left.parts ≡ 0 = ap (λ (r : Rest). length r.parts) is in omega arith
        ])
      ];
      not_whole = λ apart. elim (whole-tells (first_flag cs) (n + 1) (length b.parts)) [
        | inl w ↦ absurd (apart (same-rest left (omega arith) (c ∙ w.1)))
        | inr w ↦ ap (λ (t : Bool). if t then suc (whole_of (n + 1 - length b.parts) bs (rest_flags cs)) else 0) w.0
      ];
    }
  where
    no-parts : (l : List (List ℕ)) → length l ≡ 0 → l ≡ []
    no-parts [] h = refl
    no-parts (x ∷ l) h = absurd (omega arith)

    same-rest : (r : Rest) → length r.parts ≡ 0 → r.copying ≡ false → r ≡ record { parts = []; copying = false }
    same-rest r h k = ap (λ (l : List (List ℕ)). record { parts = l; copying = r.copying }) (no-parts r.parts h) ∙ ap (λ (t : Bool). record { parts = []; copying = t }) k

went-later : (n : ℕ) (b : Booking) (bs : List Booking) (cs : List Bool) (w : ℕ) (left : Rest) → first_flag cs ≡ false → length b.parts ≤ n → Went (n - length b.parts) bs (rest_flags cs) w left → Went n (b ∷ bs) cs (suc w) left
went-later n b bs cs w left c high g =
    let less : n + 1 - length b.parts ≡ (n - length b.parts) + 1 = omega arith in
    let test : is_whole (n + 1) b (first_flag cs) ≡ true = elim (whole-tells (first_flag cs) (n + 1) (length b.parts)) [
      | inl t ↦ t.0
      | inr t ↦ absurd (elim t.1 [ inl on ↦ let e : true ≡ false = sym on ∙ c in cc | inr low ↦ omega arith ])
    ] in
    let step : whole_of (n + 1) (b ∷ bs) cs ≡ suc (whole_of ((n - length b.parts) + 1) bs (rest_flags cs)) =
    ap (λ (t : Bool). if t then suc (whole_of (n + 1 - length b.parts) bs (rest_flags cs)) else 0) test ∙ ap (λ (m : ℕ). suc (whole_of m bs (rest_flags cs))) less in
    record {
      rests = ap (λ (l : List (List ℕ)). record { parts = l; copying = first_flag cs } ∷ rests (n + 1 - length b.parts) bs (rest_flags cs)) (drop_all (n + 1) b.parts (omega arith) ∙ sym (drop_all n b.parts high))
          ∙ ap (λ (m : ℕ). record { parts = drop n b.parts; copying = first_flag cs } ∷ rests m bs (rest_flags cs)) less
          ∙ ap (λ (l : List Rest). record { parts = drop n b.parts; copying = first_flag cs } ∷ l) g.rests;
      started = started-one (n + 1) b bs (omega arith) ∙ ap (λ (m : ℕ). suc (started m bs)) less ∙ ap suc g.started ∙ omega arith;
      whole = λ is. step ∙ ap suc (g.whole is) ∙ omega arith;
      not_whole = λ apart. step ∙ ap suc (g.not_whole apart);
    }

pub went : (n : ℕ) (bs : List Booking) (cs : List Bool) (p : List ℕ) (left : Rest) → AllParts bs → whole_of n bs cs < length bs → (rest_at (rests n bs cs) (whole_of n bs cs)).parts ≡ p ∷ left.parts →
    left.copying ≡ (rest_at (rests n bs cs) (whole_of n bs cs)).copying → Went n bs cs (whole_of n bs cs) left
went n [] cs p left all some e c = absurd (omega arith)
went n (b ∷ bs) cs p left all some e c = elim (whole-tells (first_flag cs) n (length b.parts)) [
  | inl w ↦
      let at : (t : Bool) → Type 0 = λ t. Went n (b ∷ bs) cs (if t then suc (whole_of (n - length b.parts) bs (rest_flags cs)) else 0) left in
      subst at (sym w.0) (went-later n b bs cs (whole_of (n - length b.parts) bs (rest_flags cs)) left w.1 w.2
      (went (n - length b.parts) bs (rest_flags cs) p left all.1
      (let s : suc (whole_of (n - length b.parts) bs (rest_flags cs)) < suc (length bs) = subst (λ (t : Bool). (if t then suc (whole_of (n - length b.parts) bs (rest_flags cs)) else 0) < suc (length bs)) w.0 some in omega arith)
      (subst (λ (t : Bool). (rest_at (rests n (b ∷ bs) cs) (if t then suc (whole_of (n - length b.parts) bs (rest_flags cs)) else 0)).parts ≡ p ∷ left.parts) w.0 e)
      (subst (λ (t : Bool). left.copying ≡ (rest_at (rests n (b ∷ bs) cs) (if t then suc (whole_of (n - length b.parts) bs (rest_flags cs)) else 0)).copying) w.0 c)))
  | inr w ↦
      let at : (t : Bool) → Type 0 = λ t. Went n (b ∷ bs) cs (if t then suc (whole_of (n - length b.parts) bs (rest_flags cs)) else 0) left in
      subst at (sym w.0) (went-here n b bs cs p left
      (subst (λ (t : Bool). (rest_at (rests n (b ∷ bs) cs) (if t then suc (whole_of (n - length b.parts) bs (rest_flags cs)) else 0)).parts ≡ p ∷ left.parts) w.0 e)
      (subst (λ (t : Bool). left.copying ≡ (rest_at (rests n (b ∷ bs) cs) (if t then suc (whole_of (n - length b.parts) bs (rest_flags cs)) else 0)).copying) w.0 c) all.1)
]
