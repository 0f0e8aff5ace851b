-- The parts of the book, and those that went out.
use Rattle.std.proofs.Common.{◌≡◌, ◌<◌, ◌≤◌, ℕ, zero, suc, ◌+◌, ◌-◌, List, [], ◌∷◌, ◌++◌, length, take, drop, Bool, true, false, if◌then◌else◌, refl, sym, ◌∙◌, ap, subst, inl, inr, arith, append_assoc, slice_set}
use Rattle.std.proofs.lemmas.Grind.{common_steps}
use Rattle.std.proofs.lemmas.List.{take-append-le, drop-append-le, length_push, length-drop, length-append}
use Rattle.std.proofs.lemmas.Bool.Decides.{leb_tells}
use Rattle.std.proofs.Math.Seq.{take-append-add, drop-append-add}
use Rattle.pg_desk.specs.declared.event.Booking.{Booking}
use Rattle.pg_desk.specs.declared.event.Out.{Out}
use Rattle.pg_desk.specs.declared.event.Out.TheVariants as out
use Rattle.pg_desk.specs.History.{GoesInOrder, wire, waits_of, started, first_flag, rest_flags, is_copying, extended, first_part, next_part}
use Rattle.pg_desk.specs.Order.{AllParts, FewWait}

pub past-take : {A : Type 0} (xs ys : List A) (n : ℕ) → length xs ≤ n → take n (xs ++ ys) ≡ xs ++ take (n - length xs) ys
past-take xs ys n h = let e : n ≡ length xs + (n - length xs) = omega arith in ap (λ (m : ℕ). take m (xs ++ ys)) e ∙ take-append-add xs ys (n - length xs)

pub past-drop : {A : Type 0} (xs ys : List A) (n : ℕ) → length xs ≤ n → drop n (xs ++ ys) ≡ drop (n - length xs) ys
past-drop xs ys n h = let e : n ≡ length xs + (n - length xs) = omega arith in ap (λ (m : ℕ). drop m (xs ++ ys)) e ∙ drop-append-add xs ys (n - length xs)

pub left-of : {A : Type 0} (n : ℕ) (xs l : List A) → drop n xs ≡ l → length xs - n ≡ length l
left-of n xs l e = sym (length-drop n xs) ∙ ap length e

pub wire-more : (bs : List Booking) (b : Booking) → wire (bs ++ b ∷ []) ≡ wire bs ++ b.parts
wire-more [] b = grind (arith, common_steps)
wire-more (x ∷ bs) b = ap (λ (l : List (List ℕ)). x.parts ++ l) (wire-more bs b) ∙ sym (append_assoc x.parts (wire bs) b.parts)

-- as many requests
pub extended-length : (k : ℕ) (part : List ℕ) (bs : List Booking) → length (extended k part bs) ≡ length bs
extended-length k part [] = refl
extended-length zero part (b ∷ bs) = refl
extended-length (suc k) part (b ∷ bs) = ap suc (extended-length k part bs)

-- a request more
pub order-more : (n : ℕ) (bs : List Booking) (cs : List Bool) (b : Booking) (c : Bool) → length cs ≡ length bs → GoesInOrder n bs cs → GoesInOrder n (bs ++ b ∷ []) (cs ++ c ∷ [])
order-more n [] [] b c e h = (λ on. omega arith, omega arith)
order-more n [] (y ∷ cs) b c e h = absurd cc
order-more n (x ∷ bs) [] b c e h = absurd cc
order-more n (x ∷ bs) (y ∷ cs) b c e h = (h.0, order-more (n - length x.parts) bs cs b c (omega arith) h.1)

few-one : (c : Bool) (n k : ℕ) → k ≤ 1 → k ≤ n + (if c then 2 else 3)
few-one true n k h = omega arith
few-one false n k h = omega arith

pub few-more : (n : ℕ) (bs : List Booking) (cs : List Bool) (b : Booking) (c : Bool) → length cs ≡ length bs → length b.parts ≤ 1 → FewWait n bs cs → FewWait n (bs ++ b ∷ []) (cs ++ c ∷ [])
few-more n [] [] b c e one h = (few-one c n (length b.parts) one, tt)
few-more n [] (y ∷ cs) b c e one h = absurd cc
few-more n (x ∷ bs) [] b c e one h = absurd cc
few-more n (x ∷ bs) (y ∷ cs) b c e one h = (h.0, few-more (n - length x.parts) bs cs b c (omega arith) one h.1)

-- a part more of a copy
pub order-extended : (n k : ℕ) (part : List ℕ) (bs : List Booking) (cs : List Bool) → GoesInOrder n bs cs → is_copying k cs ≡ true → GoesInOrder n (extended k part bs) cs
order-extended n k part [] cs h c = h
order-extended n k part (b ∷ bs) [] h c = absurd cc
order-extended n zero part (b ∷ bs) (x ∷ cs) h c =
    let low : n ≤ length b.parts = h.0 c in
    let more : length (b.parts ++ part ∷ []) ≡ length b.parts + 1 = length_push b.parts part in
    (λ on. omega arith, subst (λ (m : ℕ). GoesInOrder m bs cs) (omega arith) h.1)
order-extended n (suc k) part (b ∷ bs) (x ∷ cs) h c = (h.0, order-extended (n - length b.parts) k part bs cs h.1 c)

-- an order is kept where a copy ends
pub order-cleared : (n k : ℕ) (bs : List Booking) (cs : List Bool) → GoesInOrder n bs cs → GoesInOrder n bs (slice_set cs k false)
order-cleared n k [] cs h = h
order-cleared n k (b ∷ bs) [] h = h
order-cleared n zero (b ∷ bs) (x ∷ cs) h = (λ on. absurd cc, h.1)
order-cleared n (suc k) (b ∷ bs) (x ∷ cs) h = (h.0, order-cleared (n - length b.parts) k bs cs h.1)

-- a part more of a copy that goes on, where fewer than two wait
pub few-extended : (n k : ℕ) (part : List ℕ) (bs : List Booking) (cs : List Bool) → GoesInOrder n bs cs → is_copying k cs ≡ true → waits_of n k bs < 2 → FewWait n bs cs → FewWait n (extended k part bs) cs
few-extended n k part [] cs h c w f = f
few-extended n k part (b ∷ bs) [] h c w f = absurd cc
few-extended n zero part (b ∷ bs) (true ∷ cs) h c w f =
    let low : n ≤ length b.parts = h.0 c in
    let more : length (b.parts ++ part ∷ []) ≡ length b.parts + 1 = length_push b.parts part in
    (omega arith, subst (λ (m : ℕ). FewWait m bs cs) (omega arith) f.1)
few-extended n zero part (b ∷ bs) (false ∷ cs) h c w f = absurd cc
few-extended n (suc k) part (b ∷ bs) (x ∷ cs) h c w f = (f.0, few-extended (n - length b.parts) k part bs cs h.1 c w f.1)

-- the last part of a copy
pub few-ended : (n k : ℕ) (part : List ℕ) (bs : List Booking) (cs : List Bool) → GoesInOrder n bs cs → is_copying k cs ≡ true → FewWait n bs cs → FewWait n (extended k part bs) (slice_set cs k false)
few-ended n k part [] cs h c f = tt
few-ended n k part (b ∷ bs) [] h c f = absurd cc
few-ended n zero part (b ∷ bs) (true ∷ cs) h c f =
    let low : n ≤ length b.parts = h.0 c in
    let more : length (b.parts ++ part ∷ []) ≡ length b.parts + 1 = length_push b.parts part in
    (omega arith, subst (λ (m : ℕ). FewWait m bs cs) (omega arith) f.1)
few-ended n zero part (b ∷ bs) (false ∷ cs) h c f = absurd cc
few-ended n (suc k) part (b ∷ bs) (x ∷ cs) h c f = (f.0, few-ended (n - length b.parts) k part bs cs h.1 c f.1)

few-here : (c : Bool) (n m : ℕ) → m ≤ n + (if c then 2 else 3) → m - n ≤ (if c then 2 else 3)
few-here true n m h = omega arith
few-here false n m h = omega arith

few-none : (c : Bool) → 0 ≤ (if c then 2 else 3)
few-none true = omega arith
few-none false = omega arith

pub few-waits : (n k : ℕ) (bs : List Booking) (cs : List Bool) → FewWait n bs cs → waits_of n k bs ≤ (if is_copying k cs then 2 else 3)
few-waits n k [] cs f = few-none (is_copying k cs)
few-waits n zero (b ∷ bs) [] f = few-here false n (length b.parts) f.0
few-waits n zero (b ∷ bs) (c ∷ cs) f = few-here c n (length b.parts) f.0
few-waits n (suc k) (b ∷ bs) [] f = few-waits (n - length b.parts) k bs [] f.1
few-waits n (suc k) (b ∷ bs) (c ∷ cs) f = few-waits (n - length b.parts) k bs cs f.1

-- what went out is what it was, where a copy gets a part more
pub take-extended : (n k : ℕ) (part : List ℕ) (bs : List Booking) (cs : List Bool) → GoesInOrder n bs cs → is_copying k cs ≡ true → take n (wire (extended k part bs)) ≡ take n (wire bs)
take-extended n k part [] cs h c = refl
take-extended n k part (b ∷ bs) [] h c = absurd cc
take-extended n zero part (b ∷ bs) (x ∷ cs) h c =
    let low : n ≤ length b.parts = h.0 c in
    let more : length (b.parts ++ part ∷ []) ≡ length b.parts + 1 = length_push b.parts part in
    take-append-le n (b.parts ++ part ∷ []) (wire bs) (omega arith) ∙ take-append-le n b.parts (part ∷ []) low ∙ sym (take-append-le n b.parts (wire bs) low)
take-extended n (suc k) part (b ∷ bs) (x ∷ cs) h c = elim (leb_tells n (length b.parts)) [
  | inl low ↦ take-append-le n b.parts (wire (extended k part bs)) low.1 ∙ sym (take-append-le n b.parts (wire bs) low.1)
  | inr high ↦ past-take b.parts (wire (extended k part bs)) n (omega arith)
      ∙ ap (λ (l : List (List ℕ)). b.parts ++ l) (take-extended (n - length b.parts) k part bs cs h.1 c) ∙ sym (past-take b.parts (wire bs) n (omega arith))
]

-- more parts went out
pub few-up : (n m : ℕ) (bs : List Booking) (cs : List Bool) → n ≤ m → FewWait n bs cs → FewWait m bs cs
few-up n m [] cs low f = tt
few-up n m (b ∷ bs) cs low f = (up (first_flag cs) f.0, few-up (n - length b.parts) (m - length b.parts) bs (rest_flags cs) (omega arith) f.1)
  where
    up : (c : Bool) → length b.parts ≤ n + (if c then 2 else 3) → length b.parts ≤ m + (if c then 2 else 3)
    up true h = omega arith
    up false h = omega arith

-- ---- how many requests have begun

pub started-zero : (bs : List Booking) → started 0 bs ≡ 0
started-zero [] = refl
started-zero (b ∷ bs) = refl

pub started-low : (n : ℕ) (bs : List Booking) → started n bs ≤ length bs
started-low n [] = omega arith
started-low zero (b ∷ bs) = omega arith
started-low (suc n) (b ∷ bs) = let h = started-low (suc n - length b.parts) bs in omega (arith, h)

-- more began where more went out
pub started-up : (n m : ℕ) (bs : List Booking) → n ≤ m → started n bs ≤ started m bs
started-up n m [] low = omega arith
started-up zero m (b ∷ bs) low = omega arith
started-up (suc n) zero (b ∷ bs) low = absurd (omega (arith, low))
started-up (suc n) (suc m) (b ∷ bs) low = let h = started-up (suc n - length b.parts) (suc m - length b.parts) bs (omega (arith, low)) in omega (arith, h)

-- as many where a request is booked, and where a copy gets a part more
pub started-more : (n : ℕ) (bs : List Booking) (cs : List Bool) (b : Booking) → GoesInOrder n bs cs → started n (bs ++ b ∷ []) ≡ started n bs
started-more n [] cs b h = ap (λ (m : ℕ). started m (b ∷ [])) h
started-more zero (x ∷ bs) cs b h = refl
started-more (suc n) (x ∷ bs) cs b h = ap suc (started-more (suc n - length x.parts) bs (rest_flags cs) b h.1)

pub started-extended : (n k : ℕ) (part : List ℕ) (bs : List Booking) (cs : List Bool) → GoesInOrder n bs cs → is_copying k cs ≡ true → started n (extended k part bs) ≡ started n bs
started-extended n k part [] cs h c = refl
started-extended n k part (b ∷ bs) [] h c = absurd cc
started-extended zero zero part (b ∷ bs) (x ∷ cs) h c = refl
started-extended (suc n) zero part (b ∷ bs) (x ∷ cs) h c =
    let low : suc n ≤ length b.parts = h.0 c in
    let more : length (b.parts ++ part ∷ []) ≡ length b.parts + 1 = length_push b.parts part in
    ap (λ (m : ℕ). suc (started m bs)) (let e : suc n - length (b.parts ++ part ∷ []) ≡ suc n - length b.parts = omega arith in e)
started-extended zero (suc k) part (b ∷ bs) (x ∷ cs) h c = refl
started-extended (suc n) (suc k) part (b ∷ bs) (x ∷ cs) h c = ap suc (started-extended (suc n - length b.parts) k part bs cs h.1 c)

-- no more went out than there are
pub order-low : (n : ℕ) (bs : List Booking) (cs : List Bool) → GoesInOrder n bs cs → n ≤ length (wire bs)
order-low n [] cs h = omega (arith, h)
order-low n (b ∷ bs) cs h =
    let rest = order-low (n - length b.parts) bs (rest_flags cs) h.1 in
    let both = length-append b.parts (wire bs) in omega (arith, rest, both)

-- where all parts went out all began
pub all-began : (n : ℕ) (bs : List Booking) → AllParts bs → length (wire bs) ≤ n → started n bs ≡ length bs
all-began n [] h low = refl
all-began zero (b ∷ bs) h low = let one : 0 < length b.parts = h.0 in let both = length-append b.parts (wire bs) in absurd (omega (arith, low, one, both))
all-began (suc n) (b ∷ bs) h low = let both = length-append b.parts (wire bs) in ap suc (all-began (suc n - length b.parts) bs h.1 (omega (arith, low, both)))

-- no more began than parts went out
pub started-most : (n : ℕ) (bs : List Booking) → AllParts bs → started n bs ≤ n
started-most n [] h = omega arith
started-most zero (b ∷ bs) h = omega arith
started-most (suc n) (b ∷ bs) h = let one : 0 < length b.parts = h.0 in let more = started-most (suc n - length b.parts) bs h.1 in omega (arith, one, more)

-- each request has a part still
pub all-more : (bs : List Booking) (b : Booking) → 0 < length b.parts → AllParts bs → AllParts (bs ++ b ∷ [])
all-more [] b one h = (one, tt)
all-more (x ∷ bs) b one h = (h.0, all-more bs b one h.1)

pub all-extended : (k : ℕ) (part : List ℕ) (bs : List Booking) → AllParts bs → AllParts (extended k part bs)
all-extended k part [] h = tt
all-extended zero part (b ∷ bs) h = (let more : length (b.parts ++ part ∷ []) ≡ length b.parts + 1 = length_push b.parts part in omega arith, h.1)
all-extended (suc k) part (b ∷ bs) h = (h.0, all-extended k part bs h.1)

-- The next part goes out: it is the next of the wire, and the order is kept.
pub record GoesOut (n : ℕ) (bs : List Booking) (cs : List Bool) (part : List ℕ) : Type 0 where
  pub more : List (List ℕ)
  pub next : drop n (wire bs) ≡ part ∷ more
  pub order : GoesInOrder n bs cs → GoesInOrder (n + 1) bs cs

goes-out-here : (last : Out) (n : ℕ) (b : Booking) (bs : List Booking) (cs : List Bool) (part : List ℕ) (l : List (List ℕ)) (c : Bool) → drop n b.parts ≡ l → first_flag cs ≡ c →
    (next_part last (n - length b.parts) bs (rest_flags cs) ≡ out.Part part → GoesOut (n - length b.parts) bs (rest_flags cs) part) →
    first_part l (if c then out.CopyWaits else next_part last (n - length b.parts) bs (rest_flags cs)) ≡ out.Part part → GoesOut n (b ∷ bs) cs part
goes-out-here last n b bs cs part (p ∷ ps) c e on later is =
    let left = left-of n b.parts (p ∷ ps) e in
    let same : p ≡ part = cc in
    record {
      more = ps ++ wire bs;
      next = drop-append-le n b.parts (wire bs) (omega arith) ∙ ap (λ (l : List (List ℕ)). l ++ wire bs) e ∙ ap (λ (x : List ℕ). x ∷ (ps ++ wire bs)) same;
      order = λ h. (λ on'. omega arith, subst (λ (m : ℕ). GoesInOrder m bs (rest_flags cs)) (omega arith) h.1);
    }
goes-out-here last n b bs cs part [] true e on later is = absurd cc
goes-out-here last n b bs cs part [] false e on later is =
    let left = left-of n b.parts [] e in
    let g = later is in
    record {
      more = g.more;
      next = past-drop b.parts (wire bs) n (omega arith) ∙ g.next;
      order = λ h. (λ on'. absurd cc, subst (λ (m : ℕ). GoesInOrder m bs (rest_flags cs)) (omega arith) (g.order h.1));
    }

pub goes-out : (last : Out) → ((p : List ℕ) → last ≡ out.Part p → ⊥) → (n : ℕ) (bs : List Booking) (cs : List Bool) (part : List ℕ) → next_part last n bs cs ≡ out.Part part → GoesOut n bs cs part
goes-out last none n [] cs part is = absurd (none part is)
goes-out last none n (b ∷ bs) cs part is = goes-out-here last n b bs cs part (drop n b.parts) (first_flag cs) refl refl (goes-out last none (n - length b.parts) bs (rest_flags cs) part) is
