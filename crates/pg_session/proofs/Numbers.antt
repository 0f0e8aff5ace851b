-- The request that a command reads is one of its own, so no two commands read the same.
use Rattle.std.proofs.Common.{◌≡◌, ◌⊎◌, inl, inr, ℕ, zero, suc, ◌+◌, ◌==◌, ◌&&◌, List, [], ◌∷◌, ◌++◌, length, map, take, drop, filter, Bool, true, false, if◌then◌else◌, Option, Some, None, Result, Ok, Err, refl, sym, ap, subst, ◌∙◌, arith, slice_get}
use Rattle.std.proofs.lemmas.Bool.{eqb-true}
use Rattle.std.proofs.lemmas.Option.{same_Some}
use Rattle.pg_spec.specs.Book.{Booking, is_of}
use Rattle.pg_spec.specs.RawMessages.{RawMessage}
use Rattle.pg_types.specs.declared.error.Error.{Error}
use Rattle.pg_types.specs.declared.error.Error.TheVariants.{Closed}
use Rattle.pg_query.specs.Dialogue.{Dialogue, Answer, Ask, Send, Leave, Read, Put, Finish, Close, HangUp, Call, Hear}
use Rattle.pg_query.specs.Meaning.{Place}
use Rattle.pg_query.specs.declared.desk_call.DeskCall.{DeskCall}
use Rattle.pg_query.specs.declared.desk_call.Reply.{Reply}
use Rattle.pg_spec.specs.Courses.{Asked, Course, Request, Who, numbered, requests_of}
use Rattle.pg_spec.specs.Dialogues.{decided_after}
use Rattle.pg_core.specs.Deeds.{Addition}
use Rattle.pg_core.specs.Runs.{At, MayWait, Ran, ReadsNothing, add_first, if_gone, of_request, run, stays}
use Rattle.pg_core.specs.Trails.{AreNumbered, HasNone, HasNoneOf, HoldsRequests, Moment, goes_on, ran_by, with_all, with_part}
use Rattle.pg_core.proofs.Extended.{holds-now, others-parts}
use Rattle.pg_core.proofs.Owned.{others-requests-apart}
use Rattle.pg_session.specs.Kept.{IsReady, Now, book_of}

-- one of these requests has this number
abbrev pub HasNumber : ℕ → List Request → Type 0
HasNumber k [] = ⊥
HasNumber k (r ∷ rs) = (r.number ≡ k) ⊎ HasNumber k rs

number-first : (k : ℕ) (rs qs : List Request) → HasNumber k rs → HasNumber k (rs ++ qs)
number-first k [] qs h = absurd h
number-first k (r ∷ rs) qs (inl e) = inl e
number-first k (r ∷ rs) qs (inr h) = inr (number-first k rs qs h)

number-last : (k : ℕ) (rs qs : List Request) → HasNumber k qs → HasNumber k (rs ++ qs)
number-last k [] qs h = h
number-last k (r ∷ rs) qs h = inr (number-last k rs qs h)

-- behind a booking
behind-one : (at : Option ℕ) (k n : ℕ) (rs : List Request) → (Some n ≡ Some k) ⊎ HasNumber k rs → (at ≡ Some k) ⊎ ((n ≡ k) ⊎ HasNumber k rs)
behind-one at k n rs (inl e) = inr (inl (same_Some n k e))
behind-one at k n rs (inr h) = inr (inr h)

behind-sent : (at : Option ℕ) (k n : ℕ) (rs : List Request) → (at ≡ Some k) ⊎ HasNumber k rs → (at ≡ Some k) ⊎ ((n ≡ k) ⊎ HasNumber k rs)
behind-sent at k n rs (inl e) = inl e
behind-sent at k n rs (inr h) = inr (inr h)

-- one of these parts was added to this request
abbrev pub HasAddition : ℕ → List Addition → Type 0
HasAddition k [] = ⊥
HasAddition k (a ∷ xs) = (a.request ≡ k) ⊎ HasAddition k xs

-- it reads this request, or added to it
abbrev IsTouched : {T : Type 0} → ℕ → Ran T → Type 0
IsTouched k s = (s.at ≡ Some k) ⊎ HasAddition k s.added

touched-stays : {T : Type 0} (at : Option ℕ) (n : ℕ) (d : Dialogue T) (k : ℕ) → IsTouched k (stays at n d) → (at ≡ Some k) ⊎ ⊥
touched-stays at n d k (inl e) = inl e
touched-stays at n d k (inr h) = absurd h

touched-part : {T : Type 0} (j : ℕ) (part : List ℕ) (s : Ran T) (k : ℕ) (rs : List Request) → (IsTouched k s → (Some j ≡ Some k) ⊎ HasNumber k rs) → IsTouched k (add_first j part s) → (Some j ≡ Some k) ⊎ HasNumber k rs
touched-part j part s k rs f (inl e) = f (inl e)
touched-part j part s k rs f (inr (inl same)) = inl (ap (λ (x : ℕ). Some x) same)
touched-part j part s k rs f (inr (inr h)) = f (inr h)

touched-if : {T : Type 0} (later : List (List ℕ)) (at : Option ℕ) (e : Error) (s t : Ran T) (k : ℕ) → (IsTouched k s → (at ≡ Some k) ⊎ HasNumber k (s.whole later)) → (IsTouched k t → (at ≡ Some k) ⊎ HasNumber k (t.whole later)) →
    IsTouched k (if_gone e s t) → (at ≡ Some k) ⊎ HasNumber k ((if_gone e s t).whole later)
touched-if later at Closed s t k f g h = f h
touched-if later at e s t k f g h = g h

-- it reads and adds to what it read before, or what it booked
touched-own : {T : Type 0} (later : List (List ℕ)) (came : ℕ → List RawMessage) (at : Option ℕ) (n : ℕ) (d : Dialogue T) (bs : List (Result Request Error)) (qs : List (Result (Asked DeskCall Reply) Error)) (ps : List (Result Addition Error)) (k : ℕ) →
    IsTouched k (run came at n d bs qs ps) → (at ≡ Some k) ⊎ HasNumber k ((run came at n d bs qs ps).whole later)
touched-own later came at n (Answer r) bs qs ps k h = touched-stays at n (Answer r) k h
touched-own later came at n (Ask copying part d) [] qs ps k h = touched-stays at n (Ask copying part d) k h
touched-own later came at n (Ask copying part d) (Ok r ∷ bs) qs ps k h = behind-one at k r.number ((run came (Some r.number) 0 d bs qs ps).whole later) (touched-own later came (Some r.number) 0 d bs qs ps k h)
touched-own {T} later came at n (Ask copying part d) (Err f ∷ bs) qs ps k h = touched-stays {T = T} at n (Answer (Err f)) k h
touched-own later came at n (Send part refused d) [] qs ps k h = touched-stays at n (Send part refused d) k h
touched-own later came at n (Send part refused d) (Ok r ∷ bs) qs ps k h = behind-sent at k r.number ((run came at n d bs qs ps).whole later) (touched-own later came at n d bs qs ps k h)
touched-own later came at n (Send part refused d) (Err f ∷ bs) qs ps k h = touched-own later came at n (refused f) bs qs ps k h
touched-own later came at n (Leave id d) bs qs ps k h = touched-own later came at n d bs qs ps k h
touched-own {T} later came at n (Read cleanup decides next) bs qs ps k h =
    by (decided_after decides (drop n (of_request came at))) (λ j. touched-own later came at (n + j) (next (take j (drop n (of_request came at)))) bs qs ps k) h
  where
    chosen : Option ℕ → Ran T
    chosen o = elim o [ None ↦ stays at n (Read cleanup decides next) | Some j ↦ run came at (n + j) (next (take j (drop n (of_request came at)))) bs qs ps ]

    by : (o : Option ℕ) → ((j : ℕ) → IsTouched k (run came at (n + j) (next (take j (drop n (of_request came at)))) bs qs ps) →
        (at ≡ Some k) ⊎ HasNumber k ((run came at (n + j) (next (take j (drop n (of_request came at)))) bs qs ps).whole later)) →
        IsTouched k (chosen o) → (at ≡ Some k) ⊎ HasNumber k ((chosen o).whole later)
    by None f h = touched-stays at n (Read cleanup decides next) k h
    by (Some j) f h = f j h
touched-own later came None n (Put cleanup part d) bs qs ps k h = touched-stays None n (Put cleanup part d) k h
touched-own later came (Some j) n (Put cleanup part d) bs qs [] k h = touched-stays (Some j) n (Put cleanup part d) k h
touched-own later came (Some j) n (Put cleanup part d) bs qs (Ok a ∷ ps) k h =
    touched-part j part (run came (Some j) n d bs qs ps) k ((run came (Some j) n d bs qs ps).whole later) (touched-own later came (Some j) n d bs qs ps k) h
touched-own {T} later came (Some j) n (Put cleanup part d) bs qs (Err f ∷ ps) k h = touched-stays {T = T} (Some j) n (Answer (Err f)) k h
touched-own later came None n (Finish part d) bs qs ps k h = touched-stays None n (Finish part d) k h
touched-own later came (Some j) n (Finish part d) bs qs [] k h = touched-stays (Some j) n (Finish part d) k h
touched-own later came (Some j) n (Finish part d) bs qs (Ok a ∷ ps) k h =
    touched-part j part (run came (Some j) n d bs qs ps) k ((run came (Some j) n d bs qs ps).whole later) (touched-own later came (Some j) n d bs qs ps k) h
touched-own {T} later came (Some j) n (Finish part d) bs qs (Err f ∷ ps) k h = touched-stays {T = T} (Some j) n (Answer (Err f)) k h
touched-own later came None n (Close part d) bs qs ps k h = touched-stays None n (Close part d) k h
touched-own later came (Some j) n (Close part d) bs qs [] k h = touched-stays (Some j) n (Close part d) k h
touched-own later came (Some j) n (Close part d) bs qs (Ok a ∷ ps) k h =
    touched-part j part (run came (Some j) n d bs qs ps) k ((run came (Some j) n d bs qs ps).whole later) (touched-own later came (Some j) n d bs qs ps k) h
touched-own {T} later came (Some j) n (Close part d) bs qs (Err f ∷ ps) k h =
    touched-if later (Some j) f (run came (Some j) n d bs qs ps) (stays (Some j) n (Answer (Err f))) k (touched-own later came (Some j) n d bs qs ps k) (touched-stays {T = T} (Some j) n (Answer (Err f)) k) h
touched-own later came at n (HangUp d) bs qs ps k h = touched-own later came at n d bs qs ps k h
touched-own later came at n (Call q refused next) bs [] ps k h = touched-stays at n (Call q refused next) k h
touched-own later came at n (Call q refused next) bs (Ok a ∷ qs) ps k h = touched-own later came at n (next a.reply) bs qs ps k h
touched-own later came at n (Call q refused next) bs (Err f ∷ qs) ps k h = touched-own later came at n (refused f) bs qs ps k h
touched-own later came at n (Hear next) bs qs ps k h = touched-stays at n (Hear next) k h

read-among : (at : Option ℕ) (k : ℕ) (rs qs : List Request) → (at ≡ Some k → HasNumber k rs) → (at ≡ Some k) ⊎ HasNumber k qs → HasNumber k (rs ++ qs)
read-among at k rs qs f (inl e) = number-first k rs qs (f e)
read-among at k rs qs f (inr h) = number-last k rs qs h

-- it is one that its turns booked
trail-own : {T : Type 0} (later : List (List ℕ)) (d : Dialogue T) (trail : List Moment) (k : ℕ) → (ran_by d trail).at ≡ Some k → HasNumber k ((ran_by d trail).whole later)
trail-own later d [] k e = absurd cc
trail-own later d (m ∷ before) k e =
    let s = ran_by d before in
    let r = goes_on s m in
    read-among s.at k (s.whole (r.parts later)) (r.whole later) (trail-own (r.parts later) d before k) (touched-own later m.came s.at s.read s.left m.bookings m.answers m.additions k (inl e))

-- so is each to which a turn added
turn-own : {T : Type 0} (later : List (List ℕ)) (d : Dialogue T) (m : Moment) (before : List Moment) (k : ℕ) → HasAddition k (goes_on (ran_by d before) m).added → HasNumber k ((ran_by d (m ∷ before)).whole later)
turn-own later d m before k h =
    let s = ran_by d before in
    let r = goes_on s m in
    read-among s.at k (s.whole (r.parts later)) (r.whole later) (trail-own (r.parts later) d before k) (touched-own later m.came s.at s.read s.left m.bookings m.answers m.additions k (inr h))

-- what stands in a book under this number is of this command
pub record IsBookedBy (owner command n : ℕ) (book : List Booking) (k : ℕ) : Type 0 where
  pub place : ℕ
  pub is : n + place ≡ k
  pub booking : Booking
  pub stands : slice_get book place ≡ Some booking
  pub own : is_of owner command booking ≡ true

number-booked : (owner command n : ℕ) (book : List Booking) (k : ℕ) → HasNumber k (filter (λ r. is_of owner command r.booking) (numbered n book)) → IsBookedBy owner command n book k
number-booked owner command n [] k h = absurd h
number-booked owner command n (b ∷ book) k h = by (is_of owner command b) refl h (number-booked owner command (n + 1) book k)
  where
    rest : List Request
    rest = filter (λ (r : Request). is_of owner command r.booking) (numbered (n + 1) book)

    later : IsBookedBy owner command (n + 1) book k → IsBookedBy owner command n (b ∷ book) k
    later f = record { place = suc f.place; is = (let e = f.is in omega (arith, e)); booking = f.booking; stands = f.stands; own = f.own }

    by : (t : Bool) → is_of owner command b ≡ t → HasNumber k (if t then record { number = n; booking = b } ∷ rest else rest) → (HasNumber k rest → IsBookedBy owner command (n + 1) book k) → IsBookedBy owner command n (b ∷ book) k
    by true is (inl e) f = record { place = 0; is = omega (arith, e); booking = b; stands = refl; own = is }
    by true is (inr h) f = later (f h)
    by false is h f = later (f h)

waits-for-something : {T : Type 0} (d : Dialogue T) → MayWait d → ReadsNothing d → ⊥
waits-for-something (Read cleanup decides next) waits none = none
waits-for-something (Put cleanup part d) waits none = none
waits-for-something (Answer r) (inl h) none = h
waits-for-something (Answer r) (inr h) none = h
waits-for-something (Ask copying part d) (inl h) none = h
waits-for-something (Ask copying part d) (inr h) none = h
waits-for-something (Send part refused d) (inl h) none = h
waits-for-something (Send part refused d) (inr h) none = h
waits-for-something (Leave id d) (inl h) none = h
waits-for-something (Leave id d) (inr h) none = h
waits-for-something (Finish part d) (inl h) none = h
waits-for-something (Finish part d) (inr h) none = h
waits-for-something (Close part d) (inl h) none = h
waits-for-something (Close part d) (inr h) none = h
waits-for-something (HangUp d) (inl h) none = h
waits-for-something (HangUp d) (inr h) none = h
waits-for-something (Call q refused next) (inl h) none = h
waits-for-something (Call q refused next) (inr h) none = h
waits-for-something (Hear next) (inl h) none = h
waits-for-something (Hear next) (inr h) none = h

-- a command that waits reads a request of its own
pub reads-booked : {T : Type 0} (course : Course DeskCall Reply) (who : Who) (d : Dialogue T) (trail : List Moment) (now : Now) (p : Place T) → IsReady course who d trail now p → MayWait (ran_by d trail).left →
    IsBookedBy who.handle who.command 0 (book_of now) p.reads
reads-booked course who d trail now p ready waits = by (ran_by d trail).at refl ready.upright.runs.at
  where
    by : (at : Option ℕ) → (ran_by d trail).at ≡ at → At at p.reads (ran_by d trail).left → IsBookedBy who.handle who.command 0 (book_of now) p.reads
    by None is nothing = absurd (waits-for-something (ran_by d trail).left waits nothing)
    by (Some k) is same =
        subst (λ (j : ℕ). IsBookedBy who.handle who.command 0 (book_of now) j) same
        (number-booked who.handle who.command 0 (book_of now) k (subst (λ (rs : List Request). HasNumber k rs) (sym (holds-now who (book_of now) (ran_by d trail) ready.requests)) (trail-own [] d trail k is)))

-- a request to which a turn added is its command's
pub added-booked : {T : Type 0} (who : Who) (d : Dialogue T) (m : Moment) (before : List Moment) (book : List Booking) (k : ℕ) → HoldsRequests who book (ran_by d (m ∷ before)) → HasAddition k (goes_on (ran_by d before) m).added →
    IsBookedBy who.handle who.command 0 book k
added-booked who d m before book k h added =
    number-booked who.handle who.command 0 book k (subst (λ (rs : List Request). HasNumber k rs) (sym (holds-now who book (ran_by d (m ∷ before)) h)) (turn-own [] d m before k added))

and-first : (a b : Bool) → (a && b) ≡ true → a ≡ true
and-first true b e = refl
and-first false b e = e

and-second : (a b : Bool) → (a && b) ≡ true → b ≡ true
and-second true b e = e
and-second false b e = absurd cc

owner-is : (owner command : ℕ) (b : Booking) → is_of owner command b ≡ true → b.stamp.owner ≡ owner
owner-is owner command b e = eqb-true b.stamp.owner owner (and-first (b.stamp.owner == owner) (b.stamp.command == command) e)

-- one number is of one handle
pub one-owner : (i p j q k : ℕ) (book : List Booking) → IsBookedBy i p 0 book k → IsBookedBy j q 0 book k → i ≡ j
one-owner i p j q k book x y =
    let e = x.is in
    let f = y.is in
    let same : x.place ≡ y.place = omega (arith, e, f) in
    let b : x.booking ≡ y.booking = same_Some x.booking y.booking (sym x.stands ∙ ap (slice_get book) same ∙ y.stands) in
    sym (owner-is i p x.booking x.own) ∙ ap (λ (b : Booking). b.stamp.owner) b ∙ owner-is j q y.booking y.own

-- one number is of one command
one-command : (i p j q k : ℕ) (book : List Booking) → ((i == j) && (p == q)) ≡ false → IsBookedBy i p 0 book k → IsBookedBy j q 0 book k → ⊥
one-command i p j q k book apart x y =
    let e = x.is in
    let f = y.is in
    let same : x.place ≡ y.place = omega (arith, e, f) in
    let b : x.booking ≡ y.booking = same_Some x.booking y.booking (sym x.stands ∙ ap (slice_get book) same ∙ y.stands) in
    let owner : x.booking.stamp.owner ≡ i = owner-is i p x.booking x.own in
    let command : x.booking.stamp.command ≡ p = eqb-true x.booking.stamp.command p (and-second (x.booking.stamp.owner == i) (x.booking.stamp.command == p) x.own) in
    let other : is_of j q x.booking ≡ true = ap (is_of j q) b ∙ y.own in
    let no_way : true ≡ false = sym other ∙ ap (λ (n : ℕ). (n == j) && (x.booking.stamp.command == q)) owner ∙ ap (λ (n : ℕ). (i == j) && (n == q)) command ∙ apart in
    absurd cc

-- a part more leaves it whose it is
record StandsStill (o c : ℕ) (book : List Booking) (place : ℕ) : Type 0 where
  booking : Booking
  stands : slice_get book place ≡ Some booking
  own : is_of o c booking ≡ true

part-stands : (o c j : ℕ) (part : List ℕ) (book : List Booking) (place : ℕ) → StandsStill o c book place → StandsStill o c (with_part j part book) place
part-stands o c j part [] place h = h
part-stands o c zero part (b ∷ book) zero h =
    let more : Booking = record { stamp = b.stamp; parts = b.parts ++ part ∷ [] } in
    record { booking = more; stands = refl; own = ap (is_of o c) (same_Some b h.booking h.stands) ∙ h.own }
part-stands o c zero part (b ∷ book) (suc place) h = record { booking = h.booking; stands = h.stands; own = h.own }
part-stands o c (suc j) part (b ∷ book) zero h = record { booking = h.booking; stands = h.stands; own = h.own }
part-stands o c (suc j) part (b ∷ book) (suc place) h =
    let s = part-stands o c j part book place (record { booking = h.booking; stands = h.stands; own = h.own }) in record { booking = s.booking; stands = s.stands; own = s.own }

all-stand : (o c : ℕ) (xs : List Addition) (book : List Booking) (place : ℕ) → StandsStill o c book place → StandsStill o c (with_all xs book) place
all-stand o c [] book place h = h
all-stand o c (a ∷ xs) book place h = all-stand o c xs (with_part a.request a.part book) place (part-stands o c a.request a.part book place h)

booked-all : (o c n : ℕ) (xs : List Addition) (book : List Booking) (k : ℕ) → IsBookedBy o c n book k → IsBookedBy o c n (with_all xs book) k
booked-all o c n xs book k h =
    let s = all-stand o c xs book h.place (record { booking = h.booking; stands = h.stands; own = h.own }) in
    record { place = h.place; is = h.is; booking = s.booking; stands = s.stands; own = s.own }

-- ---- what a turn adds leaves the requests of others alone

none-of : (k : ℕ) (rs : List Request) → (HasNumber k rs → ⊥) → HasNone k rs
none-of k [] f = tt
none-of k (r ∷ rs) f = (λ e. f (inl e), none-of k rs (λ h. f (inr h)))

pub none-added : (xs : List Addition) (who : Who) (o c : ℕ) (grown book : List Booking) → ((who.handle == o) && (who.command == c)) ≡ false → ((k : ℕ) → IsBookedBy o c 0 grown k → IsBookedBy o c 0 book k) →
    ((k : ℕ) → HasAddition k xs → IsBookedBy who.handle who.command 0 book k) → HasNoneOf xs (requests_of grown o c)
none-added [] who o c grown book apart still own = tt
none-added (a ∷ xs) who o c grown book apart still own = (
  none-of a.request (requests_of grown o c)
      (λ h. one-command who.handle who.command o c a.request book apart (own a.request (inl refl)) (still a.request (number-booked o c 0 grown a.request h))),
  none-added xs who o c grown book apart still (λ k h. own k (inr h)),
)

-- another's turn
pub others-stay : {T : Type 0} (who : Who) (o c turn : ℕ) (d : Dialogue T) (m : Moment) (before : List Moment) (book : List Booking) → ((who.handle == o) && (who.command == c)) ≡ false → AreNumbered who turn (length book) (goes_on (ran_by d before) m).requests →
    HoldsRequests who (with_all (goes_on (ran_by d before) m).added (book ++ map (λ r. r.booking) (goes_on (ran_by d before) m).requests)) (ran_by d (m ∷ before)) →
    requests_of (with_all (goes_on (ran_by d before) m).added (book ++ map (λ r. r.booking) (goes_on (ran_by d before) m).requests)) o c ≡ requests_of book o c
others-stay {T} who o c turn d m before book apart numbered h =
    let r : Ran T = goes_on (ran_by d before) m in
    let grown : List Booking = book ++ map (λ r. r.booking) r.requests in
    others-parts r.added grown o c
    (none-added r.added who o c grown (with_all r.added grown) apart (λ k x. booked-all o c 0 r.added grown k x) (λ k x. added-booked who d m before (with_all r.added grown) k h x))
    ∙ others-requests-apart (record { handle = o; command = c }) who turn book r.requests apart numbered
