-- A book that grows by requests and by parts of copies.
use Rattle.std.proofs.Common.{◌≡◌, ◌≢◌, ◌<◌, ◌≤◌, ◌==◌, ℕ, zero, suc, ◌+◌, List, [], ◌∷◌, ◌++◌, length, map, filter, take, drop, Bool, true, false, if◌then◌else◌, Option, Some, None, Result, Ok, Err, refl, sym, ap, subst, ◌∙◌, arith, append_assoc}
use Rattle.std.proofs.lemmas.Bool.Decides.{nat_tests}
use Rattle.std.proofs.lemmas.List.{append-nil, length-append}
use Rattle.pg_spec.specs.Book.{Booking, is_of}
use Rattle.pg_spec.specs.RawMessages.{RawMessage}
use Rattle.pg_types.specs.declared.error.Error.{Error}
use Rattle.pg_types.specs.declared.error.Error.TheVariants.{Closed}
use Rattle.pg_query.specs.Dialogue.{Dialogue, Answer, Ask, Send, Leave, Read, Put, Finish, Close, HangUp, Call, Hear}
use Rattle.pg_query.specs.declared.desk_call.DeskCall.{DeskCall}
use Rattle.pg_query.specs.declared.desk_call.Reply.{Reply}
use Rattle.pg_spec.specs.Courses.{Asked, Request, Who, numbered, requests_of}
use Rattle.pg_spec.specs.Dialogues.{decided_after}
use Rattle.pg_core.specs.Deeds.{Addition}
use Rattle.pg_core.specs.Runs.{Ran, of_request, stays, if_gone, add_first, with_more, run}
use Rattle.pg_core.specs.Trails.{AreNumbered, HasNone, HasNoneOf, HoldsRequests, IsBookedAt, Moment, goes_on, ran_by, to_request, with_all, with_part}
use Rattle.pg_core.proofs.Owned.{own-requests}

-- ---- parts in a book

pub part-length : (k : ℕ) (part : List ℕ) (bs : List Booking) → length (with_part k part bs) ≡ length bs
part-length k part [] = refl
part-length zero part (b ∷ bs) = refl
part-length (suc k) part (b ∷ bs) = ap suc (part-length k part bs)

pub all-length : (xs : List Addition) (bs : List Booking) → length (with_all xs bs) ≡ length bs
all-length [] bs = refl
all-length (a ∷ xs) bs = all-length xs (with_part a.request a.part bs) ∙ part-length a.request a.part bs

pub all-joined : (xs ys : List Addition) (bs : List Booking) → with_all (xs ++ ys) bs ≡ with_all ys (with_all xs bs)
all-joined [] ys bs = refl
all-joined (a ∷ xs) ys bs = all-joined xs ys (with_part a.request a.part bs)

pub part-append : (k : ℕ) (part : List ℕ) (bs cs : List Booking) → k < length bs → with_part k part (bs ++ cs) ≡ with_part k part bs ++ cs
part-append k part [] cs lt = absurd (omega (arith, lt))
part-append zero part (b ∷ bs) cs lt = refl
part-append (suc k) part (b ∷ bs) cs lt = ap (λ (l : List Booking). b ∷ l) (part-append k part bs cs (omega (arith, lt)))

to-none : (at : Option ℕ) → to_request at [] ≡ []
to-none None = refl
to-none (Some k) = refl

-- parts of a request of a book
to-front : (at : Option ℕ) (later : List (List ℕ)) (bs cs : List Booking) → IsBookedAt at bs → with_all (to_request at later) (bs ++ cs) ≡ with_all (to_request at later) bs ++ cs
to-front None later bs cs h = refl
to-front (Some k) [] bs cs h = refl
to-front (Some k) (part ∷ later) bs cs h =
    ap (with_all (to_request (Some k) later)) (part-append k part bs cs h)
    ∙ to-front (Some k) later (with_part k part bs) cs (let e = part-length k part bs in omega (arith, h, e))

part-last : (part : List ℕ) (bs : List Booking) (b : Booking) → with_part (length bs) part (bs ++ b ∷ []) ≡ bs ++ record { stamp = b.stamp; parts = b.parts ++ part ∷ [] } ∷ []
part-last part [] b = refl
part-last part (x ∷ bs) b = ap (λ (l : List Booking). x ∷ l) (part-last part bs b)

-- parts of the last
to-last : (k : ℕ) (later : List (List ℕ)) (bs : List Booking) (b : Booking) → k ≡ length bs → with_all (to_request (Some k) later) (bs ++ b ∷ []) ≡ bs ++ record { stamp = b.stamp; parts = b.parts ++ later } ∷ []
to-last k [] bs b is = ap (λ (l : List (List ℕ)). let x : Booking = record { stamp = b.stamp; parts = l } in bs ++ x ∷ []) (sym (append-nil b.parts))
to-last k (part ∷ later) bs b is =
    let c : Booking = record { stamp = b.stamp; parts = b.parts ++ part ∷ [] } in
    ap (λ (j : ℕ). with_all (to_request (Some k) later) (with_part j part (bs ++ b ∷ []))) is ∙ ap (with_all (to_request (Some k) later)) (part-last part bs b) ∙ to-last k later bs c is
    ∙ ap (λ (l : List (List ℕ)). let x : Booking = record { stamp = b.stamp; parts = l } in bs ++ x ∷ []) (append_assoc b.parts (part ∷ []) later)

-- ---- a stretch

-- A book that grew by what it booked and added holds its requests with all their parts, whatever parts come later.
record Extends {T : Type 0} (who : Who) (turn : ℕ) (at : Option ℕ) (book : List Booking) (later : List (List ℕ)) (s : Ran T) : Type 0 where
  within : IsBookedAt s.at (book ++ map (λ r. r.booking) s.requests)
  grown : with_all (s.added ++ to_request s.at later) (book ++ map (λ r. r.booking) s.requests) ≡ with_all (to_request at (s.parts later)) book ++ map (λ r. r.booking) (s.whole later)
  numbered : AreNumbered who turn (length book) (s.whole later)

booked-nil : (at : Option ℕ) (book : List Booking) → IsBookedAt at book → IsBookedAt at (book ++ [])
booked-nil at book h = subst (IsBookedAt at) (sym (append-nil book)) h

booked-more : (at : Option ℕ) (book : List Booking) (b : Booking) → IsBookedAt at book → IsBookedAt at (book ++ b ∷ [])
booked-more None book b h = tt
booked-more (Some k) book b h = let e = length-append book (b ∷ []) in omega (arith, h, e)

extends-stays : {T : Type 0} (who : Who) (turn : ℕ) (at : Option ℕ) (book : List Booking) (later : List (List ℕ)) (n : ℕ) (d : Dialogue T) → IsBookedAt at book → Extends who turn at book later (stays at n d)
extends-stays who turn at book later n d h = record {
  within = booked-nil at book h;
  grown = ap (with_all (to_request at later)) (append-nil book) ∙ sym (append-nil (with_all (to_request at later) book));
  numbered = tt;
}

-- a booking in front
shifted : (book rest : List Booking) (b : Booking) → (book ++ b ∷ []) ++ rest ≡ book ++ b ∷ rest
shifted book rest b = append_assoc book (b ∷ []) rest

longer : (who : Who) (turn : ℕ) (book : List Booking) (b : Booking) (rs : List Request) → AreNumbered who turn (length (book ++ b ∷ [])) rs → AreNumbered who turn (length book + 1) rs
longer who turn book b rs h = let size : length (book ++ b ∷ []) ≡ length book + 1 = length-append book (b ∷ []) in subst (λ (n : ℕ). AreNumbered who turn n rs) size h

shorter : (who : Who) (turn : ℕ) (book : List Booking) (b : Booking) (rs : List Request) → AreNumbered who turn (length book + 1) rs → AreNumbered who turn (length (book ++ b ∷ [])) rs
shorter who turn book b rs h = let size : length (book ++ b ∷ []) ≡ length book + 1 = length-append book (b ∷ []) in subst (λ (n : ℕ). AreNumbered who turn n rs) (sym size) h

extends-if : {T : Type 0} (who : Who) (turn : ℕ) (at : Option ℕ) (book : List Booking) (later : List (List ℕ)) (e : Error) (s t : Ran T) → (AreNumbered who turn (length book) s.requests → Extends who turn at book later s) → Extends who turn at book later t →
    AreNumbered who turn (length book) (if_gone e s t).requests → Extends who turn at book later (if_gone e s t)
extends-if who turn at book later Closed s t h g numbered = h numbered
extends-if who turn at book later e s t h g numbered = g

extends-part : {T : Type 0} (who : Who) (turn k : ℕ) (part : List ℕ) (book : List Booking) (later : List (List ℕ)) (s : Ran T) → k < length book → Extends who turn (Some k) (with_part k part book) later s → Extends who turn (Some k) book later (add_first k part s)
extends-part who turn k part book later s lt h = record {
  within = at-length s.at (with_part k part book) book (map (λ r. r.booking) s.requests) (part-length k part book) h.within;
  grown = ap (with_all (s.added ++ to_request s.at later)) (part-append k part book (map (λ r. r.booking) s.requests) lt) ∙ h.grown;
  numbered = subst (λ (n : ℕ). AreNumbered who turn n (s.whole later)) (part-length k part book) h.numbered;
}
  where
    at-length : (at : Option ℕ) (bs cs rs : List Booking) → length bs ≡ length cs → IsBookedAt at (bs ++ rs) → IsBookedAt at (cs ++ rs)
    at-length None bs cs rs e h = tt
    at-length (Some j) bs cs rs e h = let a = length-append bs rs in let b = length-append cs rs in omega (arith, e, a, b, h)

module _ {T : Type 0} (who : Who) (turn : ℕ) (came : ℕ → List RawMessage) (later : List (List ℕ)) where
  extends : (at : Option ℕ) (n : ℕ) (d : Dialogue T) (bs : List (Result Request Error)) (qs : List (Result (Asked DeskCall Reply) Error)) (ps : List (Result Addition Error)) (book : List Booking) → IsBookedAt at book →
      AreNumbered who turn (length book) (run came at n d bs qs ps).requests → Extends who turn at book later (run came at n d bs qs ps)
  extends at n (Answer r) bs qs ps book h numbered = extends-stays who turn at book later n (Answer r) h
  extends at n (Ask copying part d) [] qs ps book h numbered = extends-stays who turn at book later n (Ask copying part d) h
  extends at n (Ask copying part d) (Ok r ∷ bs) qs ps book h (is, stamp, numbered) =
      let s : Ran T = run came (Some r.number) 0 d bs qs ps in
      let b : Booking = record { stamp = r.booking.stamp; parts = part ∷ [] } in
      let here : r.number < length (book ++ b ∷ []) = (let e = length-append book (b ∷ []) in omega (arith, is, e)) in
      let t = extends (Some r.number) 0 d bs qs ps (book ++ b ∷ []) here (shorter who turn book b s.requests numbered) in
      let rest : List Booking = map (λ r. r.booking) s.requests in
      let whole : Booking = record { stamp = r.booking.stamp; parts = part ∷ s.parts later } in
      let more : List Booking = map (λ r. r.booking) (s.whole later) in
      record {
        within = subst (IsBookedAt s.at) (shifted book rest b) t.within;
        grown = ap (with_all (s.added ++ to_request s.at later)) (sym (shifted book rest b)) ∙ t.grown
            ∙ ap (λ (l : List Booking). l ++ more) (to-last r.number (s.parts later) book b is) ∙ append_assoc book (whole ∷ []) more
            ∙ ap (λ (l : List Addition). with_all l book ++ whole ∷ more) (sym (to-none at));
        numbered = (is, stamp, longer who turn book b (s.whole later) t.numbered);
      }
  extends at n (Ask copying part d) (Err e ∷ bs) qs ps book h numbered = extends-stays {T = T} who turn at book later n (Answer (Err e)) h
  extends at n (Send part refused d) [] qs ps book h numbered = extends-stays who turn at book later n (Send part refused d) h
  extends at n (Send part refused d) (Ok r ∷ bs) qs ps book h (is, stamp, numbered) =
      let s : Ran T = run came at n d bs qs ps in
      let b : Booking = record { stamp = r.booking.stamp; parts = part ∷ [] } in
      let t = extends at n d bs qs ps (book ++ b ∷ []) (booked-more at book b h) (shorter who turn book b s.requests numbered) in
      let rest : List Booking = map (λ r. r.booking) s.requests in
      let more : List Booking = map (λ r. r.booking) (s.whole later) in
      record {
        within = subst (IsBookedAt s.at) (shifted book rest b) t.within;
        grown = ap (with_all (s.added ++ to_request s.at later)) (sym (shifted book rest b)) ∙ t.grown
            ∙ ap (λ (l : List Booking). l ++ more) (to-front at (s.parts later) book (b ∷ []) h) ∙ append_assoc (with_all (to_request at (s.parts later)) book) (b ∷ []) more;
        numbered = (is, stamp, longer who turn book b (s.whole later) t.numbered);
      }
  extends at n (Send part refused d) (Err e ∷ bs) qs ps book h numbered = extends at n (refused e) bs qs ps book h numbered
  extends at n (Leave id d) bs qs ps book h numbered = extends at n d bs qs ps book h numbered
  extends at n (Read cleanup decides next) bs qs ps book h numbered =
      by (decided_after decides (drop n (of_request came at))) (λ k numbered. extends at (n + k) (next (take k (drop n (of_request came at)))) bs qs ps book h numbered) numbered
    where
      chosen : Option ℕ → Ran T
      chosen o = elim o [ None ↦ stays at n (Read cleanup decides next) | Some k ↦ run came at (n + k) (next (take k (drop n (of_request came at)))) bs qs ps ]

      by : (o : Option ℕ) → ((k : ℕ) → AreNumbered who turn (length book) (run came at (n + k) (next (take k (drop n (of_request came at)))) bs qs ps).requests → Extends who turn at book later (run came at (n + k) (next (take k (drop n (of_request came at)))) bs qs ps)) →
          AreNumbered who turn (length book) (chosen o).requests → Extends who turn at book later (chosen o)
      by None f numbered = extends-stays who turn at book later n (Read cleanup decides next) h
      by (Some k) f numbered = f k numbered
  extends None n (Put cleanup part d) bs qs ps book h numbered = extends-stays who turn None book later n (Put cleanup part d) h
  extends (Some k) n (Put cleanup part d) bs qs [] book h numbered = extends-stays who turn (Some k) book later n (Put cleanup part d) h
  extends (Some k) n (Put cleanup part d) bs qs (Ok a ∷ ps) book h numbered =
      let s : Ran T = run came (Some k) n d bs qs ps in
      let size : length (with_part k part book) ≡ length book = part-length k part book in
      extends-part who turn k part book later s h (extends (Some k) n d bs qs ps (with_part k part book) (omega (arith, h, size)) (subst (λ (m : ℕ). AreNumbered who turn m s.requests) (sym size) numbered))
  extends (Some k) n (Put cleanup part d) bs qs (Err e ∷ ps) book h numbered = extends-stays {T = T} who turn (Some k) book later n (Answer (Err e)) h
  extends None n (Finish part d) bs qs ps book h numbered = extends-stays who turn None book later n (Finish part d) h
  extends (Some k) n (Finish part d) bs qs [] book h numbered = extends-stays who turn (Some k) book later n (Finish part d) h
  extends (Some k) n (Finish part d) bs qs (Ok a ∷ ps) book h numbered =
      let s : Ran T = run came (Some k) n d bs qs ps in
      let size : length (with_part k part book) ≡ length book = part-length k part book in
      extends-part who turn k part book later s h (extends (Some k) n d bs qs ps (with_part k part book) (omega (arith, h, size)) (subst (λ (m : ℕ). AreNumbered who turn m s.requests) (sym size) numbered))
  extends (Some k) n (Finish part d) bs qs (Err e ∷ ps) book h numbered = extends-stays {T = T} who turn (Some k) book later n (Answer (Err e)) h
  extends None n (Close part d) bs qs ps book h numbered = extends-stays who turn None book later n (Close part d) h
  extends (Some k) n (Close part d) bs qs [] book h numbered = extends-stays who turn (Some k) book later n (Close part d) h
  extends (Some k) n (Close part d) bs qs (Ok a ∷ ps) book h numbered =
      let s : Ran T = run came (Some k) n d bs qs ps in
      let size : length (with_part k part book) ≡ length book = part-length k part book in
      extends-part who turn k part book later s h (extends (Some k) n d bs qs ps (with_part k part book) (omega (arith, h, size)) (subst (λ (m : ℕ). AreNumbered who turn m s.requests) (sym size) numbered))
  extends (Some k) n (Close part d) bs qs (Err e ∷ ps) book h numbered =
      extends-if who turn (Some k) book later e (run came (Some k) n d bs qs ps) (stays (Some k) n (Answer (Err e))) (λ numbered. extends (Some k) n d bs qs ps book h numbered) (extends-stays {T = T} who turn (Some k) book later n (Answer (Err e)) h) numbered
  extends at n (HangUp d) bs qs ps book h numbered = extends at n d bs qs ps book h numbered
  extends at n (Call q refused next) bs [] ps book h numbered = extends-stays who turn at book later n (Call q refused next) h
  extends at n (Call q refused next) bs (Ok a ∷ qs) ps book h numbered =
      let t = extends at n (next a.reply) bs qs ps book h numbered in record { within = t.within; grown = t.grown; numbered = t.numbered }
  extends at n (Call q refused next) bs (Err e ∷ qs) ps book h numbered = extends at n (refused e) bs qs ps book h numbered
  extends at n (Hear next) bs qs ps book h numbered = extends-stays who turn at book later n (Hear next) h

-- ---- a command's requests

at-same : (at : Option ℕ) (bs cs : List Booking) → length cs ≡ length bs → IsBookedAt at bs → IsBookedAt at cs
at-same None bs cs e h = tt
at-same (Some k) bs cs e h = omega (arith, e, h)

-- a turn of its own
pub holds-on : {T : Type 0} (who : Who) (d : Dialogue T) (m : Moment) (before : List Moment) (book : List Booking) → AreNumbered who m.place (length book) (goes_on (ran_by d before) m).requests → HoldsRequests who book (ran_by d before) →
    HoldsRequests who (with_all (goes_on (ran_by d before) m).added (book ++ map (λ r. r.booking) (goes_on (ran_by d before) m).requests)) (ran_by d (m ∷ before))
holds-on {T} who d m before book numbered h = record { within = at-same r.at grown (with_all r.added grown) (all-length r.added grown) (extended []).within; requests = all }
  where
    s : Ran T
    s = ran_by d before

    r : Ran T
    r = goes_on s m

    grown : List Booking
    grown = book ++ map (λ r. r.booking) r.requests

    extended : (later : List (List ℕ)) → Extends who m.place s.at book later r
    extended later = extends who m.place m.came later s.at s.read s.left m.bookings m.answers m.additions book h.within numbered

    all : (later : List (List ℕ)) → requests_of (with_all (to_request r.at later) (with_all r.added grown)) who.handle who.command ≡ s.whole (r.parts later) ++ r.whole later
    all later =
        let x = extended later in
        let kept : List Booking = with_all (to_request s.at (r.parts later)) book in
        let size : length kept ≡ length book = all-length (to_request s.at (r.parts later)) book in
        ap (λ (bs : List Booking). requests_of bs who.handle who.command) (sym (all-joined r.added (to_request r.at later) grown) ∙ x.grown)
        ∙ own-requests who m.place kept (r.whole later) (subst (λ (n : ℕ). AreNumbered who m.place n (r.whole later)) (sym size) x.numbered)
        ∙ ap (λ (rs : List Request). rs ++ r.whole later) (h.requests (r.parts later))

-- one of its requests, or of another's
abbrev pub more_of : Addition → Request → Request
more_of a r = if r.number == a.request then with_more r (a.part ∷ []) else r

numbered-other : (a : Addition) (n : ℕ) (bs : List Booking) → a.request < n → map (more_of a) (numbered n bs) ≡ numbered n bs
numbered-other a n [] lt = refl
numbered-other a n (b ∷ bs) lt =
    let r : Request = record { number = n; booking = b } in
    let apart : (n == a.request) ≡ false = grind (arith, nat_tests, lt) in
    ap (λ (c : Bool). (if c then with_more r (a.part ∷ []) else r) ∷ map (more_of a) (numbered (n + 1) bs)) apart ∙ ap (λ (l : List Request). r ∷ l) (numbered-other a (n + 1) bs (omega (arith, lt)))

numbered-part : (k n : ℕ) (part : List ℕ) (bs : List Booking) → numbered n (with_part k part bs) ≡ map (more_of (record { request = n + k; part = part })) (numbered n bs)
numbered-part k n part [] = refl
numbered-part zero n part (b ∷ bs) =
    let a : Addition = record { request = n + zero; part = part } in
    let r : Request = record { number = n; booking = b } in
    let same : (n == n + zero) ≡ true = grind (arith, nat_tests) in
    let lt : n + zero < n + 1 = omega arith in
    ap (λ (l : List Request). with_more r (part ∷ []) ∷ l) (sym (numbered-other a (n + 1) bs lt))
    ∙ ap (λ (c : Bool). (if c then with_more r (part ∷ []) else r) ∷ map (more_of a) (numbered (n + 1) bs)) (sym same)
numbered-part (suc k) n part (b ∷ bs) =
    let a : Addition = record { request = n + suc k; part = part } in
    let r : Request = record { number = n; booking = b } in
    let apart : (n == n + suc k) ≡ false = grind (arith, nat_tests) in
    let e : n + 1 + k ≡ n + suc k = omega arith in
    ap (λ (l : List Request). r ∷ l) (numbered-part k (n + 1) part bs ∙ ap (λ (j : ℕ). map (more_of (record { request = j; part = part })) (numbered (n + 1) bs)) e)
    ∙ ap (λ (c : Bool). (if c then with_more r (part ∷ []) else r) ∷ map (more_of a) (numbered (n + 1) bs)) (sym apart)

-- a part more leaves each request whose it is
same-owner : (a : Addition) (owner command : ℕ) (r : Request) → is_of owner command (more_of a r).booking ≡ is_of owner command r.booking
same-owner a owner command r = by (r.number == a.request)
  where
    by : (c : Bool) → is_of owner command (if c then with_more r (a.part ∷ []) else r).booking ≡ is_of owner command r.booking
    by true = refl
    by false = refl

filter-more : (a : Addition) (owner command : ℕ) (rs : List Request) → filter (λ r. is_of owner command r.booking) (map (more_of a) rs) ≡ map (more_of a) (filter (λ r. is_of owner command r.booking) rs)
filter-more a owner command [] = refl
filter-more a owner command (r ∷ rs) =
    let later : List Request = filter (λ r. is_of owner command r.booking) rs in
    ap (λ (c : Bool). if c then more_of a r ∷ filter (λ r. is_of owner command r.booking) (map (more_of a) rs) else filter (λ r. is_of owner command r.booking) (map (more_of a) rs)) (same-owner a owner command r)
    ∙ ap (λ (l : List Request). if is_of owner command r.booking then more_of a r ∷ l else l) (filter-more a owner command rs) ∙ by (is_of owner command r.booking)
  where
    by : (c : Bool) → (if c then more_of a r ∷ map (more_of a) (filter (λ r. is_of owner command r.booking) rs) else map (more_of a) (filter (λ r. is_of owner command r.booking) rs))
        ≡ map (more_of a) (if c then r ∷ filter (λ r. is_of owner command r.booking) rs else filter (λ r. is_of owner command r.booking) rs)
    by true = refl
    by false = refl

pub requests-part : (k : ℕ) (part : List ℕ) (book : List Booking) (owner command : ℕ) → requests_of (with_part k part book) owner command ≡ map (more_of (record { request = k; part = part })) (requests_of book owner command)
requests-part k part book owner command =
    let e : 0 + k ≡ k = omega arith in
    ap (filter (λ r. is_of owner command r.booking)) (numbered-part k 0 part book ∙ ap (λ (j : ℕ). map (more_of (record { request = j; part = part })) (numbered 0 book)) e)
    ∙ filter-more (record { request = k; part = part }) owner command (numbered 0 book)

none-more : (a : Addition) (rs : List Request) → HasNone a.request rs → map (more_of a) rs ≡ rs
none-more a [] h = refl
none-more a (r ∷ rs) h =
    let apart : r.number ≢ a.request = h.0 in
    let e : (r.number == a.request) ≡ false = grind (arith, nat_tests, apart) in
    ap (λ (c : Bool). (if c then with_more r (a.part ∷ []) else r) ∷ map (more_of a) rs) e ∙ ap (λ (l : List Request). r ∷ l) (none-more a rs h.1)

-- parts of requests of others
pub others-parts : (xs : List Addition) (book : List Booking) (owner command : ℕ) → HasNoneOf xs (requests_of book owner command) → requests_of (with_all xs book) owner command ≡ requests_of book owner command
others-parts [] book owner command h = refl
others-parts (a ∷ xs) book owner command h =
    let same : requests_of (with_part a.request a.part book) owner command ≡ requests_of book owner command = requests-part a.request a.part book owner command ∙ none-more a (requests_of book owner command) h.0 in
    others-parts xs (with_part a.request a.part book) owner command (subst (HasNoneOf xs) (sym same) h.1) ∙ same

-- its requests as they are now
pub holds-now : {T : Type 0} (who : Who) (book : List Booking) (s : Ran T) → HoldsRequests who book s → requests_of book who.handle who.command ≡ s.whole []
holds-now who book s h = ap (λ (xs : List Addition). requests_of (with_all xs book) who.handle who.command) (sym (to-none s.at)) ∙ h.requests []

-- none has been booked yet
pub holds-none : {T : Type 0} (who : Who) (book : List Booking) (d : Dialogue T) → requests_of book who.handle who.command ≡ [] → HoldsRequests who book (ran_by d [])
holds-none who book d none = record { within = tt; requests = λ later. none }

-- what a command's requests are is what those with parts that come are
pub holds-as : {T : Type 0} (who : Who) (book grown : List Booking) (s : Ran T) → length book ≤ length grown → requests_of grown who.handle who.command ≡ requests_of book who.handle who.command → HoldsRequests who book s → HoldsRequests who grown s
holds-as {T} who book grown s le same h = record { within = at-more s.at h.within; requests = λ later. like (to_request s.at later) book grown same ∙ h.requests later }
  where
    at-more : (at : Option ℕ) → IsBookedAt at book → IsBookedAt at grown
    at-more None h = tt
    at-more (Some k) h = omega (arith, le, h)

    like : (xs : List Addition) (bs cs : List Booking) → requests_of cs who.handle who.command ≡ requests_of bs who.handle who.command → requests_of (with_all xs cs) who.handle who.command ≡ requests_of (with_all xs bs) who.handle who.command
    like [] bs cs e = e
    like (a ∷ xs) bs cs e =
        like xs (with_part a.request a.part bs) (with_part a.request a.part cs)
        (requests-part a.request a.part cs who.handle who.command ∙ ap (map (more_of a)) e ∙ sym (requests-part a.request a.part bs who.handle who.command))
