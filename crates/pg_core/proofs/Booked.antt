-- The requests of a turn, by a legal list.
use Rattle.std.proofs.Common.{◌≡◌, ◌<◌, ℕ, zero, suc, ◌+◌, List, [], ◌∷◌, ◌++◌, length, map, Bool, true, false, if◌then◌else◌, Ok, Err, refl, sym, ap, subst, ◌∙◌, append_assoc, arith}
use Rattle.std.proofs.lemmas.List.{append-nil, length-append, length-map, map-append}
use Rattle.pg_spec.specs.Book as said
use Rattle.pg_spec.specs.declared.stamps.Stamp.{Stamp}
use Rattle.pg_desk.specs.declared.event.Booking.{Booking}
use Rattle.pg_desk.specs.declared.event.Put.TheVariants as putting
use Rattle.pg_desk.specs.declared.event.Take.TheVariants as taking
use Rattle.pg_desk.specs.declared.event.Out.TheVariants as out
use Rattle.pg_desk.specs.declared.event.Deliver.TheVariants as delivering
use Rattle.pg_desk.specs.declared.event.Event.{Event}
use Rattle.pg_desk.specs.declared.event.Event.TheVariants.{Book, Put as PutEvent, EndCopy, Take as TakeEvent, HangUp, NextStatement, NextPortal, Catalog as CatalogEvent, NextOut, Deliver as DeliverEvent, CloseRequests, Fail}
use Rattle.pg_desk.specs.History.{State, extended, is_running, after, after_all, Allows, IsLegal, leaves_event, kept}
use Rattle.pg_desk.proofs.Parts.{extended-length}
use Rattle.pg_desk.proofs.Soundness.{running-copies}
use Rattle.pg_query.specs.Dialogue.{Dialogue, Answer, Ask, Send, Leave, Read, Put, Finish, Close, HangUp as Hang, Call, Hear, Steps}
use Rattle.pg_query.specs.Lives.{Deed, Leads}
use Rattle.pg_query.proofs.Questions.{told-asks}
use Rattle.pg_spec.specs.Courses.{Request, Who, stamp_of}
use Rattle.pg_core.specs.Deeds.{Addition, booked_by, bookings_in, added_by, additions_in, added_in, granted, requests_in}
use Rattle.pg_core.proofs.Granted.{granted-append}
use Rattle.pg_core.specs.Lists.{events_of, state_behind, IsReached}
use Rattle.pg_core.proofs.Flags.{AreFlagged, copying-within, flagged, flagged-one}
use Rattle.pg_core.specs.Trails.{AreNumbered, AllUnder, said_booking, with_part, with_all, BooksSo}

-- a booking bears the stamp of its turn
own-stamp : {T : Type 0} (stamp : Stamp) (d : Dialogue T) (id : ℕ) (given : Stamp) (part : List ℕ) (copying : Bool) (new : ℕ) (mid : Dialogue T) (n : ℕ) → Steps stamp d id (Book given part copying (Ok new)) mid n → given ≡ stamp
own-stamp stamp (Answer r) id given part copying new mid n s = absurd s
own-stamp stamp (Ask c p d) id given part copying new mid n s = s.0
own-stamp stamp (Send p refused d) id given part copying new mid n s = s.0
own-stamp stamp (Leave k d) id given part copying new mid n s = absurd s
own-stamp stamp (Read cleanup decides next) id given part copying new mid n s = absurd s
own-stamp stamp (Put cleanup p d) id given part copying new mid n s = absurd s
own-stamp stamp (Finish p d) id given part copying new mid n s = absurd s
own-stamp stamp (Close p d) id given part copying new mid n s = absurd s
own-stamp stamp (Hang d) id given part copying new mid n s = absurd s
own-stamp stamp (Call q refused next) id given part copying new mid n s = absurd (told-asks q (Book given part copying (Ok new)) s.0 s.1)
own-stamp stamp (Hear next) id given part copying new mid n s = absurd s

-- what an event books: one request, the next of the book, or none; or it adds a part to a copy
data Booked (s : State) (e : Event) : Type 0 where
  One : (stamp : Stamp) (part : List ℕ) (copying : Bool) (new : ℕ) → e ≡ Book stamp part copying (Ok new) → Booked s e
  Part : (id : ℕ) (part : List ℕ) → granted (booked_by e) ≡ [] → granted (added_by e) ≡ record { request = id; part = part } ∷ [] → (after s e).book ≡ extended id part s.book → id < length s.book → Booked s e
  None : granted (booked_by e) ≡ [] → granted (added_by e) ≡ [] → (after s e).book ≡ s.book → Booked s e

within : (s : State) (id : ℕ) → AreFlagged s → is_running s id ≡ true → id < length s.book
within s id flags runs = let lt = copying-within id s.copying (running-copies s id runs) in omega (arith, lt, flags)

booked : (s : State) (e : Event) → AreFlagged s → Allows s e → Booked s e
booked s (Book stamp part copying (Ok id)) flags a = One stamp part copying id refl
booked s (PutEvent id part putting.Took) flags a = Part id part refl refl refl (within s id flags a.1)
booked s (EndCopy id part putting.Took) flags a = Part id part refl refl refl (within s id flags a.1)
booked s (TakeEvent id (Ok (taking.Batch ms))) flags a = None refl refl refl
booked s (HangUp id (Ok x)) flags a = None refl refl refl
booked s (NextStatement (Ok n)) flags a = None refl refl refl
booked s (NextPortal (Ok n)) flags a = None refl refl refl
booked s (CatalogEvent call) flags a = None refl refl refl
booked s (NextOut (Ok (out.Part part))) flags a = None refl refl refl
booked s (DeliverEvent batch complete delivering.Taken) flags a = None refl refl refl
booked s (CloseRequests (Ok x)) flags a = None refl refl refl
booked s (Fail (Ok x)) flags a = None refl refl refl
booked s e flags a = None refl refl refl

-- an event that a stored list leaves out books and adds nothing
left-out-books : (e : Event) → leaves_event e ≡ false → (granted (booked_by e) ≡ []) × (granted (added_by e) ≡ [])
left-out-books (Book stamp part copying (Ok id)) h = absurd cc
left-out-books (Book stamp part copying (Err f)) h = (refl, refl)
left-out-books (PutEvent id part putting.Took) h = absurd cc
left-out-books (EndCopy id part putting.Took) h = absurd cc
left-out-books e h = (refl, refl)

-- a part more, as a book tells it
said-extended : (k : ℕ) (part : List ℕ) (bs : List Booking) → map said_booking (extended k part bs) ≡ with_part k part (map said_booking bs)
said-extended k part [] = refl
said-extended zero part (b ∷ bs) = refl
said-extended (suc k) part (b ∷ bs) = ap (λ (l : List said.Booking). said_booking b ∷ l) (said-extended k part bs)

part-append : (k : ℕ) (part : List ℕ) (bs cs : List said.Booking) → k < length bs → with_part k part (bs ++ cs) ≡ with_part k part bs ++ cs
part-append k part [] cs lt = absurd (omega (arith, lt))
part-append zero part (b ∷ bs) cs lt = refl
part-append (suc k) part (b ∷ bs) cs lt = ap (λ (l : List said.Booking). b ∷ l) (part-append k part bs cs (omega (arith, lt)))

module _ {T : Type 0} (who : Who) (turn : ℕ) (stamp : Stamp) (same : stamp ≡ stamp_of who turn) (q : Dialogue T) (end : ℕ) where
  -- so a list that begins there goes on, up to a last book
  abbrev Goes : State → List Request → List Addition → State → Type 0
  Goes s rs ps final = AreNumbered who turn (length s.book) rs × (map said_booking final.book ≡ with_all ps (map said_booking s.book ++ map (λ r. r.booking) rs))

  -- none in front
  none-first : (s t : State) (a : Deed) (ds : List Deed) (final : State) → granted (booked_by a.event) ≡ [] → granted (added_by a.event) ≡ [] → t.book ≡ s.book → Goes t (requests_in ds) (added_in ds) final →
      Goes s (requests_in (a ∷ ds)) (added_in (a ∷ ds)) final
  none-first s t a ds final none no_part book (numbered, grew) =
      let rs : requests_in (a ∷ ds) ≡ requests_in ds = granted-append (booked_by a.event) (bookings_in ds) ∙ ap (λ (l : List Request). l ++ requests_in ds) none in
      let ps : added_in (a ∷ ds) ≡ added_in ds = granted-append (added_by a.event) (additions_in ds) ∙ ap (λ (l : List Addition). l ++ added_in ds) no_part in
      subst (λ (l : List Request). Goes s l (added_in (a ∷ ds)) final) (sym rs) (subst (λ (l : List Addition). Goes s (requests_in ds) l final) (sym ps) (
        subst (λ (b : List Booking). AreNumbered who turn (length b) (requests_in ds)) book numbered,
        grew ∙ ap (λ (b : List Booking). with_all (added_in ds) (map said_booking b ++ map (λ r. r.booking) (requests_in ds))) book,
      ))

  -- a part in front
  part-first : (s t : State) (a : Deed) (ds : List Deed) (final : State) (id : ℕ) (part : List ℕ) → granted (booked_by a.event) ≡ [] → granted (added_by a.event) ≡ record { request = id; part = part } ∷ [] →
      t.book ≡ extended id part s.book → id < length s.book → Goes t (requests_in ds) (added_in ds) final → Goes s (requests_in (a ∷ ds)) (added_in (a ∷ ds)) final
  part-first s t a ds final id part none one book lt (numbered, grew) =
      let rs : requests_in (a ∷ ds) ≡ requests_in ds = granted-append (booked_by a.event) (bookings_in ds) ∙ ap (λ (l : List Request). l ++ requests_in ds) none in
      let p : Addition = record { request = id; part = part } in
      let ps : added_in (a ∷ ds) ≡ p ∷ added_in ds = granted-append (added_by a.event) (additions_in ds) ∙ ap (λ (l : List Addition). l ++ added_in ds) one in
      let size : length t.book ≡ length s.book = ap length book ∙ extended-length id part s.book in
      let many : length (map said_booking s.book) ≡ length s.book = length-map s.book said_booking in
      let here : id < length (map said_booking s.book) = omega (arith, many, lt) in
      subst (λ (l : List Request). Goes s l (added_in (a ∷ ds)) final) (sym rs) (subst (λ (l : List Addition). Goes s (requests_in ds) l final) (sym ps) (
        subst (λ (n : ℕ). AreNumbered who turn n (requests_in ds)) size numbered,
        grew ∙ ap (λ (b : List Booking). with_all (added_in ds) (map said_booking b ++ map (λ r. r.booking) (requests_in ds))) book
            ∙ ap (λ (l : List said.Booking). with_all (added_in ds) (l ++ map (λ r. r.booking) (requests_in ds))) (said-extended id part s.book)
            ∙ ap (with_all (added_in ds)) (sym (part-append id part (map said_booking s.book) (map (λ r. r.booking) (requests_in ds)) here)),
      ))

  -- one in front
  one-first : (s : State) (given : Stamp) (part : List ℕ) (copying : Bool) (new : ℕ) (ds : List Deed) (final : State) → given ≡ stamp → new ≡ length s.book →
      Goes (after s (Book given part copying (Ok new))) (requests_in ds) (added_in ds) final →
      Goes s (granted (booked_by (Book given part copying (Ok new)) ++ bookings_in ds)) (added_in ds) final
  one-first s given part copying new ds final is number (numbered, grew) =
      let b : Booking = record { stamp = given; parts = part ∷ [] } in
      let size : length (s.book ++ b ∷ []) ≡ length s.book + 1 = length-append s.book (b ∷ []) in (
        (number, is ∙ same, subst (λ (n : ℕ). AreNumbered who turn n (requests_in ds)) size numbered),
        grew ∙ ap (λ (l : List said.Booking). with_all (added_in ds) (l ++ map (λ r. r.booking) (requests_in ds))) (map-append said_booking s.book (b ∷ []))
            ∙ ap (with_all (added_in ds)) (append_assoc (map said_booking s.book) (said_booking b ∷ []) (map (λ r. r.booking) (requests_in ds))),
      )

  books-on : (ds : List Deed) (d : Dialogue T) (id : ℕ) (s : State) → AreFlagged s → AllUnder stamp ds → Leads d id ds q end → IsLegal s (kept (events_of ds)) → Goes s (requests_in ds) (added_in ds) (state_behind s ds)
  books-on [] d id s flags under l legal = (tt, sym (append-nil (map said_booking s.book)))
  books-on (a ∷ ds) d id s flags under (mid, n, step, l) legal = by (leaves_event a.event) refl legal (λ t flags' legal'. books-on ds mid n t flags' under.1 l legal')
    where
      one : (e : Event) → Steps a.stamp d id e mid n → Allows s e → (final : State) → Booked s e → Goes (after s e) (requests_in ds) (added_in ds) final →
          Goes s (granted (booked_by e ++ bookings_in ds)) (granted (added_by e ++ additions_in ds)) final
      one e st allows final (One given part copying new is) h = subst
          (λ (x : Event). Steps a.stamp d id x mid n → Allows s x → Goes (after s x) (requests_in ds) (added_in ds) final → Goes s (granted (booked_by x ++ bookings_in ds)) (granted (added_by x ++ additions_in ds)) final)
          (sym is)
          (λ st allows h. one-first s given part copying new ds final (own-stamp a.stamp d id given part copying new mid n st ∙ under.0) allows.1 h) st allows h
      one e st allows final (Part at part none added book lt) h = part-first s (after s e) (record { stamp = a.stamp; event = e }) ds final at part none added book lt h
      one e st allows final (None none no_part book) h = none-first s (after s e) (record { stamp = a.stamp; event = e }) ds final none no_part book h

      by : (b : Bool) → leaves_event a.event ≡ b → IsLegal s (if b then a.event ∷ kept (events_of ds) else kept (events_of ds)) →
          ((t : State) → AreFlagged t → IsLegal t (kept (events_of ds)) → Goes t (requests_in ds) (added_in ds) (state_behind t ds)) →
          Goes s (requests_in (a ∷ ds)) (added_in (a ∷ ds)) (after_all s (if b then a.event ∷ kept (events_of ds) else kept (events_of ds)))
      by true e (allows, legal) ih = one a.event step allows (after_all (after s a.event) (kept (events_of ds))) (booked s a.event flags allows) (ih (after s a.event) (flagged-one s a.event flags) legal)
      by false e legal ih = let none = left-out-books a.event e in none-first s s a ds (after_all s (kept (events_of ds))) none.0 none.1 refl (ih s flags legal)

pub books-so : {T : Type 0} (who : Who) (turn : ℕ) (stamp : Stamp) → stamp ≡ stamp_of who turn → (d : Dialogue T) (id : ℕ) (ds : List Deed) (q : Dialogue T) (end : ℕ) (s : State) → IsReached s → AllUnder stamp ds →
    Leads d id ds q end → IsLegal s (kept (events_of ds)) → BooksSo who turn s ds
books-so who turn stamp same d id ds q end s reached under l legal = let h = books-on who turn stamp same q end ds d id s (flagged s reached) under l legal in record { numbered = h.0; book = h.1 }
