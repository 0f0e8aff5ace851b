-- A walk along a dialogue against the function that says where it comes to.
use Rattle.std.proofs.Common.{◌≡◌, ℕ, ◌+◌, ◌≤◌, ◌==◌, inl, inr, List, [], ◌∷◌, ◌++◌, length, Bool, true, false, take, drop, Option, Some, None, Result, Ok, Err, refl, sym, ap, subst, ◌∙◌, arith, if◌then◌else◌, append_assoc}
use Rattle.std.proofs.lemmas.Bool.Decides.{nat_tests}
use Rattle.std.proofs.lemmas.List.{append-nil, drop_at, length-take-le, take-append-drop, take-append-le, length-append}
use Rattle.pg_spec.specs.RawMessages.{RawMessage}
use Rattle.pg_desk.specs.History.{IsFrontOf}
use Rattle.pg_spec.specs.declared.stamps.Stamp.{Stamp}
use Rattle.pg_desk.specs.declared.event.DeskFault.{DeskFault}
use Rattle.pg_desk.specs.declared.event.DeskFault.TheVariants as fault
use Rattle.pg_desk.specs.declared.event.Put.TheVariants as putting
use Rattle.pg_desk.specs.declared.event.Take.{Take}
use Rattle.pg_desk.specs.declared.event.Take.TheVariants as taking
use Rattle.pg_desk.specs.declared.event.Event.{Event}
use Rattle.pg_desk.specs.declared.event.Event.TheVariants as call
use Rattle.pg_types.specs.declared.error.Error.{Error}
use Rattle.pg_types.specs.declared.error.Error.TheVariants.{Closed, OutOfMemory}
use Rattle.pg_query.specs.Faults.{of_fault}
use Rattle.pg_query.specs.Dialogue.{Dialogue, Answer, Ask, Send, Leave, Read, Put, Finish, Close, HangUp, Call, Hear, feed, fits, Told, question_of}
use Rattle.pg_query.specs.Lives.{Deed, Leads}
use Rattle.pg_query.specs.Scripts.{IsRead, IsPut}
use Rattle.pg_query.specs.declared.desk_call.Cleanup.{Cleanup}
use Rattle.pg_query.specs.declared.desk_call.DeskCall.{DeskCall}
use Rattle.pg_query.specs.declared.desk_call.DeskCall.TheVariants as desk_call
use Rattle.pg_query.specs.declared.desk_call.Reply.{Reply}
use Rattle.pg_query.specs.declared.desk_call.Reply.TheVariants as reply
use Rattle.pg_spec.specs.Courses.{Asked, Request}
use Rattle.pg_spec.specs.Dialogues.{decided_after}
use Rattle.pg_query.specs.Requests.{IsBehind, Refuses}
use Rattle.pg_query.proofs.LeavingLaws.{told-fits}
use Rattle.pg_query.proofs.RequestLaws.{moved, stays-answered}
use Rattle.pg_core.specs.Deeds.{Addition, booked_by, bookings_in, copied_by, copies_in, added_by, additions_in, added_in, parts_with, parts_of, whole_with, whole_in, told_as, told_by, answers_in, granted, taken_from, got_after, Serves, EndsRefused}
use Rattle.pg_core.specs.Runs.{MayWait, Ran, of_request, stays, add_first, ask_first, run, AddsNone, AddsTo, ReadsNothing, IsTidy, At, Holds, Ends, Answered, Waits, HoldsBack, Stands, Gave, Rests, Refused, Comes}
use Rattle.pg_core.proofs.Fed.{feed-answer, feed-ask, feed-send, feed-leave, feed-put, feed-finish, feed-close, feed-hang-up, feed-call, feed-hear, feed-joined, fed, read_so, still-decides, front-decides}
use Rattle.pg_core.proofs.Fitting.{AreFitting, first-asked, told-fitting}
use Rattle.pg_core.specs.Trails.{IsSettled}
use Rattle.pg_core.proofs.Unread.{unread}

-- ---- behind a refusal, and where nothing is booked or asked any more

-- a stretch in which nothing was booked, added or asked
record Idle {T : Type 0} (s : Ran T) : Type 0 where
  requests : s.requests ≡ []
  copies : s.copies ≡ []
  added : s.added ≡ []
  parts : s.parts [] ≡ []
  whole : s.whole [] ≡ []
  asked : s.asked ≡ []

idle-stays : {T : Type 0} (at : Option ℕ) (n : ℕ) (d : Dialogue T) → Idle (stays at n d)
idle-stays at n d = record { requests = refl; copies = refl; added = refl; parts = refl; whole = refl; asked = refl }

nothing-more : {T : Type 0} (came : ℕ → List RawMessage) (at : Option ℕ) (n : ℕ) (d : Dialogue T) → Idle (run came at n d [] [] [])
nothing-more came at n (Answer r) = idle-stays at n (Answer r)
nothing-more came at n (Ask copying part d) = idle-stays at n (Ask copying part d)
nothing-more came at n (Send part refused d) = idle-stays at n (Send part refused d)
nothing-more came at n (Leave id d) = nothing-more came at n d
nothing-more {T} came at n (Read cleanup decides next) = by (decided_after decides (drop n (of_request came at))) (λ k. nothing-more came at (n + k) (next (take k (drop n (of_request came at)))))
  where
    chosen : Option ℕ → Ran T
    chosen o = elim o [ None ↦ stays at n (Read cleanup decides next) | Some k ↦ run came at (n + k) (next (take k (drop n (of_request came at)))) [] [] [] ]

    by : (o : Option ℕ) → ((k : ℕ) → Idle (run came at (n + k) (next (take k (drop n (of_request came at)))) [] [] [])) → Idle (chosen o)
    by None h = idle-stays at n (Read cleanup decides next)
    by (Some k) h = h k
nothing-more came None n (Put cleanup part d) = idle-stays None n (Put cleanup part d)
nothing-more came (Some k) n (Put cleanup part d) = idle-stays (Some k) n (Put cleanup part d)
nothing-more came None n (Finish part d) = idle-stays None n (Finish part d)
nothing-more came (Some k) n (Finish part d) = idle-stays (Some k) n (Finish part d)
nothing-more came None n (Close part d) = idle-stays None n (Close part d)
nothing-more came (Some k) n (Close part d) = idle-stays (Some k) n (Close part d)
nothing-more came at n (HangUp d) = nothing-more came at n d
nothing-more came at n (Call q refused next) = idle-stays at n (Call q refused next)
nothing-more came at n (Hear next) = idle-stays at n (Hear next)

-- deeds by which nothing was booked, added or asked
record IdleBy (ds : List Deed) : Type 0 where
  books : bookings_in ds ≡ []
  copies : copies_in ds ≡ []
  tells : answers_in ds ≡ []
  adds : additions_in ds ≡ []
  parts : parts_of ds ≡ []
  whole : whole_in ds ≡ []

-- one of them
record QuietBy (a : Deed) : Type 0 where
  books : booked_by a.event ≡ []
  copies : copied_by a.event ≡ []
  tells : told_by a.stamp a.event ≡ []
  adds : added_by a.event ≡ []
  parts : (ps : List (List ℕ)) → parts_with a.event ps ≡ ps
  whole : (ps : List (List ℕ)) (rs : List Request) → whole_with a.event ps rs ≡ rs

idle-none : IdleBy []
idle-none = record { books = refl; copies = refl; tells = refl; adds = refl; parts = refl; whole = refl }

idle-one : (a : Deed) (ds : List Deed) → QuietBy a → IdleBy ds → IdleBy (a ∷ ds)
idle-one a ds q h = record {
  books = ap (λ (x : List (Result Request Error)). x ++ bookings_in ds) q.books ∙ h.books;
  copies = ap (λ (x : List Bool). x ++ copies_in ds) q.copies ∙ h.copies;
  tells = ap (λ (x : List (Result (Asked DeskCall Reply) Error)). x ++ answers_in ds) q.tells ∙ h.tells;
  adds = ap (λ (x : List (Result Addition Error)). x ++ additions_in ds) q.adds ∙ h.adds;
  parts = q.parts (parts_of ds) ∙ h.parts;
  whole = q.whole (parts_of ds) (whole_in ds) ∙ h.whole;
}

idle-at : (ds : List Deed) → ds ≡ [] → IdleBy ds
idle-at ds e = subst IdleBy (sym e) idle-none

quiet-take : (stamp : Stamp) (which : ℕ) (r : Result Take DeskFault) → QuietBy (record { stamp = stamp; event = call.Take which r })
quiet-take stamp which r = record { books = refl; copies = refl; tells = refl; adds = refl; parts = λ ps. refl; whole = λ ps rs. refl }

quiet-hang : (stamp : Stamp) (which : ℕ) (r : Result (Unit {0}) DeskFault) → QuietBy (record { stamp = stamp; event = call.HangUp which r })
quiet-hang stamp which r = record { books = refl; copies = refl; tells = refl; adds = refl; parts = λ ps. refl; whole = λ ps rs. refl }

-- one event more in front
refused-later : {T : Type 0} (a : Deed) (ds : List Deed) (q : Dialogue T) → EndsRefused ds q → EndsRefused (a ∷ ds) q
refused-later a ds q h = record {
  answer = h.answer;
  is = h.is;
  refused = record {
    before = a ∷ h.refused.before;
    last = h.refused.last;
    behind = h.refused.behind;
    is_last = ap (λ (l : List Deed). a ∷ l) h.refused.is_last;
    is_behind = h.refused.is_behind;
    refuses = h.refused.refuses;
  };
}

-- such a stretch, by such deeds
idle-comes : {T : Type 0} (came got : ℕ → List RawMessage) (s : Ran T) (L : List Deed) (q : Dialogue T) (end : ℕ) → Idle s → IdleBy L → (Ends came got L q end → Stands came got s L q end) → Comes came got s L q end
idle-comes came got s L q end i h stands = record {
  requests = i.requests ∙ sym (ap granted h.books);
  copies = i.copies ∙ sym h.copies;
  added = i.added ∙ sym (ap granted h.adds);
  parts = i.parts ∙ sym h.parts;
  whole = i.whole ∙ sym h.whole;
  asked = i.asked ∙ sym (ap granted h.tells);
  stands = stands;
}

-- the supplies that such deeds give
supplied-none : {T : Type 0} (came : ℕ → List RawMessage) (at : Option ℕ) (n : ℕ) (d : Dialogue T) (L : List Deed) → IdleBy L → run came at n d (bookings_in L) (answers_in L) (additions_in L) ≡ run came at n d [] [] []
supplied-none came at n d L h =
    ap (λ (x : List (Result Request Error)). run came at n d x (answers_in L) (additions_in L)) h.books
    ∙ ap (λ (x : List (Result (Asked DeskCall Reply) Error)). run came at n d [] x (additions_in L)) h.tells ∙ ap (run came at n d [] []) h.adds

-- deeds that book and ask nothing, and end in a refusal
refused-all : {T : Type 0} (came got : ℕ → List RawMessage) (at : Option ℕ) (n : ℕ) (d : Dialogue T) (L : List Deed) (q : Dialogue T) (end : ℕ) → IdleBy L → EndsRefused L q →
    Comes came got (run came at n d (bookings_in L) (answers_in L) (additions_in L)) L q end
refused-all {T} came got at n d L q end h refused =
    idle-comes came got _ L q end (subst (λ (s : Ran T). Idle s) (sym (supplied-none came at n d L h)) (nothing-more came at n d)) h (λ ends. Refused refused)

-- a take or a hanging up that is refused
refused-here : {T : Type 0} (came got : ℕ → List RawMessage) (at : Option ℕ) (n : ℕ) (d : Dialogue T) (a : Deed) (ds : List Deed) (q : Dialogue T) (id end : ℕ) (r : Result T Error) →
    QuietBy a → IsBehind a.event [] → Refuses a.event r → Leads (Answer r) id ds q end →
    Comes came got (run came at n d (bookings_in (a ∷ ds)) (answers_in (a ∷ ds)) (additions_in (a ∷ ds))) (a ∷ ds) q end
refused-here {T} came got at n d a ds q id end r quiet alone refuses l =
    let s = stays-answered r id ds q end l in
    refused-all came got at n d (a ∷ ds) q end (idle-one a ds quiet (idle-at ds s.0))
    (record { answer = r; is = s.1; refused = record { before = []; last = a; behind = []; is_last = ap (λ (x : List Deed). a ∷ x) s.0; is_behind = alone; refuses = refuses } })

-- where a request is gone, and is hung up next
still-hangs : {T : Type 0} (came got : ℕ → List RawMessage) (s : Ran T) (x : Error) (ds : List Deed) (q : Dialogue T) (end : ℕ) → q ≡ HangUp (Answer (Err x)) → Ends came got ds q end → Stands came got s ds q end
still-hangs came got s x ds q end is (Answered r e) = absurd (let no_way : HangUp (Answer (Err x)) ≡ Answer r = sym is ∙ e in cc)
still-hangs came got s x ds q end is (Waits reads e) = absurd (subst IsRead is reads)
still-hangs came got s x ds q end is (HoldsBack puts) = absurd (subst IsPut is puts)

gone-here : {T : Type 0} (came got : ℕ → List RawMessage) (at : Option ℕ) (n : ℕ) (d : Dialogue T) (stamp : Stamp) (which id : ℕ) → which ≡ id → (ds : List Deed) (q : Dialogue T) (end : ℕ) →
    Leads (HangUp (Answer (Err Closed))) id ds q end →
    Comes came got (run came at n d (bookings_in (record { stamp = stamp; event = call.Take which (Ok taking.Gone) } ∷ ds)) (answers_in (record { stamp = stamp; event = call.Take which (Ok taking.Gone) } ∷ ds)) (additions_in (record { stamp = stamp; event = call.Take which (Ok taking.Gone) } ∷ ds)))
    (record { stamp = stamp; event = call.Take which (Ok taking.Gone) } ∷ ds) q end
gone-here came got at n d stamp which id same [] q end l =
    let gone : Deed = record { stamp = stamp; event = call.Take which (Ok taking.Gone) } in
    idle-comes came got _ (gone ∷ []) q end (nothing-more came at n d) (idle-one gone [] (quiet-take stamp which (Ok taking.Gone)) idle-none) (still-hangs came got _ Closed _ q end l.0)
gone-here {T} came got at n d stamp which id same (a ∷ ds) q end l = by-event a.event a.stamp l
  where
    gone : Deed
    gone = record { stamp = stamp; event = call.Take which (Ok taking.Gone) }

    idle : (hung : Deed) → QuietBy hung → ds ≡ [] → IdleBy (gone ∷ hung ∷ ds)
    idle hung quiet e = idle-one gone (hung ∷ ds) (quiet-take stamp which (Ok taking.Gone)) (idle-one hung ds quiet (idle-at ds e))

    by-event : (e : Event) (s : Stamp) → Leads (HangUp (Answer (Err Closed))) id (record { stamp = s; event = e } ∷ ds) q end →
        Comes came got (run came at n d (bookings_in (gone ∷ record { stamp = s; event = e } ∷ ds)) (answers_in (gone ∷ record { stamp = s; event = e } ∷ ds)) (additions_in (gone ∷ record { stamp = s; event = e } ∷ ds))) (gone ∷ record { stamp = s; event = e } ∷ ds) q end
    by-event (call.HangUp other (Ok x)) s (mid, m, t, l) =
        let h = stays-answered (Err Closed) id ds q end (moved _ mid id m ds q end t.1 t.2 l) in
        let hung : Deed = record { stamp = s; event = call.HangUp other (Ok x) } in
        let that : other ≡ which = t.0 ∙ sym same in
        refused-all came got at n d (gone ∷ hung ∷ ds) q end (idle hung (quiet-hang s other (Ok x)) h.0)
        (record { answer = Err Closed; is = h.1; refused = record { before = []; last = gone; behind = hung ∷ []; is_last = ap (λ (l : List Deed). gone ∷ hung ∷ l) h.0; is_behind = ap (λ (k : ℕ). call.HangUp k (Ok tt)) that; refuses = refl } })
    by-event (call.HangUp other (Err f)) s (mid, m, t, l) =
        let h = stays-answered (Err (of_fault f)) id ds q end (moved _ mid id m ds q end t.1 t.2 l) in
        let hung : Deed = record { stamp = s; event = call.HangUp other (Err f) } in
        refused-all came got at n d (gone ∷ hung ∷ ds) q end (idle hung (quiet-hang s other (Err f)) h.0)
        (record { answer = Err (of_fault f); is = h.1; refused = record { before = gone ∷ []; last = hung; behind = []; is_last = ap (λ (l : List Deed). gone ∷ hung ∷ l) h.0; is_behind = refl; refuses = refl } })
    by-event e s l = absurd l.2

-- where a copy is gone, and is hung up next: nothing is booked any more, and it answers so
record HungSo {T : Type 0} (x : Error) (ds : List Deed) (q : Dialogue T) (end : ℕ) : Type 0 where
  idle : IdleBy ds
  stands : (came got : ℕ → List RawMessage) (s : Ran T) → s.left ≡ Answer (Err x) → Ends came got ds q end → Stands came got s ds q end

hung-so : {T : Type 0} (x : Error) (id : ℕ) (ds : List Deed) (q : Dialogue T) (end : ℕ) → Leads (HangUp (Answer (Err x))) id ds q end → HungSo x ds q end
hung-so x id [] q end l = record { idle = idle-none; stands = λ came got s left. still-hangs came got s x [] q end l.0 }
hung-so {T} x id (a ∷ ds) q end l = by-event a.event a.stamp l
  where
    by-event : (e : Event) (s : Stamp) → Leads (HangUp (Answer (Err x))) id (record { stamp = s; event = e } ∷ ds) q end → HungSo x (record { stamp = s; event = e } ∷ ds) q end
    by-event (call.HangUp other (Ok u)) s (mid, m, t, l) =
        let h = stays-answered (Err x) id ds q end (moved _ mid id m ds q end t.1 t.2 l) in
        let hung : Deed = record { stamp = s; event = call.HangUp other (Ok u) } in
        record { idle = idle-one hung ds (quiet-hang s other (Ok u)) (idle-at ds h.0); stands = λ came got r left ends. Gave (Err x) h.1 left }
    by-event (call.HangUp other (Err f)) s (mid, m, t, l) =
        let h = stays-answered (Err (of_fault f)) id ds q end (moved _ mid id m ds q end t.1 t.2 l) in
        let hung : Deed = record { stamp = s; event = call.HangUp other (Err f) } in
        record {
          idle = idle-one hung ds (quiet-hang s other (Err f)) (idle-at ds h.0);
          stands = λ came got r left ends.
              Refused (record { answer = Err (of_fault f); is = h.1; refused = record { before = []; last = hung; behind = []; is_last = ap (λ (l : List Deed). hung ∷ l) h.0; is_behind = refl; refuses = refl } });
        }
    by-event e s l = absurd l.2

-- ---- what was taken

is-same : (a : ℕ) → (a == a) ≡ true
is-same a = grind (arith, nat_tests)

-- an event that takes nothing
holds-still : (came got : ℕ → List RawMessage) (e : Event) (at : Option ℕ) (n : ℕ) (left : List RawMessage) → ((k : ℕ) → taken_from k e ≡ []) →
    Holds came got at n left → Holds came (λ j. got j ++ taken_from j e) at n left
holds-still came got e None n left none h = record { read = h.read; count = h.count; took = h.took; more = h.more; all = h.all }
holds-still came got e (Some k) n left none h = record {
  read = h.read;
  count = h.count;
  took = ap (λ (x : List RawMessage). got k ++ x) (none k) ∙ append-nil (got k) ∙ h.took;
  more = h.more;
  all = h.all;
}

-- a new request
holds-new : (came got : ℕ → List RawMessage) (new : ℕ) → got new ≡ [] → Holds came (λ j. got j ++ []) (Some new) 0 []
holds-new came got new none = record { read = []; count = refl; took = append-nil (got new) ∙ none; more = came new; all = refl }

-- a batch more
holds-more : (came got : ℕ → List RawMessage) (k which : ℕ) (n : ℕ) (left ms : List RawMessage) → k ≡ which → IsFrontOf (got which ++ ms) (came which) →
    Holds came got (Some k) n left → Holds came (λ j. got j ++ taken_from j (call.Take which (Ok (taking.Batch ms)))) (Some k) n (left ++ ms)
holds-more came got k which n left ms same front h =
    let took_k : got k ≡ h.read ++ left = h.took in
    let mine : got which ≡ h.read ++ left = ap got (sym same) ∙ took_k in
    let here : (if which == k then ms else []) ≡ ms = ap (λ (j : ℕ). if which == j then ms else []) same ∙ ap (λ (b : Bool). if b then ms else []) (is-same which) in
    record {
      read = h.read;
      count = h.count;
      took = ap (λ (x : List RawMessage). got k ++ x) here ∙ ap (λ (x : List RawMessage). x ++ ms) took_k ∙ append_assoc h.read left ms;
      more = front.0;
      all = sym (append_assoc h.read (left ++ ms) front.0) ∙ ap (λ (x : List RawMessage). x ++ front.0) (sym (append_assoc h.read left ms))
          ∙ ap (λ (x : List RawMessage). (x ++ ms) ++ front.0) (sym mine) ∙ front.1 ∙ ap came (sym same);
    }

-- so many of those that are left are read
holds-read : (came got : ℕ → List RawMessage) (at : Option ℕ) (n k : ℕ) (left : List RawMessage) → k ≤ length left → Holds came got at n left → Holds came got at (n + k) (drop k left)
holds-read came got at n k left le h =
    let cut : take k left ++ drop k left ≡ left = take-append-drop k left in
    record {
      read = h.read ++ take k left;
      count = (let a : length (h.read ++ take k left) ≡ length h.read + length (take k left) = length-append h.read (take k left) in
          let b : length (take k left) ≡ k = length-take-le k left le in let c = h.count in omega (arith, a, b, c));
      took = h.took ∙ ap (λ (x : List RawMessage). h.read ++ x) (sym cut) ∙ sym (append_assoc h.read (take k left) (drop k left));
      more = h.more;
      all = append_assoc h.read (take k left) (drop k left ++ h.more) ∙ ap (λ (x : List RawMessage). h.read ++ x) (sym (append_assoc (take k left) (drop k left) h.more))
          ∙ ap (λ (x : List RawMessage). h.read ++ (x ++ h.more)) cut ∙ h.all;
    }

-- what isn't read
unread-is : (came got : ℕ → List RawMessage) (at : Option ℕ) (n : ℕ) (left : List RawMessage) (h : Holds came got at n left) → drop n (of_request came at) ≡ left ++ h.more
unread-is came got at n left h = ap (drop n) (sym h.all) ∙ drop_at h.read (left ++ h.more) n h.count

-- ---- what is told

pub record Hears (q : DeskCall) (stamp : Stamp) (e : Event) (r : Reply) : Type 0 where
  told : told_by stamp e ≡ Ok (record { stamp = stamp; question = q; reply = r }) ∷ []
  books : booked_by e ≡ []
  copies : copied_by e ≡ []
  takes : (k : ℕ) → taken_from k e ≡ []
  adds : added_by e ≡ []
  parts : (ps : List (List ℕ)) → parts_with e ps ≡ ps
  whole : (ps : List (List ℕ)) (rs : List Request) → whole_with e ps rs ≡ rs

hears : (q : DeskCall) (stamp : Stamp) (e : Event) (r : Reply) → Told q e (Ok r) → Hears q stamp e r
hears desk_call.NextStatement stamp (call.NextStatement (Ok n)) r h = let same : r ≡ reply.Number n = cc in
    record { told = ap (λ (x : Reply). let a : Result (Asked DeskCall Reply) Error = Ok (record { stamp = stamp; question = desk_call.NextStatement; reply = x }) in a ∷ []) (sym same); books = refl; copies = refl; takes = λ k. refl; adds = refl; parts = λ ps. refl; whole = λ ps rs. refl }
hears desk_call.NextStatement stamp (call.NextStatement (Err fault.Encode)) r h = let same : r ≡ reply.Spent = cc in
    record { told = ap (λ (x : Reply). let a : Result (Asked DeskCall Reply) Error = Ok (record { stamp = stamp; question = desk_call.NextStatement; reply = x }) in a ∷ []) (sym same); books = refl; copies = refl; takes = λ k. refl; adds = refl; parts = λ ps. refl; whole = λ ps rs. refl }
hears desk_call.NextStatement stamp (call.NextStatement (Err fault.Closed)) r h = absurd cc
hears desk_call.NextStatement stamp (call.NextStatement (Err fault.OutOfMemory)) r h = absurd cc
hears desk_call.NextPortal stamp (call.NextPortal (Ok n)) r h = let same : r ≡ reply.Number n = cc in
    record { told = ap (λ (x : Reply). let a : Result (Asked DeskCall Reply) Error = Ok (record { stamp = stamp; question = desk_call.NextPortal; reply = x }) in a ∷ []) (sym same); books = refl; copies = refl; takes = λ k. refl; adds = refl; parts = λ ps. refl; whole = λ ps rs. refl }
hears desk_call.NextPortal stamp (call.NextPortal (Err fault.Encode)) r h = let same : r ≡ reply.Spent = cc in
    record { told = ap (λ (x : Reply). let a : Result (Asked DeskCall Reply) Error = Ok (record { stamp = stamp; question = desk_call.NextPortal; reply = x }) in a ∷ []) (sym same); books = refl; copies = refl; takes = λ k. refl; adds = refl; parts = λ ps. refl; whole = λ ps rs. refl }
hears desk_call.NextPortal stamp (call.NextPortal (Err fault.Closed)) r h = absurd cc
hears desk_call.NextPortal stamp (call.NextPortal (Err fault.OutOfMemory)) r h = absurd cc
hears q stamp (call.Catalog c) r h =
    record { told = ap (told_as stamp (question_of c)) (sym h.1) ∙ ap (λ (x : DeskCall). told_as stamp x (Ok r)) (sym h.0); books = refl; copies = refl; takes = λ k. refl; adds = refl; parts = λ ps. refl; whole = λ ps rs. refl }
hears q stamp e r h = absurd h

record RefusedSo (stamp : Stamp) (e : Event) (f : DeskFault) : Type 0 where
  told : told_by stamp e ≡ Err (of_fault f) ∷ []
  books : booked_by e ≡ []
  copies : copied_by e ≡ []
  takes : (k : ℕ) → taken_from k e ≡ []
  adds : added_by e ≡ []
  parts : (ps : List (List ℕ)) → parts_with e ps ≡ ps
  whole : (ps : List (List ℕ)) (rs : List Request) → whole_with e ps rs ≡ rs

refuses-so : (q : DeskCall) (stamp : Stamp) (e : Event) (f : DeskFault) → Told q e (Err f) → RefusedSo stamp e f
refuses-so desk_call.NextStatement stamp (call.NextStatement (Ok n)) f h = absurd cc
refuses-so desk_call.NextStatement stamp (call.NextStatement (Err fault.Encode)) f h = absurd cc
refuses-so desk_call.NextStatement stamp (call.NextStatement (Err fault.Closed)) f h = let same : f ≡ fault.Closed = cc in record { told = ap (λ (x : DeskFault). let a : Result (Asked DeskCall Reply) Error = Err (of_fault x) in a ∷ []) (sym same); books = refl; copies = refl; takes = λ k. refl; adds = refl; parts = λ ps. refl; whole = λ ps rs. refl }
refuses-so desk_call.NextStatement stamp (call.NextStatement (Err fault.OutOfMemory)) f h = let same : f ≡ fault.OutOfMemory = cc in record { told = ap (λ (x : DeskFault). let a : Result (Asked DeskCall Reply) Error = Err (of_fault x) in a ∷ []) (sym same); books = refl; copies = refl; takes = λ k. refl; adds = refl; parts = λ ps. refl; whole = λ ps rs. refl }
refuses-so desk_call.NextPortal stamp (call.NextPortal (Ok n)) f h = absurd cc
refuses-so desk_call.NextPortal stamp (call.NextPortal (Err fault.Encode)) f h = absurd cc
refuses-so desk_call.NextPortal stamp (call.NextPortal (Err fault.Closed)) f h = let same : f ≡ fault.Closed = cc in record { told = ap (λ (x : DeskFault). let a : Result (Asked DeskCall Reply) Error = Err (of_fault x) in a ∷ []) (sym same); books = refl; copies = refl; takes = λ k. refl; adds = refl; parts = λ ps. refl; whole = λ ps rs. refl }
refuses-so desk_call.NextPortal stamp (call.NextPortal (Err fault.OutOfMemory)) f h = let same : f ≡ fault.OutOfMemory = cc in record { told = ap (λ (x : DeskFault). let a : Result (Asked DeskCall Reply) Error = Err (of_fault x) in a ∷ []) (sym same); books = refl; copies = refl; takes = λ k. refl; adds = refl; parts = λ ps. refl; whole = λ ps rs. refl }
refuses-so q stamp (call.Catalog c) f h = record { told = ap (told_as stamp (question_of c)) (sym h.1); books = refl; copies = refl; takes = λ k. refl; adds = refl; parts = λ ps. refl; whole = λ ps rs. refl }
refuses-so q stamp e f h = absurd h

-- ---- one event more in front

move : {T : Type 0} (came got : ℕ → List RawMessage) (s t : Ran T) (a : Deed) (ds : List Deed) (q : Dialogue T) (end : ℕ) → t.at ≡ s.at → t.read ≡ s.read → t.left ≡ s.left →
    (Ends came (λ j. got j ++ taken_from j a.event) ds q end → Stands came (λ j. got j ++ taken_from j a.event) s ds q end) → Ends came got (a ∷ ds) q end → Stands came got t (a ∷ ds) q end
move {T} came got s t a ds q end at read left h e = by (h (ends e))
  where
    got' : ℕ → List RawMessage
    got' = got_after got (a ∷ ds)

    ends : Ends came got (a ∷ ds) q end → Ends came (λ j. got j ++ taken_from j a.event) ds q end
    ends (Answered r is) = Answered r is
    ends (Waits reads all) = Waits reads all
    ends (HoldsBack puts) = HoldsBack puts

    by : Stands came (λ j. got j ++ taken_from j a.event) s ds q end → Stands came got t (a ∷ ds) q end
    by (Gave r is was) = Gave r is (left ∙ was)
    by (Rests here waits_there waits tidy le is) = Rests (at ∙ here) waits_there (subst MayWait (sym left) waits) (subst IsTidy (sym left) tidy) (subst (λ (k : ℕ). k ≤ length (got' end)) (sym read) le)
        (is ∙ ap (λ (k : ℕ). feed (drop k (got' end)) s.left) (sym read) ∙ ap (feed (drop t.read (got' end))) (sym left))
    by (Refused r) = Refused (refused-later a ds q r)

-- an event that neither books, adds nor tells
quietly : {T : Type 0} (came got : ℕ → List RawMessage) (at : Option ℕ) (n : ℕ) (d : Dialogue T) (a : Deed) (ds : List Deed) (q : Dialogue T) (end : ℕ) → QuietBy a →
    Comes came (λ j. got j ++ taken_from j a.event) (run came at n d (bookings_in ds) (answers_in ds) (additions_in ds)) ds q end → Comes came got (run came at n d (bookings_in (a ∷ ds)) (answers_in (a ∷ ds)) (additions_in (a ∷ ds))) (a ∷ ds) q end
quietly {T} came got at n d a ds q end quiet h =
    let rs : bookings_in (a ∷ ds) ≡ bookings_in ds = ap (λ (x : List (Result Request Error)). x ++ bookings_in ds) quiet.books in
    let qs : answers_in (a ∷ ds) ≡ answers_in ds = ap (λ (x : List (Result (Asked DeskCall Reply) Error)). x ++ answers_in ds) quiet.tells in
    let ps : additions_in (a ∷ ds) ≡ additions_in ds = ap (λ (x : List (Result Addition Error)). x ++ additions_in ds) quiet.adds in
    let same : run came at n d (bookings_in (a ∷ ds)) (answers_in (a ∷ ds)) (additions_in (a ∷ ds)) ≡ run came at n d (bookings_in ds) (answers_in ds) (additions_in ds) =
    ap (λ (x : List (Result Request Error)). run came at n d x (answers_in (a ∷ ds)) (additions_in (a ∷ ds))) rs
    ∙ ap (λ (x : List (Result (Asked DeskCall Reply) Error)). run came at n d (bookings_in ds) x (additions_in (a ∷ ds))) qs ∙ ap (run came at n d (bookings_in ds) (answers_in ds)) ps in
    record {
      requests = ap (λ (s : Ran T). s.requests) same ∙ h.requests ∙ sym (ap granted rs);
      copies = ap (λ (s : Ran T). s.copies) same ∙ h.copies ∙ sym (ap (λ (x : List Bool). x ++ copies_in ds) quiet.copies);
      added = ap (λ (s : Ran T). s.added) same ∙ h.added ∙ sym (ap granted ps);
      parts = ap (λ (s : Ran T). s.parts []) same ∙ h.parts ∙ sym (quiet.parts (parts_of ds));
      whole = ap (λ (s : Ran T). s.whole []) same ∙ h.whole ∙ sym (quiet.whole (parts_of ds) (whole_in ds));
      asked = ap (λ (s : Ran T). s.asked) same ∙ h.asked ∙ sym (ap granted qs);
      stands = move came got (run came at n d (bookings_in ds) (answers_in ds) (additions_in ds)) (run came at n d (bookings_in (a ∷ ds)) (answers_in (a ∷ ds)) (additions_in (a ∷ ds))) a ds q end
          (ap (λ (s : Ran T). s.at) same) (ap (λ (s : Ran T). s.read) same) (ap (λ (s : Ran T). s.left) same) h.stands;
    }

-- where a walk can't end
not-there : {T : Type 0} (came got : ℕ → List RawMessage) (s : Ran T) (d q : Dialogue T) (end : ℕ) → q ≡ d → (IsRead d → ⊥) → (IsPut d → ⊥) → ((r : Result T Error) → d ≡ Answer r → ⊥) → Ends came got [] q end → Stands came got s [] q end
not-there came got s d q end is f p g (Answered r e) = absurd (g r (sym is ∙ e))
not-there came got s d q end is f p g (Waits reads e) = absurd (f (subst IsRead is reads))
not-there came got s d q end is f p g (HoldsBack puts) = absurd (p (subst IsPut is puts))

-- where it ends at once, and can't
ends-not : {T : Type 0} (came got : ℕ → List RawMessage) (at : Option ℕ) (n : ℕ) (e d q : Dialogue T) (end : ℕ) → q ≡ d → (IsRead d → ⊥) → (IsPut d → ⊥) → ((r : Result T Error) → d ≡ Answer r → ⊥) →
    Comes came got (run came at n e [] [] []) [] q end
ends-not came got at n e d q end is f p g = idle-comes came got _ [] q end (nothing-more came at n e) idle-none (not-there came got _ d q end is f p g)

-- what is shown of each dialogue
abbrev Shown : {T : Type 0} → (ℕ → List RawMessage) → Dialogue T → Type 0
Shown {T} came d = (got : ℕ → List RawMessage) (at : Option ℕ) (n : ℕ) (left : List RawMessage) (id : ℕ) (ds : List Deed) (q : Dialogue T) (end : ℕ) →
    IsTidy d → At at id d → Holds came got at n left → Leads (feed left d) id ds q end → Serves came got ds → Comes came got (run came at n d (bookings_in ds) (answers_in ds) (additions_in ds)) ds q end

-- ---- a request that is read

-- what a booking says of all parts, where these are added behind it: to no copy none is
book-whole : (c copying : Bool) → c ≡ copying → (given : Stamp) (part given_part : List ℕ) → given_part ≡ part → (new : ℕ) (ps qs : List (List ℕ)) (rs ws : List Request) → ps ≡ qs → rs ≡ ws → (copying ≡ false → ps ≡ []) →
    (let r : Request = record { number = new; booking = record { stamp = given; parts = part ∷ ps } } in r ∷ rs ≡ whole_with (call.Book given given_part c (Ok new)) qs ws)
    × ([] ≡ parts_with (call.Book given given_part c (Ok new)) qs)
book-whole true copying e given part given_part is new ps qs rs ws same more none = (
  ap (λ (p : List ℕ). let r : Request = record { number = new; booking = record { stamp = given; parts = p ∷ ps } } in r ∷ rs) (sym is)
      ∙ ap (λ (l : List (List ℕ)). let r : Request = record { number = new; booking = record { stamp = given; parts = given_part ∷ l } } in r ∷ rs) same
      ∙ ap (λ (l : List Request). let r : Request = record { number = new; booking = record { stamp = given; parts = given_part ∷ qs } } in r ∷ l) more,
  refl,
)
book-whole false copying e given part given_part is new ps qs rs ws same more none = (
  ap (λ (p : List ℕ). let r : Request = record { number = new; booking = record { stamp = given; parts = p ∷ ps } } in r ∷ rs) (sym is)
      ∙ ap (λ (l : List (List ℕ)). let r : Request = record { number = new; booking = record { stamp = given; parts = given_part ∷ l } } in r ∷ rs) (none (sym e))
      ∙ ap (λ (l : List Request). let r : Request = record { number = new; booking = record { stamp = given; parts = given_part ∷ [] } } in r ∷ l) more,
  sym (none (sym e)) ∙ same,
)

-- a stretch in which no part is added before its next request, where it asked what it was told and that fits
pub adds-none : {T : Type 0} (came : ℕ → List RawMessage) (at : Option ℕ) (n : ℕ) (d : Dialogue T) (bs : List (Result Request Error)) (qs : List (Result (Asked DeskCall Reply) Error)) (ps : List (Result Addition Error)) →
    AreFitting (granted qs) → (run came at n d bs qs ps).asked ≡ granted qs → AddsNone d → (run came at n d bs qs ps).parts [] ≡ []
adds-none came at n (Answer r) bs qs ps fit e h = refl
adds-none came at n (Ask copying part d) [] qs ps fit e h = refl
adds-none came at n (Ask copying part d) (Ok r ∷ bs) qs ps fit e h = refl
adds-none came at n (Ask copying part d) (Err x ∷ bs) qs ps fit e h = refl
adds-none came at n (Send part refused d) [] qs ps fit e h = refl
adds-none came at n (Send part refused d) (Ok r ∷ bs) qs ps fit e h = adds-none came at n d bs qs ps fit e h.1
adds-none came at n (Send part refused d) (Err x ∷ bs) qs ps fit e h = adds-none came at n (refused x) bs qs ps fit e (h.0 x)
adds-none came at n (Leave id d) bs qs ps fit e h = adds-none came at n d bs qs ps fit e h
adds-none {T} came at n (Read cleanup decides next) bs qs ps fit asks h =
    by (decided_after decides xs) refl (λ k e none. adds-none came at (n + k) (next (take k xs)) bs qs ps fit e none) asks
  where
    xs : List RawMessage
    xs = drop n (of_request came at)

    chosen : Option ℕ → Ran T
    chosen o = elim o [ None ↦ stays at n (Read cleanup decides next) | Some k ↦ run came at (n + k) (next (take k (drop n (of_request came at)))) bs qs ps ]

    by : (o : Option ℕ) → decided_after decides xs ≡ o → ((k : ℕ) → (run came at (n + k) (next (take k xs)) bs qs ps).asked ≡ granted qs → AddsNone (next (take k xs)) → (run came at (n + k) (next (take k xs)) bs qs ps).parts [] ≡ []) →
        (chosen o).asked ≡ granted qs → (chosen o).parts [] ≡ []
    by None e f asks = refl
    by (Some k) e f asks = f k asks
        (h (take k xs) (front-decides decides xs k e ∙ ap (λ (x : ℕ). Some x) (sym (length-take-le k xs (still-decides decides xs [] k e).within))))
adds-none came at n (Put cleanup part d) bs qs ps fit e h = absurd h
adds-none came at n (Finish part d) bs qs ps fit e h = absurd h
adds-none came at n (Close part d) bs qs ps fit e h = absurd h
adds-none came at n (HangUp d) bs qs ps fit e h = adds-none came at n d bs qs ps fit e h
adds-none came at n (Call q refused next) bs [] ps fit e h = refl
adds-none came at n (Call q refused next) bs (Ok a ∷ qs) ps fit e h =
    let k = first-asked q a (run came at n (next a.reply) bs qs ps).asked (granted qs) e fit.0 in
    adds-none came at n (next a.reply) bs qs ps fit.1 k.1 (h.1 a.reply k.0)
adds-none came at n (Call q refused next) bs (Err x ∷ qs) ps fit e h = adds-none came at n (refused x) bs qs ps fit e (h.0 x)
adds-none came at n (Hear next) bs qs ps fit e h = refl

ask-step : {T : Type 0} (came got : ℕ → List RawMessage) (at : Option ℕ) (n : ℕ) (copying : Bool) (part : List ℕ) (d : Dialogue T) → Shown came d → AddsTo copying d × IsTidy d →
    (id : ℕ) (stamp : Stamp) (e : Event) (ds : List Deed) (q : Dialogue T) (end : ℕ) → Leads (Ask copying part d) id (record { stamp = stamp; event = e } ∷ ds) q end →
    Serves came got (record { stamp = stamp; event = e } ∷ ds) →
    Comes came got (run came at n (Ask copying part d) (bookings_in (record { stamp = stamp; event = e } ∷ ds)) (answers_in (record { stamp = stamp; event = e } ∷ ds)) (additions_in (record { stamp = stamp; event = e } ∷ ds))) (record { stamp = stamp; event = e } ∷ ds) q end
ask-step {T} came got at n copying part d shown tidy id stamp (call.Book given given_part c (Ok new)) ds q end (mid, k, s, l) (new_one, serves) =
    let h = shown (λ j. got j ++ []) (Some new) 0 [] new ds q end tidy.1 refl (holds-new came got new new_one) (moved d mid new k ds q end s.3 s.4 l) serves in
    let r : Ran T = run came (Some new) 0 d (bookings_in ds) (answers_in ds) (additions_in ds) in
    let none : (copying ≡ false → r.parts [] ≡ []) = λ e. adds-none came (Some new) 0 d (bookings_in ds) (answers_in ds) (additions_in ds) (told-fitting ds) h.asked (subst (λ (b : Bool). AddsTo b d) e tidy.0) in
    let all = book-whole c copying s.2 given part given_part s.1 new (r.parts []) (parts_of ds) (r.whole []) (whole_in ds) h.parts h.whole none in
    record {
      requests = ap (λ (p : List ℕ). let x : Request = record { number = new; booking = record { stamp = given; parts = p ∷ [] } } in x ∷ r.requests) (sym s.1)
          ∙ ap (λ (rs : List Request). let x : Request = record { number = new; booking = record { stamp = given; parts = given_part ∷ [] } } in x ∷ rs) h.requests;
      copies = ap (λ (b : Bool). b ∷ r.copies) (sym s.2) ∙ ap (λ (l : List Bool). c ∷ l) h.copies;
      added = h.added;
      parts = all.1;
      whole = all.0;
      asked = h.asked;
      stands = move came got r _ (record { stamp = stamp; event = call.Book given given_part c (Ok new) }) ds q end refl refl refl h.stands;
    }
ask-step {T} came got at n copying part d shown tidy id stamp (call.Book given given_part c (Err f)) ds q end (mid, k, s, l) serves =
    let h = stays-answered (Err (of_fault f)) id ds q end (moved _ mid id k ds q end s.3 s.4 l) in
    let i = idle-at ds h.0 in
    record {
      requests = sym (ap granted i.books);
      copies = sym i.copies;
      added = sym (ap granted i.adds);
      parts = sym i.parts;
      whole = sym i.whole;
      asked = sym (ap granted i.tells);
      stands = λ ends. Gave (Err (of_fault f)) h.1 refl;
    }
ask-step came got at n copying part d shown tidy id stamp e ds q end l serves = absurd l.2

-- ---- a request that is hung up at once

leave-step : {T : Type 0} (came got : ℕ → List RawMessage) (at : Option ℕ) (n : ℕ) (left : List RawMessage) (sent : ℕ) (d : Dialogue T) → Shown came d → IsTidy d →
    (id : ℕ) → At at id d → Holds came got at n left → (stamp : Stamp) (e : Event) (ds : List Deed) (q : Dialogue T) (end : ℕ) → Leads (Leave sent (feed left d)) id (record { stamp = stamp; event = e } ∷ ds) q end →
    Serves came got (record { stamp = stamp; event = e } ∷ ds) →
    Comes came got (run came at n d (bookings_in (record { stamp = stamp; event = e } ∷ ds)) (answers_in (record { stamp = stamp; event = e } ∷ ds)) (additions_in (record { stamp = stamp; event = e } ∷ ds))) (record { stamp = stamp; event = e } ∷ ds) q end
leave-step {T} came got at n left sent d shown tidy id here holds stamp (call.HangUp which (Ok x)) ds q end (mid, k, s, l) (u, serves) =
    quietly came got at n d (record { stamp = stamp; event = call.HangUp which (Ok x) }) ds q end (quiet-hang stamp which (Ok x))
    (shown (λ j. got j ++ []) at n left id ds q end tidy here (holds-still came got (call.HangUp which (Ok x)) at n left (λ j. refl) holds) (moved (feed left d) mid id k ds q end s.1 s.2 l) serves)
leave-step came got at n left sent d shown tidy id here holds stamp (call.HangUp which (Err f)) ds q end (mid, k, s, l) serves =
    refused-here came got at n d (record { stamp = stamp; event = call.HangUp which (Err f) }) ds q id end (Err (of_fault f)) (quiet-hang stamp which (Err f)) refl refl (moved _ mid id k ds q end s.1 s.2 l)
leave-step came got at n left sent d shown tidy id here holds stamp e ds q end l serves = absurd l.2

left-so : {T : Type 0} (came got : ℕ → List RawMessage) (at : Option ℕ) (n : ℕ) (left : List RawMessage) (sent : ℕ) (d : Dialogue T) → Shown came d → IsTidy d →
    (id : ℕ) → At at id d → Holds came got at n left → (ds : List Deed) (q : Dialogue T) (end : ℕ) → Leads (Leave sent (feed left d)) id ds q end → Serves came got ds →
    Comes came got (run came at n d (bookings_in ds) (answers_in ds) (additions_in ds)) ds q end
left-so came got at n left sent d shown tidy id here holds [] q end l serves = ends-not came got at n d (Leave sent (feed left d)) q end l.0 (λ h. h) (λ h. h) (λ r e. cc)
left-so came got at n left sent d shown tidy id here holds (a ∷ ds) q end l serves = leave-step came got at n left sent d shown tidy id here holds a.stamp a.event ds q end l serves

-- a request that is sent is no copy
send-whole : (c : Bool) → c ≡ false → (given : Stamp) (part given_part : List ℕ) → given_part ≡ part → (new : ℕ) (ps : List (List ℕ)) (rs ws : List Request) → rs ≡ ws →
    (let r : Request = record { number = new; booking = record { stamp = given; parts = part ∷ [] } } in r ∷ rs ≡ whole_with (call.Book given given_part c (Ok new)) ps ws)
    × (ps ≡ parts_with (call.Book given given_part c (Ok new)) ps)
send-whole true e given part given_part is new ps rs ws more = absurd cc
send-whole false e given part given_part is new ps rs ws more = (
  ap (λ (p : List ℕ). let r : Request = record { number = new; booking = record { stamp = given; parts = p ∷ [] } } in r ∷ rs) (sym is)
      ∙ ap (λ (l : List Request). let r : Request = record { number = new; booking = record { stamp = given; parts = given_part ∷ [] } } in r ∷ l) more,
  refl,
)

send-step : {T : Type 0} (came got : ℕ → List RawMessage) (at : Option ℕ) (n : ℕ) (left : List RawMessage) (part : List ℕ) (refused : Error → Dialogue T) (d : Dialogue T) → ((e : Error) → Shown came (refused e)) → Shown came d →
    ((e : Error) → IsTidy (refused e)) × IsTidy d → (id : ℕ) → ((e : Error) → At at id (refused e)) → At at id d → Holds came got at n left → (stamp : Stamp) (e : Event) (ds : List Deed) (q : Dialogue T) (end : ℕ) →
    Leads (Send part (λ x. feed left (refused x)) (feed left d)) id (record { stamp = stamp; event = e } ∷ ds) q end →
    Serves came got (record { stamp = stamp; event = e } ∷ ds) →
    Comes came got (run came at n (Send part refused d) (bookings_in (record { stamp = stamp; event = e } ∷ ds)) (answers_in (record { stamp = stamp; event = e } ∷ ds)) (additions_in (record { stamp = stamp; event = e } ∷ ds))) (record { stamp = stamp; event = e } ∷ ds) q end
send-step {T} came got at n left part refused d denied shown tidy id there here holds stamp (call.Book given given_part c (Ok new)) ds q end (mid, k, s, l) (u, serves) =
    let h = left-so came (λ j. got j ++ []) at n left new d shown tidy.1 id here (holds-still came got (call.Book given given_part c (Ok new)) at n left (λ j. refl) holds) ds q end (moved _ mid id k ds q end s.3 s.4 l) serves in
    let r : Ran T = run came at n d (bookings_in ds) (answers_in ds) (additions_in ds) in
    let all = send-whole c s.2 given part given_part s.1 new (parts_of ds) (r.whole []) (whole_in ds) h.whole in
    record {
      requests = ap (λ (p : List ℕ). let x : Request = record { number = new; booking = record { stamp = given; parts = p ∷ [] } } in x ∷ r.requests) (sym s.1)
          ∙ ap (λ (rs : List Request). let x : Request = record { number = new; booking = record { stamp = given; parts = given_part ∷ [] } } in x ∷ rs) h.requests;
      copies = ap (λ (b : Bool). b ∷ r.copies) (sym s.2) ∙ ap (λ (l : List Bool). c ∷ l) h.copies;
      added = h.added;
      parts = h.parts ∙ all.1;
      whole = all.0;
      asked = h.asked;
      stands = move came got (run came at n d (bookings_in ds) (answers_in ds) (additions_in ds)) _ (record { stamp = stamp; event = call.Book given given_part c (Ok new) }) ds q end refl refl refl h.stands;
    }
send-step {T} came got at n left part refused d denied shown tidy id there here holds stamp (call.Book given given_part c (Err f)) ds q end (mid, k, s, l) (u, serves) =
    let h = denied (of_fault f) (λ j. got j ++ []) at n left id ds q end (tidy.0 (of_fault f)) (there (of_fault f)) (holds-still came got (call.Book given given_part c (Err f)) at n left (λ j. refl) holds) (moved _ mid id k ds q end s.3 s.4 l) serves in
    record {
      requests = h.requests;
      copies = h.copies;
      added = h.added;
      parts = h.parts;
      whole = h.whole;
      asked = h.asked;
      stands = move came got (run came at n (refused (of_fault f)) (bookings_in ds) (answers_in ds) (additions_in ds)) _ (record { stamp = stamp; event = call.Book given given_part c (Err f) }) ds q end refl refl refl h.stands;
    }
send-step came got at n left part refused d denied shown tidy id there here holds stamp e ds q end l serves = absurd l.2

-- ---- hanging up

-- where a walk is settled, it comes to the same as one that leads there too
comes-there : {T : Type 0} (came got : ℕ → List RawMessage) (s : Ran T) (ds : List Deed) (q there : Dialogue T) (end : ℕ) → (IsSettled q → q ≡ there) → Comes came got s ds there end → Comes came got s ds q end
comes-there {T} came got s ds q there end same h = record { requests = h.requests; copies = h.copies; added = h.added; parts = h.parts; whole = h.whole; asked = h.asked; stands = by }
  where
    back : q ≡ there → Ends came got ds there end → Stands came got s ds q end
    back e ends = subst (λ (x : Dialogue T). Stands came got s ds x end) (sym e) (h.stands ends)

    by : Ends came got ds q end → Stands came got s ds q end
    by (Answered r is) = let e = same (inr (r, is)) in back e (Answered r (sym e ∙ is))
    by (Waits reads all) = let e = same (inl (inl reads)) in back e (Waits (subst IsRead e reads) all)
    by (HoldsBack puts) = let e = same (inl (inr puts)) in back e (HoldsBack (subst IsPut e puts))

hang-step : {T : Type 0} (came got : ℕ → List RawMessage) (at : Option ℕ) (n : ℕ) (left : List RawMessage) (d : Dialogue T) → Shown came d → IsTidy d → ReadsNothing d →
    (id : ℕ) → At at id d → Holds came got at n left → (stamp : Stamp) (e : Event) (ds : List Deed) (q : Dialogue T) (end : ℕ) → Leads (HangUp d) id (record { stamp = stamp; event = e } ∷ ds) q end →
    Serves came got (record { stamp = stamp; event = e } ∷ ds) →
    Comes came got (run came at n d (bookings_in (record { stamp = stamp; event = e } ∷ ds)) (answers_in (record { stamp = stamp; event = e } ∷ ds)) (additions_in (record { stamp = stamp; event = e } ∷ ds))) (record { stamp = stamp; event = e } ∷ ds) q end
hang-step {T} came got at n left d shown tidy nothing id here holds stamp (call.HangUp which (Ok x)) ds q end (mid, k, s, l) (served, serves) =
    let u = unread left d id ds q end nothing (moved d mid id k ds q end s.1 s.2 l) in
    quietly came got at n d (record { stamp = stamp; event = call.HangUp which (Ok x) }) ds q end (quiet-hang stamp which (Ok x))
    (comes-there came (λ j. got j ++ []) (run came at n d (bookings_in ds) (answers_in ds) (additions_in ds)) ds q u.there end u.same
    (shown (λ j. got j ++ []) at n left id ds u.there end tidy here (holds-still came got (call.HangUp which (Ok x)) at n left (λ j. refl) holds) u.leads serves))
hang-step came got at n left d shown tidy nothing id here holds stamp (call.HangUp which (Err f)) ds q end (mid, k, s, l) serves =
    refused-here came got at n d (record { stamp = stamp; event = call.HangUp which (Err f) }) ds q id end (Err (of_fault f)) (quiet-hang stamp which (Err f)) refl refl (moved _ mid id k ds q end s.1 s.2 l)
hang-step came got at n left d shown tidy nothing id here holds stamp e ds q end l serves = absurd l.2

-- ---- a question

call-step : {T : Type 0} (came got : ℕ → List RawMessage) (at : Option ℕ) (n : ℕ) (left : List RawMessage) (ask : DeskCall) (refused : Error → Dialogue T) (next : Reply → Dialogue T) →
    ((e : Error) → Shown came (refused e)) → ((r : Reply) → Shown came (next r)) → ((e : Error) → IsTidy (refused e)) × ((r : Reply) → fits ask r ≡ true → IsTidy (next r)) →
    (id : ℕ) → ((e : Error) → At at id (refused e)) → ((r : Reply) → fits ask r ≡ true → At at id (next r)) → Holds came got at n left → (a : Deed) (ds : List Deed) (q : Dialogue T) (end : ℕ) →
    Leads (Call ask (λ e. feed left (refused e)) (λ r. feed left (next r))) id (a ∷ ds) q end → Serves came got (a ∷ ds) →
    Comes came got (run came at n (Call ask refused next) (bookings_in (a ∷ ds)) (answers_in (a ∷ ds)) (additions_in (a ∷ ds))) (a ∷ ds) q end
call-step {T} came got at n left ask refused next denied shown tidy id there here holds a ds q end (mid, k, (Ok r, told, is, same), l) (u, serves) =
    let h = hears ask a.stamp a.event r told in
    let fit = told-fits ask a.event r told in
    let w = shown r (λ j. got j ++ taken_from j a.event) at n left id ds q end (tidy.1 r fit) (here r fit) (holds-still came got a.event at n left h.takes holds) (moved (feed left (next r)) mid id k ds q end is same l) serves in
    let one : Asked DeskCall Reply = record { stamp = a.stamp; question = ask; reply = r } in
    let rs : bookings_in (a ∷ ds) ≡ bookings_in ds = ap (λ (x : List (Result Request Error)). x ++ bookings_in ds) h.books in
    let qs : answers_in (a ∷ ds) ≡ Ok one ∷ answers_in ds = ap (λ (x : List (Result (Asked DeskCall Reply) Error)). x ++ answers_in ds) h.told in
    let ps : additions_in (a ∷ ds) ≡ additions_in ds = ap (λ (x : List (Result Addition Error)). x ++ additions_in ds) h.adds in
    let t = run came at n (next r) (bookings_in ds) (answers_in ds) (additions_in ds) in
    let so : run came at n (Call ask refused next) (bookings_in (a ∷ ds)) (answers_in (a ∷ ds)) (additions_in (a ∷ ds)) ≡ ask_first one t =
    ap (λ (x : List (Result Request Error)). run came at n (Call ask refused next) x (answers_in (a ∷ ds)) (additions_in (a ∷ ds))) rs
    ∙ ap (λ (x : List (Result (Asked DeskCall Reply) Error)). run came at n (Call ask refused next) (bookings_in ds) x (additions_in (a ∷ ds))) qs ∙ ap (run came at n (Call ask refused next) (bookings_in ds) (Ok one ∷ answers_in ds)) ps in
    record {
      requests = ap (λ (s : Ran T). s.requests) so ∙ w.requests ∙ sym (ap granted rs);
      copies = ap (λ (s : Ran T). s.copies) so ∙ w.copies ∙ sym (ap (λ (x : List Bool). x ++ copies_in ds) h.copies);
      added = ap (λ (s : Ran T). s.added) so ∙ w.added ∙ sym (ap granted ps);
      parts = ap (λ (s : Ran T). s.parts []) so ∙ w.parts ∙ sym (h.parts (parts_of ds));
      whole = ap (λ (s : Ran T). s.whole []) so ∙ w.whole ∙ sym (h.whole (parts_of ds) (whole_in ds));
      asked = ap (λ (s : Ran T). s.asked) so ∙ ap (λ (x : List (Asked DeskCall Reply)). one ∷ x) w.asked ∙ sym (ap granted qs);
      stands = move came got t (run came at n (Call ask refused next) (bookings_in (a ∷ ds)) (answers_in (a ∷ ds)) (additions_in (a ∷ ds))) a ds q end
          (ap (λ (s : Ran T). s.at) so) (ap (λ (s : Ran T). s.read) so) (ap (λ (s : Ran T). s.left) so) w.stands;
    }
call-step {T} came got at n left ask refused next denied shown tidy id there here holds a ds q end (mid, k, (Err f, told, is, same), l) (u, serves) =
    let h = refuses-so ask a.stamp a.event f told in
    let e = of_fault f in
    let w = denied e (λ j. got j ++ taken_from j a.event) at n left id ds q end (tidy.0 e) (there e) (holds-still came got a.event at n left h.takes holds) (moved (feed left (refused e)) mid id k ds q end is same l) serves in
    let rs : bookings_in (a ∷ ds) ≡ bookings_in ds = ap (λ (x : List (Result Request Error)). x ++ bookings_in ds) h.books in
    let qs : answers_in (a ∷ ds) ≡ Err e ∷ answers_in ds = ap (λ (x : List (Result (Asked DeskCall Reply) Error)). x ++ answers_in ds) h.told in
    let ps : additions_in (a ∷ ds) ≡ additions_in ds = ap (λ (x : List (Result Addition Error)). x ++ additions_in ds) h.adds in
    let t = run came at n (refused e) (bookings_in ds) (answers_in ds) (additions_in ds) in
    let so : run came at n (Call ask refused next) (bookings_in (a ∷ ds)) (answers_in (a ∷ ds)) (additions_in (a ∷ ds)) ≡ t =
    ap (λ (x : List (Result Request Error)). run came at n (Call ask refused next) x (answers_in (a ∷ ds)) (additions_in (a ∷ ds))) rs
    ∙ ap (λ (x : List (Result (Asked DeskCall Reply) Error)). run came at n (Call ask refused next) (bookings_in ds) x (additions_in (a ∷ ds))) qs ∙ ap (run came at n (Call ask refused next) (bookings_in ds) (Err e ∷ answers_in ds)) ps in
    record {
      requests = ap (λ (s : Ran T). s.requests) so ∙ w.requests ∙ sym (ap granted rs);
      copies = ap (λ (s : Ran T). s.copies) so ∙ w.copies ∙ sym (ap (λ (x : List Bool). x ++ copies_in ds) h.copies);
      added = ap (λ (s : Ran T). s.added) so ∙ w.added ∙ sym (ap granted ps);
      parts = ap (λ (s : Ran T). s.parts []) so ∙ w.parts ∙ sym (h.parts (parts_of ds));
      whole = ap (λ (s : Ran T). s.whole []) so ∙ w.whole ∙ sym (h.whole (parts_of ds) (whole_in ds));
      asked = ap (λ (s : Ran T). s.asked) so ∙ w.asked ∙ sym (ap granted qs);
      stands = move came got t (run came at n (Call ask refused next) (bookings_in (a ∷ ds)) (answers_in (a ∷ ds)) (additions_in (a ∷ ds))) a ds q end
          (ap (λ (s : Ran T). s.at) so) (ap (λ (s : Ran T). s.read) so) (ap (λ (s : Ran T). s.left) so) w.stands;
    }

-- ---- reading

abbrev chosen : {T : Type 0} → (ℕ → List RawMessage) → (k n : ℕ) → List Cleanup → (List RawMessage → Bool) → (List RawMessage → Dialogue T) → List (Result Request Error) → List (Result (Asked DeskCall Reply) Error) → List (Result Addition Error) → Option ℕ → Ran T
chosen came k n cleanup decides next rs qs ps None = stays (Some k) n (Read cleanup decides next)
chosen came k n cleanup decides next rs qs ps (Some j) = run came (Some k) (n + j) (next (take j (drop n (came k)))) rs qs ps

module _ {T : Type 0} (came : ℕ → List RawMessage) (k n : ℕ) (cleanup : List Cleanup) (decides : List RawMessage → Bool) (next : List RawMessage → Dialogue T) (id : ℕ) (same : k ≡ id) (q : Dialogue T) (end : ℕ)
    (tidy : IsTidy (Read cleanup decides next)) (shown : (ms : List RawMessage) → Shown came (next ms)) where
  abbrev Read-comes : (got : ℕ → List RawMessage) → List Deed → Type 0
  Read-comes got ds = Comes came got (run came (Some k) n (Read cleanup decides next) (bookings_in ds) (answers_in ds) (additions_in ds)) ds q end

  -- those that are left decide
  decides-now : (got : ℕ → List RawMessage) (left : List RawMessage) (ds : List Deed) (j : ℕ) → decided_after decides left ≡ Some j → Holds came got (Some k) n left →
      Leads (feed left (Read cleanup decides next)) id ds q end → Serves came got ds → Read-comes got ds
  decides-now got left ds j e holds l serves =
      let still = still-decides decides left holds.more j e in
      let alone : decided_after decides (take j left) ≡ Some (length (take j left)) = front-decides decides left j e ∙ ap (λ (x : ℕ). Some x) (sym (length-take-le j left still.within)) in
      let unread : drop n (came k) ≡ left ++ holds.more = unread-is came got (Some k) n left holds in
      let decided : decided_after decides (drop n (came k)) ≡ Some j = ap (decided_after decides) unread ∙ still.still in
      let front : take j (drop n (came k)) ≡ take j left = ap (take j) unread ∙ take-append-le j left holds.more still.within in
      let w = shown (take j left) got (Some k) (n + j) (drop j left) id ds q end (tidy (take j left) alone) same (holds-read came got (Some k) n j left still.within holds)
      (subst (λ (x : Dialogue T). Leads x id ds q end) (fed cleanup decides next left ∙ ap (read_so cleanup decides next left) e) l) serves in
      subst (λ (o : Option ℕ). Comes came got (chosen came k n cleanup decides next (bookings_in ds) (answers_in ds) (additions_in ds) o) ds q end) (sym decided)
      (subst (λ (ms : List RawMessage). Comes came got (run came (Some k) (n + j) (next ms) (bookings_in ds) (answers_in ds) (additions_in ds)) ds q end) (sym front) w)

  -- one event where those that are left decide nothing
  read-step : (got : ℕ → List RawMessage) (left : List RawMessage) (ds : List Deed) → decided_after decides left ≡ None → Holds came got (Some k) n left → (stamp : Stamp) (e : Event) →
      ((got' : ℕ → List RawMessage) (left' : List RawMessage) → Holds came got' (Some k) n left' → Leads (feed left' (Read cleanup decides next)) id ds q end → Serves came got' ds → Read-comes got' ds) →
      Leads (Read cleanup (λ later. decides (left ++ later)) (λ later. next (left ++ later))) id (record { stamp = stamp; event = e } ∷ ds) q end → Serves came got (record { stamp = stamp; event = e } ∷ ds) →
      Read-comes got (record { stamp = stamp; event = e } ∷ ds)
  read-step got left ds none holds stamp (call.Take which (Ok (taking.Batch ms))) ih (mid, m, s, l) (served, serves) =
      let read : feed left (Read cleanup decides next) ≡ Read cleanup (λ later. decides (left ++ later)) (λ later. next (left ++ later)) = fed cleanup decides next left ∙ ap (read_so cleanup decides next left) none in
      quietly came got (Some k) n (Read cleanup decides next) (record { stamp = stamp; event = call.Take which (Ok (taking.Batch ms)) }) ds q end (quiet-take stamp which (Ok (taking.Batch ms)))
      (ih (λ j. got j ++ taken_from j (call.Take which (Ok (taking.Batch ms)))) (left ++ ms) (holds-more came got k which n left ms (same ∙ sym s.0) served holds)
      (moved (feed (left ++ ms) (Read cleanup decides next)) mid id m ds q end (s.1 ∙ ap (feed ms) (sym read) ∙ sym (feed-joined left ms (Read cleanup decides next))) s.2 l) serves)
  read-step got left ds none holds stamp (call.Take which (Ok taking.Empty)) ih (mid, m, s, l) (served, serves) =
      let read : feed left (Read cleanup decides next) ≡ Read cleanup (λ later. decides (left ++ later)) (λ later. next (left ++ later)) = fed cleanup decides next left ∙ ap (read_so cleanup decides next left) none in
      quietly came got (Some k) n (Read cleanup decides next) (record { stamp = stamp; event = call.Take which (Ok taking.Empty) }) ds q end (quiet-take stamp which (Ok taking.Empty))
      (ih (λ j. got j ++ []) left (holds-still came got (call.Take which (Ok taking.Empty)) (Some k) n left (λ j. refl) holds) (moved (feed left (Read cleanup decides next)) mid id m ds q end (s.1 ∙ sym read) s.2 l) serves)
  read-step got left ds none holds stamp (call.Take which (Ok taking.Over)) ih (mid, m, s, l) serves =
      refused-here came got (Some k) n (Read cleanup decides next) (record { stamp = stamp; event = call.Take which (Ok taking.Over) }) ds q id end (Err Closed) (quiet-take stamp which (Ok taking.Over)) refl refl (moved _ mid id m ds q end s.1 s.2 l)
  read-step got left ds none holds stamp (call.Take which (Ok taking.Gone)) ih (mid, m, s, l) serves =
      gone-here came got (Some k) n (Read cleanup decides next) stamp which id s.0 ds q end (moved _ mid id m ds q end s.1 s.2 l)
  read-step got left ds none holds stamp (call.Take which (Err f)) ih (mid, m, s, l) serves =
      refused-here came got (Some k) n (Read cleanup decides next) (record { stamp = stamp; event = call.Take which (Err f) }) ds q id end (Err (of_fault f)) (quiet-take stamp which (Err f)) refl refl (moved _ mid id m ds q end s.1 s.2 l)
  read-step got left ds none holds stamp e ih l serves = absurd l.2

  -- where it ends there
  read-ends : (got : ℕ → List RawMessage) (left : List RawMessage) → decided_after decides left ≡ None → Holds came got (Some k) n left → Leads (feed left (Read cleanup decides next)) id [] q end → Read-comes got []
  read-ends got left none holds l = idle-comes came got _ [] q end (nothing-more came (Some k) n (Read cleanup decides next)) idle-none by
    where
      is : q ≡ Read cleanup (λ later. decides (left ++ later)) (λ later. next (left ++ later))
      is = l.0 ∙ fed cleanup decides next left ∙ ap (read_so cleanup decides next left) none

      by : Ends came got [] q end → Stands came got (run came (Some k) n (Read cleanup decides next) [] [] []) [] q end
      by (Answered r e) = absurd (let no_way : Read cleanup (λ later. decides (left ++ later)) (λ later. next (left ++ later)) ≡ Answer r = sym is ∙ e in cc)
      by (HoldsBack puts) = absurd (subst IsPut is puts)
      by (Waits reads all) =
          let here : end ≡ k = l.1 ∙ sym same in
          let whole : got k ≡ came k = subst (λ (x : ℕ). got x ≡ came x) here all in
          let took : got k ≡ holds.read ++ left = holds.took in
          let unread : drop n (came k) ≡ left = ap (drop n) (sym whole ∙ took) ∙ drop_at holds.read left n holds.count in
          let still : drop n (got k) ≡ left = ap (drop n) took ∙ drop_at holds.read left n holds.count in
          let size : length (got k) ≡ length holds.read + length left = ap length took ∙ length-append holds.read left in
          let count : length holds.read ≡ n = holds.count in
          let le : n ≤ length (got k) = omega (arith, size, count) in
          let decided : decided_after decides (drop n (came k)) ≡ None = ap (decided_after decides) unread ∙ none in
          subst (λ (o : Option ℕ). Stands came got (chosen came k n cleanup decides next [] [] [] o) [] q end) (sym decided)
          (subst (λ (x : ℕ). Stands came got (stays (Some k) n (Read cleanup decides next)) [] q x) (sym here)
          (Rests refl (inl reads) (inl tt) tidy le (l.0 ∙ ap (λ (ms : List RawMessage). feed ms (Read cleanup decides next)) (sym still))))

  reads-on : (ds : List Deed) (got : ℕ → List RawMessage) (left : List RawMessage) → Holds came got (Some k) n left → Leads (feed left (Read cleanup decides next)) id ds q end → Serves came got ds → Read-comes got ds
  reads-on [] got left holds l serves = by (decided_after decides left) refl
    where
      by : (o : Option ℕ) → decided_after decides left ≡ o → Read-comes got []
      by None e = read-ends got left e holds l
      by (Some j) e = decides-now got left [] j e holds l serves
  reads-on (a ∷ ds) got left holds l serves = by (decided_after decides left) refl (reads-on ds)
    where
      by : (o : Option ℕ) → decided_after decides left ≡ o →
          ((got' : ℕ → List RawMessage) (left' : List RawMessage) → Holds came got' (Some k) n left' → Leads (feed left' (Read cleanup decides next)) id ds q end → Serves came got' ds → Read-comes got' ds) → Read-comes got (a ∷ ds)
      by None e ih = read-step got left ds e holds a.stamp a.event ih
          (subst (λ (x : Dialogue T). Leads x id (a ∷ ds) q end) (fed cleanup decides next left ∙ ap (read_so cleanup decides next left) e) l) serves
      by (Some j) e ih = decides-now got left (a ∷ ds) j e holds l serves

-- ---- parts of a copy

module _ {T : Type 0} (came : ℕ → List RawMessage) (k n : ℕ) (part : List ℕ) (d : Dialogue T) (id : ℕ) (same : k ≡ id) (q : Dialogue T) (end : ℕ) (tidy : IsTidy d) (shown : Shown came d) where
  -- a part that was added
  added-one : (got : ℕ → List RawMessage) (left : List RawMessage) → Holds came got (Some k) n left → (a : Deed) (which : ℕ) (given : List ℕ) → which ≡ id → given ≡ part → (ds : List Deed) →
      bookings_in (a ∷ ds) ≡ bookings_in ds → copies_in (a ∷ ds) ≡ copies_in ds → answers_in (a ∷ ds) ≡ answers_in ds → added_in (a ∷ ds) ≡ record { request = which; part = given } ∷ added_in ds →
      parts_of (a ∷ ds) ≡ given ∷ parts_of ds → whole_in (a ∷ ds) ≡ whole_in ds → ((j : ℕ) → taken_from j a.event ≡ []) →
      Leads (feed left d) id ds q end → Serves came (λ j. got j ++ taken_from j a.event) ds →
      Comes came got (add_first k part (run came (Some k) n d (bookings_in ds) (answers_in ds) (additions_in ds))) (a ∷ ds) q end
  added-one got left holds a which given is is_part ds no_books no_copies no_tells adds parts whole none l serves =
      let h = shown (λ j. got j ++ taken_from j a.event) (Some k) n left id ds q end tidy same (holds-still came got a.event (Some k) n left none holds) l serves in
      let r : Ran T = run came (Some k) n d (bookings_in ds) (answers_in ds) (additions_in ds) in
      record {
        requests = h.requests ∙ sym (ap granted no_books);
        copies = h.copies ∙ sym no_copies;
        added = ap (λ (j : ℕ). let x : Addition = record { request = j; part = part } in x ∷ r.added) (same ∙ sym is)
            ∙ ap (λ (p : List ℕ). let x : Addition = record { request = which; part = p } in x ∷ r.added) (sym is_part)
            ∙ ap (λ (l : List Addition). let x : Addition = record { request = which; part = given } in x ∷ l) h.added ∙ sym adds;
        parts = ap (λ (p : List ℕ). p ∷ r.parts []) (sym is_part) ∙ ap (λ (l : List (List ℕ)). given ∷ l) h.parts ∙ sym parts;
        whole = h.whole ∙ sym whole;
        asked = h.asked ∙ sym (ap granted no_tells);
        stands = move came got r (add_first k part r) a ds q end refl refl refl h.stands;
      }

  -- a copy that is gone
  gone-so : (got : ℕ → List RawMessage) (a : Deed) (ds : List Deed) (s : Ran T) → Idle s → s.left ≡ Answer (Err Closed) → bookings_in (a ∷ ds) ≡ bookings_in ds → copies_in (a ∷ ds) ≡ copies_in ds → answers_in (a ∷ ds) ≡ answers_in ds → added_in (a ∷ ds) ≡ added_in ds →
      parts_of (a ∷ ds) ≡ parts_of ds → whole_in (a ∷ ds) ≡ whole_in ds → Leads (HangUp (Answer (Err Closed))) id ds q end → Comes came got s (a ∷ ds) q end
  gone-so got a ds s idle left no_books no_copies no_tells no_adds no_parts no_whole l =
      let h = hung-so Closed id ds q end l in
      record {
        requests = idle.requests ∙ sym (ap granted (no_books ∙ h.idle.books));
        copies = idle.copies ∙ sym (no_copies ∙ h.idle.copies);
        added = idle.added ∙ sym (no_adds ∙ ap granted h.idle.adds);
        parts = idle.parts ∙ sym (no_parts ∙ h.idle.parts);
        whole = idle.whole ∙ sym (no_whole ∙ h.idle.whole);
        asked = idle.asked ∙ sym (ap granted (no_tells ∙ h.idle.tells));
        stands = move came got s s a ds q end refl refl refl (λ ends. h.stands came (λ j. got j ++ taken_from j a.event) s left ends);
      }

  -- memory lacked for it
  lacked-so : (got : ℕ → List RawMessage) (a : Deed) (ds : List Deed) (s : Ran T) → Idle s → s.left ≡ Answer (Err OutOfMemory) → bookings_in (a ∷ ds) ≡ bookings_in ds → copies_in (a ∷ ds) ≡ copies_in ds → answers_in (a ∷ ds) ≡ answers_in ds → added_in (a ∷ ds) ≡ added_in ds →
      parts_of (a ∷ ds) ≡ parts_of ds → whole_in (a ∷ ds) ≡ whole_in ds → Leads (Answer (Err OutOfMemory)) id ds q end → Comes came got s (a ∷ ds) q end
  lacked-so got a ds s idle left no_books no_copies no_tells no_adds no_parts no_whole l =
      let h = stays-answered (Err OutOfMemory) id ds q end l in
      let i = idle-at ds h.0 in
      record {
        requests = idle.requests ∙ sym (ap granted (no_books ∙ i.books));
        copies = idle.copies ∙ sym (no_copies ∙ i.copies);
        added = idle.added ∙ sym (no_adds ∙ ap granted i.adds);
        parts = idle.parts ∙ sym (no_parts ∙ i.parts);
        whole = idle.whole ∙ sym (no_whole ∙ i.whole);
        asked = idle.asked ∙ sym (ap granted (no_tells ∙ i.tells));
        stands = λ ends. Gave (Err OutOfMemory) h.1 left;
      }

  finish-step : (got : ℕ → List RawMessage) (left : List RawMessage) → Holds came got (Some k) n left → (stamp : Stamp) (e : Event) (ds : List Deed) → Leads (Finish part (feed left d)) id (record { stamp = stamp; event = e } ∷ ds) q end →
      Serves came got (record { stamp = stamp; event = e } ∷ ds) →
      Comes came got (run came (Some k) n (Finish part d) (bookings_in (record { stamp = stamp; event = e } ∷ ds)) (answers_in (record { stamp = stamp; event = e } ∷ ds)) (additions_in (record { stamp = stamp; event = e } ∷ ds))) (record { stamp = stamp; event = e } ∷ ds) q end
  finish-step got left holds stamp (call.EndCopy which given putting.Took) ds (mid, m, s, l) serves =
      added-one got left holds (record { stamp = stamp; event = call.EndCopy which given putting.Took }) which given s.0 s.1 ds refl refl refl refl refl refl (λ j. refl) (moved (feed left d) mid id m ds q end s.2 s.3 l) serves.1
  finish-step got left holds stamp (call.EndCopy which given (putting.Gone back)) ds (mid, m, s, l) serves =
      gone-so got (record { stamp = stamp; event = call.EndCopy which given (putting.Gone back) }) ds _ (idle-stays (Some k) n (Answer (Err Closed))) refl refl refl refl refl refl refl (moved _ mid id m ds q end s.2 s.3 l)
  finish-step got left holds stamp (call.EndCopy which given (putting.OutOfMemory back)) ds (mid, m, s, l) serves =
      lacked-so got (record { stamp = stamp; event = call.EndCopy which given (putting.OutOfMemory back) }) ds _ (idle-stays (Some k) n (Answer (Err OutOfMemory))) refl refl refl refl refl refl refl (moved _ mid id m ds q end s.2 s.3 l)
  finish-step got left holds stamp e ds l serves = absurd l.2

  close-step : (got : ℕ → List RawMessage) (left : List RawMessage) → Holds came got (Some k) n left → (stamp : Stamp) (e : Event) (ds : List Deed) → Leads (Close part (feed left d)) id (record { stamp = stamp; event = e } ∷ ds) q end →
      Serves came got (record { stamp = stamp; event = e } ∷ ds) →
      Comes came got (run came (Some k) n (Close part d) (bookings_in (record { stamp = stamp; event = e } ∷ ds)) (answers_in (record { stamp = stamp; event = e } ∷ ds)) (additions_in (record { stamp = stamp; event = e } ∷ ds))) (record { stamp = stamp; event = e } ∷ ds) q end
  close-step got left holds stamp (call.EndCopy which given putting.Took) ds (mid, m, s, l) serves =
      added-one got left holds (record { stamp = stamp; event = call.EndCopy which given putting.Took }) which given s.0 s.1 ds refl refl refl refl refl refl (λ j. refl) (moved (feed left d) mid id m ds q end s.2 s.3 l) serves.1
  close-step got left holds stamp (call.EndCopy which given (putting.Gone back)) ds (mid, m, s, l) serves =
      let h = shown (λ j. got j ++ []) (Some k) n left id ds q end tidy same (holds-still came got (call.EndCopy which given (putting.Gone back)) (Some k) n left (λ j. refl) holds) (moved (feed left d) mid id m ds q end s.2 s.3 l) serves.1 in
      let r : Ran T = run came (Some k) n d (bookings_in ds) (answers_in ds) (additions_in ds) in
      record {
        requests = h.requests;
        copies = h.copies;
        added = h.added;
        parts = h.parts;
        whole = h.whole;
        asked = h.asked;
        stands = move came got r r (record { stamp = stamp; event = call.EndCopy which given (putting.Gone back) }) ds q end refl refl refl h.stands;
      }
  close-step got left holds stamp (call.EndCopy which given (putting.OutOfMemory back)) ds (mid, m, s, l) serves =
      lacked-so got (record { stamp = stamp; event = call.EndCopy which given (putting.OutOfMemory back) }) ds _ (idle-stays (Some k) n (Answer (Err OutOfMemory))) refl refl refl refl refl refl refl (moved _ mid id m ds q end s.2 s.3 l)
  close-step got left holds stamp e ds l serves = absurd l.2

module _ {T : Type 0} (came : ℕ → List RawMessage) (k n : ℕ) (cleanup : List Cleanup) (part : List ℕ) (d : Dialogue T) (id : ℕ) (same : k ≡ id) (q : Dialogue T) (end : ℕ) (tidy : IsTidy d) (shown : Shown came d) where
  abbrev Put-comes : (got : ℕ → List RawMessage) → List Deed → Type 0
  Put-comes got ds = Comes came got (run came (Some k) n (Put cleanup part d) (bookings_in ds) (answers_in ds) (additions_in ds)) ds q end

  put-step : (got : ℕ → List RawMessage) (left : List RawMessage) → Holds came got (Some k) n left → (stamp : Stamp) (e : Event) (ds : List Deed) →
      ((got' : ℕ → List RawMessage) → Holds came got' (Some k) n left → Leads (Put cleanup part (feed left d)) id ds q end → Serves came got' ds → Put-comes got' ds) →
      Leads (Put cleanup part (feed left d)) id (record { stamp = stamp; event = e } ∷ ds) q end →
      Serves came got (record { stamp = stamp; event = e } ∷ ds) → Put-comes got (record { stamp = stamp; event = e } ∷ ds)
  put-step got left holds stamp (call.Put which given putting.Took) ds ih (mid, m, s, l) serves =
      added-one came k n part d id same q end tidy shown got left holds (record { stamp = stamp; event = call.Put which given putting.Took }) which given s.0 s.1 ds refl refl refl refl refl refl (λ j. refl) (moved (feed left d) mid id m ds q end s.2 s.3 l) serves.1
  put-step got left holds stamp (call.Put which given (putting.Full back)) ds ih (mid, m, s, l) serves =
      quietly came got (Some k) n (Put cleanup part d) (record { stamp = stamp; event = call.Put which given (putting.Full back) }) ds q end (record { books = refl; copies = refl; tells = refl; adds = refl; parts = λ ps. refl; whole = λ ps rs. refl })
      (ih (λ j. got j ++ []) (holds-still came got (call.Put which given (putting.Full back)) (Some k) n left (λ j. refl) holds) (moved (Put cleanup part (feed left d)) mid id m ds q end s.2 s.3 l) serves.1)
  put-step got left holds stamp (call.Put which given (putting.Gone back)) ds ih (mid, m, s, l) serves =
      gone-so came k n part d id same q end tidy shown got (record { stamp = stamp; event = call.Put which given (putting.Gone back) }) ds _ (idle-stays (Some k) n (Answer (Err Closed))) refl refl refl refl refl refl refl (moved _ mid id m ds q end s.2 s.3 l)
  put-step got left holds stamp (call.Put which given (putting.OutOfMemory back)) ds ih (mid, m, s, l) serves =
      lacked-so came k n part d id same q end tidy shown got (record { stamp = stamp; event = call.Put which given (putting.OutOfMemory back) }) ds _ (idle-stays (Some k) n (Answer (Err OutOfMemory))) refl refl refl refl refl refl refl (moved _ mid id m ds q end s.2 s.3 l)
  put-step got left holds stamp e ds ih l serves = absurd l.2

  puts-on : (ds : List Deed) (got : ℕ → List RawMessage) (left : List RawMessage) → Holds came got (Some k) n left → Leads (Put cleanup part (feed left d)) id ds q end → Serves came got ds → Put-comes got ds
  puts-on [] got left holds l serves = idle-comes came got _ [] q end (idle-stays (Some k) n (Put cleanup part d)) idle-none by
    where
      by : Ends came got [] q end → Stands came got (stays (Some k) n (Put cleanup part d)) [] q end
      by (Answered r e) = absurd (let no_way : Put cleanup part (feed left d) ≡ Answer r = sym l.0 ∙ e in cc)
      by (Waits reads all) = absurd (subst IsRead l.0 reads)
      by (HoldsBack puts) =
          let here : end ≡ k = l.1 ∙ sym same in
          let took : got k ≡ holds.read ++ left = holds.took in
          let still : drop n (got k) ≡ left = ap (drop n) took ∙ drop_at holds.read left n holds.count in
          let size : length (got k) ≡ length holds.read + length left = ap length took ∙ length-append holds.read left in
          let count : length holds.read ≡ n = holds.count in
          let le : n ≤ length (got k) = omega (arith, size, count) in
          subst (λ (x : ℕ). Stands came got (stays (Some k) n (Put cleanup part d)) [] q x) (sym here)
          (Rests refl (inr puts) (inr tt) tidy le (l.0 ∙ sym (feed-put left cleanup part d) ∙ ap (λ (ms : List RawMessage). feed ms (Put cleanup part d)) (sym still)))
  puts-on (a ∷ ds) got left holds l serves = put-step got left holds a.stamp a.event ds (λ got' holds' l' serves'. puts-on ds got' left holds' l' serves') l serves

-- ---- all

pub shown : {T : Type 0} (came : ℕ → List RawMessage) (d : Dialogue T) → Shown came d
shown came (Answer r) got at n left id [] q end tidy here holds l serves = idle-comes came got _ [] q end (idle-stays at n (Answer r)) idle-none (λ e. Gave r (l.0 ∙ feed-answer left r) refl)
shown {T} came (Answer r) got at n left id (a ∷ ds) q end tidy here holds l serves = absurd (subst (λ (x : Dialogue T). Leads x id (a ∷ ds) q end) (feed-answer left r) l).2
shown came (Ask copying part d) got at n left id [] q end tidy here holds l serves = ends-not came got at n (Ask copying part d) (Ask copying part d) q end (l.0 ∙ feed-ask left copying part d) (λ h. h) (λ h. h) (λ r e. cc)
shown {T} came (Ask copying part d) got at n left id (a ∷ ds) q end tidy here holds l serves =
    ask-step came got at n copying part d (shown came d) tidy id a.stamp a.event ds q end (subst (λ (x : Dialogue T). Leads x id (a ∷ ds) q end) (feed-ask left copying part d) l) serves
shown came (Send part refused d) got at n left id [] q end tidy here holds l serves = ends-not came got at n (Send part refused d) (Send part (λ e. feed left (refused e)) (feed left d)) q end (l.0 ∙ feed-send left part refused d) (λ h. h) (λ h. h) (λ r e. cc)
shown {T} came (Send part refused d) got None n left id (a ∷ ds) q end tidy here holds l serves =
    send-step came got None n left part refused d (λ e. shown came (refused e)) (shown came d) tidy id here.0 here.1 holds a.stamp a.event ds q end (subst (λ (x : Dialogue T). Leads x id (a ∷ ds) q end) (feed-send left part refused d) l) serves
shown {T} came (Send part refused d) got (Some k) n left id (a ∷ ds) q end tidy here holds l serves =
    send-step came got (Some k) n left part refused d (λ e. shown came (refused e)) (shown came d) tidy id (λ e. here) here holds a.stamp a.event ds q end (subst (λ (x : Dialogue T). Leads x id (a ∷ ds) q end) (feed-send left part refused d) l) serves
shown {T} came (Leave sent d) got None n left id ds q end tidy here holds l serves =
    left-so came got None n left sent d (shown came d) tidy id here holds ds q end (subst (λ (x : Dialogue T). Leads x id ds q end) (feed-leave left sent d) l) serves
shown {T} came (Leave sent d) got (Some k) n left id ds q end tidy here holds l serves =
    left-so came got (Some k) n left sent d (shown came d) tidy id here holds ds q end (subst (λ (x : Dialogue T). Leads x id ds q end) (feed-leave left sent d) l) serves
shown came (Read cleanup decides next) got None n left id ds q end tidy here holds l serves = absurd here
shown came (Read cleanup decides next) got (Some k) n left id ds q end tidy here holds l serves =
    reads-on came k n cleanup decides next id here q end tidy (λ ms. shown came (next ms)) ds got left holds l serves
shown came (Put cleanup part d) got None n left id ds q end tidy here holds l serves = absurd here
shown {T} came (Put cleanup part d) got (Some k) n left id ds q end tidy here holds l serves =
    puts-on came k n cleanup part d id here q end tidy (shown came d) ds got left holds (subst (λ (x : Dialogue T). Leads x id ds q end) (feed-put left cleanup part d) l) serves
shown came (Finish part d) got None n left id ds q end tidy here holds l serves = absurd here
shown came (Finish part d) got (Some k) n left id [] q end tidy here holds l serves =
    ends-not came got (Some k) n (Finish part d) (Finish part (feed left d)) q end (l.0 ∙ feed-finish left part d) (λ h. h) (λ h. h) (λ r e. cc)
shown {T} came (Finish part d) got (Some k) n left id (a ∷ ds) q end tidy here holds l serves =
    finish-step came k n part d id here q end tidy (shown came d) got left holds a.stamp a.event ds (subst (λ (x : Dialogue T). Leads x id (a ∷ ds) q end) (feed-finish left part d) l) serves
shown came (Close part d) got None n left id ds q end tidy here holds l serves = absurd here
shown came (Close part d) got (Some k) n left id [] q end tidy here holds l serves =
    ends-not came got (Some k) n (Close part d) (Close part (feed left d)) q end (l.0 ∙ feed-close left part d) (λ h. h) (λ h. h) (λ r e. cc)
shown {T} came (Close part d) got (Some k) n left id (a ∷ ds) q end tidy here holds l serves =
    close-step came k n part d id here q end tidy (shown came d) got left holds a.stamp a.event ds (subst (λ (x : Dialogue T). Leads x id (a ∷ ds) q end) (feed-close left part d) l) serves
shown came (HangUp d) got None n left id ds q end tidy here holds l serves = absurd here
shown came (HangUp d) got (Some k) n left id [] q end tidy here holds l serves = ends-not came got (Some k) n d (HangUp d) q end (l.0 ∙ feed-hang-up left d) (λ h. h) (λ h. h) (λ r e. cc)
shown {T} came (HangUp d) got (Some k) n left id (a ∷ ds) q end tidy here holds l serves =
    hang-step came got (Some k) n left d (shown came d) tidy.1 tidy.0 id here holds a.stamp a.event ds q end (subst (λ (x : Dialogue T). Leads x id (a ∷ ds) q end) (feed-hang-up left d) l) serves
shown came (Call ask refused next) got at n left id [] q end tidy here holds l serves = ends-not came got at n (Call ask refused next) (Call ask (λ e. feed left (refused e)) (λ r. feed left (next r))) q end (l.0 ∙ feed-call left ask refused next) (λ h. h) (λ h. h) (λ r e. cc)
shown {T} came (Call ask refused next) got None n left id (a ∷ ds) q end tidy here holds l serves =
    call-step came got None n left ask refused next (λ e. shown came (refused e)) (λ r. shown came (next r)) tidy id here.0 here.1 holds a ds q end
    (subst (λ (x : Dialogue T). Leads x id (a ∷ ds) q end) (feed-call left ask refused next) l) serves
shown {T} came (Call ask refused next) got (Some k) n left id (a ∷ ds) q end tidy here holds l serves =
    call-step came got (Some k) n left ask refused next (λ e. shown came (refused e)) (λ r. shown came (next r)) tidy id (λ e. here) (λ r fit. here) holds a ds q end
    (subst (λ (x : Dialogue T). Leads x id (a ∷ ds) q end) (feed-call left ask refused next) l) serves
shown came (Hear next) got at n left id [] q end tidy here holds l serves = ends-not came got at n (Hear next) (Hear (λ r. feed left (next r))) q end (l.0 ∙ feed-hear left next) (λ h. h) (λ h. h) (λ r e. cc)
shown {T} came (Hear next) got at n left id (a ∷ ds) q end tidy here holds l serves = absurd (subst (λ (x : Dialogue T). Leads x id (a ∷ ds) q end) (feed-hear left next) l).2

pub comes : {T : Type 0} (came got : ℕ → List RawMessage) (at : Option ℕ) (n : ℕ) (left : List RawMessage) (d : Dialogue T) (id : ℕ) (ds : List Deed) (q : Dialogue T) (end : ℕ) →
    IsTidy d → At at id d → Holds came got at n left → Leads (feed left d) id ds q end → Serves came got ds → Comes came got (run came at n d (bookings_in ds) (answers_in ds) (additions_in ds)) ds q end
comes came got at n left d id ds q end tidy here holds l serves = shown came d got at n left id ds q end tidy here holds l serves
