-- What is booked for simple queries is one Query each.
use Rattle.std.proofs.Common.{◌≡◌, ℕ, zero, suc, ◌<◌, Bool, true, false, cond, ◌==◌, ◌&&◌, List, [], ◌∷◌, ◌++◌, Option, Some, None, Result, Ok, Err, refl, sym, ap, ◌∙◌, subst, append_assoc, arith, inl, length}
use Rattle.std.specs.Prelude.{IsSome, IsTrue, All, map, filter, slice_get}
use Rattle.std.specs.List.{AllByRecursion, concat}
use Rattle.std.specs.Str.{byte}
use Rattle.std.proofs.lemmas.Bool.{eq-eqb}
use Rattle.std.proofs.lemmas.List.{length-append}
use Rattle.std.proofs.lemmas.List.Elements.{All-head, All-tail, filter-append}
use Rattle.std.proofs.lemmas.Option.{slice_get_within}
use Rattle.pg_promises.specs.EndedWell.{HasRun, own_requests}
use Rattle.pg_spec.specs.Book.{Booking, is_of}
use Rattle.pg_spec.specs.Faults.{FrameFault}
use Rattle.pg_spec.specs.Frames.{query_frame}
use Rattle.pg_spec.specs.RawMessages.{RawMessage, message_bytes, messages, bytes_left}
use Rattle.pg_spec.specs.Report.{Command, Simple, Report}
use Rattle.pg_spec.specs.Turns.{Times, entry_at}
use Rattle.pg_spec.proofs.MessageLaws.{message_at_front, messages-front}
use Rattle.pg_wire.proofs.Cuts.{left_of_one}
use Rattle.pg_machine.specs.Serving.{Service, Serving, served}
use Rattle.pg_machine.specs.Requests.{OnlyCopiesOpen, opens_copy}
use Rattle.pg_machine.specs.Sessions.{AreRequests, begun, frames_of}
use Rattle.pg_table.proofs.Queries.{IsQuery, a-query}
use Rattle.pg_served.specs.OneAtATime.{AsksInRequests}

-- ---- a command of a script has its times

some-at : {X : Type 0} (xs : List X) (j : ℕ) → j < length xs → (x : X) × (slice_get xs j ≡ Some x)
some-at [] j lt = absurd (omega (arith, lt))
some-at (x ∷ xs) zero lt = (x, refl)
some-at (x ∷ xs) (suc j) lt = some-at xs j (omega (arith, lt))

pub some-times : (scripts : List (List Command)) (schedule : List (List Times)) → map length schedule ≡ map length scripts → (i j : ℕ) (command : Command) →
    entry_at scripts i j ≡ Some command → (times : Times) × (entry_at schedule i j ≡ Some times)
some-times [] schedule same i j command at = absurd cc
some-times (script ∷ scripts) [] same i j command at = absurd cc
some-times (script ∷ scripts) (row ∷ rows) same zero j command at =
    let long : length row ≡ length script = cc in
    some-at row j (omega (arith, long, slice_get_within script j command at))
some-times (script ∷ scripts) (row ∷ rows) same (suc i) j command at =
    let rest : map length rows ≡ map length scripts = cc in
    some-times scripts rows rest i j command at

-- ---- each booking is a Query

-- its only part is one
pub record AsksQuery (b : Booking) : Type 0 where
  pub frame : List ℕ
  pub parts : b.parts ≡ frame ∷ []
  pub query : IsQuery frame

by-recursion : {X : Type 0} (P : X → Type 0) (xs : List X) → All P xs → AllByRecursion P xs
by-recursion P [] all = tt
by-recursion P (x ∷ xs) all = (All-head P x xs all, by-recursion P xs (All-tail P x xs all))

-- it is one of the requests of a command
among : (handle place : ℕ) (command : Command) (times : Times) (b : Booking) (front rest : List Booking) → front ++ b ∷ rest ≡ own_requests handle place command times → AsksQuery b
among handle place (Simple text take) times b front rest e = by_frame (query_frame text) refl e
  where
    only : Booking → List (List ℕ)
    only x = x.parts

    alone : (front rest : List Booking) (x : Booking) → front ++ b ∷ rest ≡ x ∷ [] → b ≡ x
    alone [] rest x e = cc
    alone (y ∷ front) rest x e = absurd (omega (arith, ap length e, length-append front (b ∷ rest)))

    by_frame : (found : Result (List ℕ) FrameFault) → query_frame text ≡ found →
        front ++ b ∷ rest ≡ elim found [
          | Ok frame ↦ record { stamp = record { owner = handle; command = place; turn = times.begins }; parts = frame ∷ [] } ∷ []
          | Err fault ↦ []
        ] → AsksQuery b
    by_frame (Ok frame) is e = record {
      frame = frame;
      parts = ap (λ (x : Booking). x.parts) (alone front rest (record { stamp = record { owner = handle; command = place; turn = times.begins }; parts = frame ∷ [] }) e);
      query = a-query text frame is;
    }
    by_frame (Err fault) is e = absurd (omega (arith, ap length e, length-append front (b ∷ rest)))

pub ask-queries : (scripts : List (List Command)) (turns : List ℕ) (report : Report) (schedule : List (List Times)) → HasRun scripts turns report schedule → AllByRecursion AsksQuery report.book
ask-queries scripts turns report schedule ran =
    each [] report.book refl (by-recursion (λ (b : Booking). IsSome (entry_at scripts b.stamp.owner b.stamp.command)) report.book ran.no_other)
  where
    by_entry : (front : List Booking) (b : Booking) (rest : List Booking) → front ++ b ∷ rest ≡ report.book → (o : Option Command) → entry_at scripts b.stamp.owner b.stamp.command ≡ o → IsSome o → AsksQuery b
    by_entry front b rest is None at some = absurd cc
    by_entry front b rest is (Some command) at some =
        let p : Booking → Bool = is_of b.stamp.owner b.stamp.command in
        let times = some-times scripts schedule ran.one_time_each b.stamp.owner b.stamp.command command at in
        let own = ran.own_request b.stamp.owner b.stamp.command command times.0 at times.1 in
        let passes : p b ≡ true
        = ap (λ (x : Bool). x && (b.stamp.command == b.stamp.command)) (eq-eqb b.stamp.owner b.stamp.owner refl) ∙ eq-eqb b.stamp.command b.stamp.command refl in
        let kept : filter p (front ++ b ∷ rest) ≡ filter p front ++ b ∷ filter p rest
        = filter-append p front (b ∷ rest) ∙ ap (λ (x : Bool). filter p front ++ cond x (b ∷ filter p rest) (filter p rest)) passes in
        among b.stamp.owner b.stamp.command command times.0 b (filter p front) (filter p rest) (sym kept ∙ ap (filter p) is ∙ own)

    each : (front rest : List Booking) → front ++ rest ≡ report.book → AllByRecursion (λ (b : Booking). IsSome (entry_at scripts b.stamp.owner b.stamp.command)) rest → AllByRecursion AsksQuery rest
    each front [] is all = tt
    each front (b ∷ rest) is all =
        (by_entry front b rest is (entry_at scripts b.stamp.owner b.stamp.command) refl all.0, each (front ++ b ∷ []) rest (append_assoc front (b ∷ []) rest ∙ is) all.1)

-- ---- a Query is a request, and opens no copy

-- the frames of such a booking
pub record IsOneQuery (b : Booking) : Type 0 where
  pub body : List ℕ
  pub whole : bytes_left (concat b.parts) ≡ []
  pub frames : frames_of b ≡ record { tag = byte "Q"; body = body } ∷ []

pub one-query : (b : Booking) → AsksQuery b → IsOneQuery b
one-query b asks =
    let q = asks.query in
    let m : RawMessage = record { tag = byte "Q"; body = q.body } in
    let bytes : concat b.parts ≡ message_bytes m ++ [] = ap concat asks.parts ∙ ap (λ (x : List ℕ). x ++ []) q.is in
    record {
      body = q.body;
      whole = ap bytes_left bytes ∙ left_of_one (message_bytes m ++ []) m [] (message_at_front m [] q.fits);
      frames = ap messages bytes ∙ messages-front m [] q.fits;
    }

are-requests : (book : List Booking) → AllByRecursion AsksQuery book → AreRequests book
are-requests [] all = tt
are-requests (b ∷ book) all =
    let one = one-query b all.0 in
    ((one.whole, inl (record { frame = record { tag = byte "Q"; body = one.body }; is = one.frames; query = refl })), are-requests book all.1)

only-copies : {S : Type 0} (service : Service S) (state : S) (book : List Booking) → AllByRecursion AsksQuery book → OnlyCopiesOpen service (begun state) (map frames_of book)
only-copies service state [] all = tt
only-copies {S = S} service state (b ∷ book) all =
    let one = one-query b all.0 in
    let query : RawMessage = record { tag = byte "Q"; body = one.body } in
    let none : opens_copy service (begun state) (frames_of b) ≡ false = ap (opens_copy service (begun state)) one.frames in
    let next : (served service (begun state) (frames_of b)).next ≡ begun (served service (begun state) (query ∷ [])).next.state
    = ap (λ (fs : List RawMessage). (served service (begun state) fs).next) one.frames in (
      λ opens. absurd (false-true (opens_copy service (begun state) (frames_of b)) none opens),
      subst (λ (at : Serving S). OnlyCopiesOpen service at (map frames_of book)) (sym next) (only-copies service (served service (begun state) (query ∷ [])).next.state book all.1),
    )
  where
    false-true : (x : Bool) → x ≡ false → IsTrue x → ⊥
    false-true true e f = absurd cc
    false-true false e f = absurd cc

-- what simple queries book are requests, and they open no copy
pub queries-asked : {S : Type 0} (service : Service S) (begins : S) (book : List Booking) → AllByRecursion AsksQuery book → AsksInRequests service begins book
queries-asked service begins book all = record { requests = are-requests book all; only_copies_open = only-copies service begins book all }
