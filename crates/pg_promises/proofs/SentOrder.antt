-- What was sent in a session of simple queries alone.
use Rattle.std.proofs.Common.{◌≡◌, ℕ, suc, ◌+◌, ◌<◌, ◌≤◌, arith, List, [], ◌∷◌, ◌++◌, length, map, Bool, true, false, cond, ◌&&◌, ◌==◌, Option, Some, None, is_some, Result, Ok, Err, inl, inr, refl, sym, ap, ◌∙◌, subst, append_assoc, append-nil, slice_get, get_or, take, drop}
use Rattle.std.specs.Prelude.{IsSome, filter, filter_map, nat_le}
use Rattle.std.specs.List.{concat, cons_option, AllByRecursion, list_all}
use Rattle.std.specs.List.Sorted.{IsNonDecreasingBy}
use Rattle.std.specs.Option.{option_and_then}
use Rattle.std.proofs.lemmas.Bool.Decides.{nat_tests}
use Rattle.std.proofs.lemmas.List.{map-append}
use Rattle.std.proofs.lemmas.List.Elements.{All-from_recursion, recursion_from_All}
use Rattle.std.proofs.lemmas.Option.{slice_get_within}
use Rattle.pg_spec.specs.Courses.{Course, Met, Outcome, Request, met_in, nothing_yet, numbered, outcome, outcome_of, past_reply, first_reply, questions_of, requests_of}
use Rattle.pg_spec.specs.Dialogues.{Dialogue, Answers, behind, decided_after}
use Rattle.pg_spec.specs.Meanings.{Ending, Meaning}
use Rattle.pg_spec.specs.Simples.{AreSimple, asks_by, reads_unless, told_or}
use Rattle.pg_promises.proofs.Begun.{one-begun}
use Rattle.pg_promises.specs.FailedLanded.{call_of}
use Rattle.pg_promises.specs.Sent.{AreBegun, AskedInOrder, InScriptOrder, SentInOrder, are_ended, goodbye, is_ended, outcome_in, parts_of}
use Rattle.pg_promises.specs.Landed.{simply}
use Rattle.pg_promises.specs.Causes as landed
use Rattle.pg_promises.specs.Promises as simple
use Rattle.pg_promises.specs.Promises.{IsFront, request_frame}
use Rattle.pg_spec.specs.Book.{Booking, is_of, wire}
use Rattle.pg_spec.specs.Faults.{FrameFault}
use Rattle.pg_spec.specs.Frames.{query_frame, terminate_frame}
use Rattle.pg_spec.specs.RawMessages.{RawMessage}
use Rattle.pg_spec.specs.Report.{Answer, Command, Simple, simple_answer}
use Rattle.pg_spec.specs.Settings.{Settings}
use Rattle.pg_spec.specs.SimpleQuery.{SimpleAnswer, simple_reading}
use Rattle.pg_spec.specs.Turns.{entry_at}

-- ---- the requests that come of a simple query

-- one of a frame, or none
abbrev pub one_of : Result (List ℕ) FrameFault → List (List (List ℕ))
one_of (Ok frame) = (frame ∷ []) ∷ []
one_of (Err fault) = []

abbrev AsksNoMore : {Q A : Type 0} → Outcome Q A → Type 0
AsksNoMore o = (o.parts ≡ []) × (o.requests ≡ [])

module _ (Q R A : Type 0) (wanted : Option ℕ) (next : SimpleAnswer → A) where
  abbrev reading : Option SimpleAnswer → Dialogue Q R A
  reading r = behind (reads_unless wanted r) (λ a. Answers (next a))

  -- a reading asks nothing
  no-more : (r : Option SimpleAnswer) (met : Met R) (left : List RawMessage) → AsksNoMore (outcome (reading r) met left)
  no-more (Some a) met left = (refl, refl)
  no-more None met left = by (decided_after (λ ms. is_some (simple_reading wanted ms)) left)
    where
      by : (o : Option ℕ) → AsksNoMore (elim o as (λ _. Outcome Q A) [
        | None ↦ nothing_yet
        | Some n ↦ outcome {Q = Q} {R = R} (Answers (next (told_or (simple_reading wanted (take n left))))) met (drop n left)
      ])
      by None = (refl, refl)
      by (Some n) = (refl, refl)

  -- so what comes of a simple query is its one request, where its text isn't refused
  its-requests : (f : Result (List ℕ) FrameFault) (met : Met R) → (outcome_of {Q = Q} {R = R} {A = A} (behind (asks_by wanted f) (λ a. Answers (next a))) met).requests ≡ one_of f
  its-requests (Err fault) met = refl
  its-requests (Ok frame) met =
      let none = no-more (simple_reading wanted []) (past_reply met) (first_reply met.replies) in
      ap (λ (ps : List (List ℕ)). (frame ∷ ps) ∷ (outcome (reading (simple_reading wanted [])) (past_reply met) (first_reply met.replies)).requests) none.0
      ∙ ap (λ (rs : List (List (List ℕ))). (frame ∷ []) ∷ rs) none.1

module _ {E Q R : Type 0} (meaning : Meaning Command Answer E Q R) (are : AreSimple meaning simply) where
  -- what comes of a command of a session
  asks-one : (course : Course Q R) (handle place : ℕ) (own : E) (text : List ℕ) (wanted : Option ℕ) → (outcome_in meaning course handle place own (Simple text wanted)).requests ≡ one_of (query_frame text)
  asks-one course handle place own text wanted =
      ap (λ (d : Dialogue Q R (Ending Answer E)). (outcome_of d (met_in course (requests_of course.book handle place) (questions_of course.asked handle place))).requests)
      (are own (Simple text wanted) text wanted refl)
      ∙ its-requests Q R (Ending Answer E) wanted (λ a. record { answer = simple_answer a; own = own }) (query_frame text)
      (met_in course (requests_of course.book handle place) (questions_of course.asked handle place))

-- ---- the requests of a handle, by the commands of its script

-- of this command, and of those from one on
abbrev of_command : ℕ → List Booking → List Booking
of_command p bs = filter (λ b. b.stamp.command == p) bs

abbrev from_command : ℕ → List Booking → List Booking
from_command p bs = filter (λ b. nat_le p b.stamp.command) bs

abbrev parts : List Booking → List (List (List ℕ))
parts bs = map (λ b. b.parts) bs

-- each is of no earlier command than the one before it
abbrev Rises : ℕ → List Booking → Type 0
Rises p [] = Unit {0}
Rises p (b ∷ bs) = (p ≤ b.stamp.command) × Rises b.stamp.command bs

rises : (p : ℕ) (bs : List Booking) → ((d : Booking) → 0 < length bs → p ≤ (get_or bs 0 d).stamp.command) → IsNonDecreasingBy (λ b. b.stamp.command) bs → Rises p bs
rises p [] low sorted = tt
rises p (b ∷ bs) low sorted = (low b (omega arith), rises b.stamp.command bs (λ d lt. sorted 0 1 d (omega arith) (omega (arith, lt))) (λ i j d le lt. sorted (suc i) (suc j) d (omega (arith, le)) (omega (arith, lt))))

-- none of an earlier command stands behind a later one
none-of : (p n : ℕ) (bs : List Booking) → Rises n bs → p < n → of_command p bs ≡ []
none-of p n [] h lt = refl
none-of p n (b ∷ bs) h lt =
    let le = h.0 in
    let no : (b.stamp.command == p) ≡ false = grind (arith, nat_tests, le, lt) in
    ap (λ (t : Bool). cond t (b ∷ of_command p bs) (of_command p bs)) no ∙ none-of p b.stamp.command bs h.1 (omega (arith, le, lt))

-- those from one on are its own, and those from the next on
split : (p n : ℕ) (bs : List Booking) → Rises n bs → from_command p bs ≡ of_command p bs ++ from_command (p + 1) bs
split p n [] h = refl
split p n (b ∷ bs) h = by (nat_le p b.stamp.command) (b.stamp.command == p) (nat_le (p + 1) b.stamp.command) refl refl refl (split p b.stamp.command bs h.1)
  where
    Splits : Bool → Bool → Bool → Type 0
    Splits x y z = cond x (b ∷ from_command p bs) (from_command p bs) ≡ cond y (b ∷ of_command p bs) (of_command p bs) ++ cond z (b ∷ from_command (p + 1) bs) (from_command (p + 1) bs)

    by : (x y z : Bool) → nat_le p b.stamp.command ≡ x → (b.stamp.command == p) ≡ y → nat_le (p + 1) b.stamp.command ≡ z → from_command p bs ≡ of_command p bs ++ from_command (p + 1) bs → Splits x y z
    by true true false ex ey ez rest = ap (λ (l : List Booking). b ∷ l) rest
    by true false true ex ey ez rest =
        let none : of_command p bs ≡ [] = none-of p b.stamp.command bs h.1 (grind (arith, nat_tests)) in
        ap (λ (l : List Booking). b ∷ l) (rest ∙ ap (λ (l : List Booking). l ++ from_command (p + 1) bs) none)
        ∙ ap (λ (l : List Booking). l ++ b ∷ from_command (p + 1) bs) (sym none)
    by false false false ex ey ez rest = rest
    by true true true ex ey ez rest = absurd (grind (arith, nat_tests))
    by true false false ex ey ez rest = absurd (grind (arith, nat_tests))
    by false true z ex ey ez rest = absurd (grind (arith, nat_tests))
    by false false true ex ey ez rest = absurd (grind (arith, nat_tests))

-- ---- their numbers

-- the requests of a command, by the book
numbered-parts : (handle p n : ℕ) (book : List Booking) →
    map (λ r. r.booking.parts) (filter (λ r. is_of handle p r.booking) (numbered n book)) ≡ parts (of_command p (filter (λ b. b.stamp.owner == handle) book))
numbered-parts handle p n [] = refl
numbered-parts handle p n (b ∷ book) = by (b.stamp.owner == handle) (b.stamp.command == p) refl (numbered-parts handle p (n + 1) book)
  where
    by : (x y : Bool) → (b.stamp.command == p) ≡ y → map (λ r. r.booking.parts) (filter (λ r. is_of handle p r.booking) (numbered (n + 1) book)) ≡ parts (of_command p (filter (λ b. b.stamp.owner == handle) book)) →
        map (λ (r : Request). r.booking.parts) (cond (x && y) (record { number = n; booking = b } ∷ filter (λ r. is_of handle p r.booking) (numbered (n + 1) book)) (filter (λ r. is_of handle p r.booking) (numbered (n + 1) book)))
        ≡ parts (of_command p (cond x (b ∷ filter (λ b. b.stamp.owner == handle) book) (filter (λ b. b.stamp.owner == handle) book)))
    by false y e rest = rest
    by true true e rest =
        ap (λ (l : List (List (List ℕ))). b.parts ∷ l) rest
        ∙ ap (λ (t : Bool). parts (cond t (b ∷ of_command p (filter (λ b. b.stamp.owner == handle) book)) (of_command p (filter (λ b. b.stamp.owner == handle) book)))) (sym e)
    by true false e rest = rest ∙ ap (λ (t : Bool). parts (cond t (b ∷ of_command p (filter (λ b. b.stamp.owner == handle) book)) (of_command p (filter (λ b. b.stamp.owner == handle) book)))) (sym e)

-- where a command has none, none of its is there
none-of-parts : (p : ℕ) (bs : List Booking) → parts (of_command p bs) ≡ [] → of_command p bs ≡ []
none-of-parts p bs e = by (of_command p bs) e
  where
    by : (l : List Booking) → parts l ≡ [] → l ≡ []
    by [] e = refl
    by (b ∷ l) e = absurd (omega (arith, ap length e))

-- and where no later one has any, none of those
none-from : (p : ℕ) (bs : List Booking) → ((q : ℕ) → p ≤ q → of_command q bs ≡ []) → from_command p bs ≡ []
none-from p [] none = refl
none-from p (b ∷ bs) none = by (nat_le p b.stamp.command) refl (none-from p bs (λ q le. later q (none q le)))
  where
    later : (q : ℕ) → of_command q (b ∷ bs) ≡ [] → of_command q bs ≡ []
    later q e = less (b.stamp.command == q) e
      where
        less : (t : Bool) → cond t (b ∷ of_command q bs) (of_command q bs) ≡ [] → of_command q bs ≡ []
        less true e = absurd (omega (arith, ap length e))
        less false e = e

    by : (t : Bool) → nat_le p b.stamp.command ≡ t → from_command p bs ≡ [] → cond t (b ∷ from_command p bs) (from_command p bs) ≡ []
    by false e rest = rest
    by true e rest =
        let le : p ≤ b.stamp.command = grind (arith, nat_tests) in
        let same : (b.stamp.command == b.stamp.command) ≡ true = grind (arith, nat_tests) in
        let no : b ∷ of_command b.stamp.command bs ≡ [] = ap (λ (t : Bool). cond t (b ∷ of_command b.stamp.command bs) (of_command b.stamp.command bs)) (sym same) ∙ none b.stamp.command le in
        absurd (omega (arith, ap length no))

-- none is of a command that isn't there
none-past : (n : ℕ) (bs : List Booking) → AllByRecursion (λ b. b.stamp.command < n) bs → from_command n bs ≡ []
none-past n [] h = refl
none-past n (b ∷ bs) h =
    let lt = h.0 in
    let no : nat_le n b.stamp.command ≡ false = grind (arith, nat_tests, lt) in
    ap (λ (t : Bool). cond t (b ∷ from_command n bs) (from_command n bs)) no ∙ none-past n bs h.1

-- and all are of the first one on
all-from : (bs : List Booking) → from_command 0 bs ≡ bs
all-from [] = refl
all-from (b ∷ bs) =
    let all : nat_le 0 b.stamp.command ≡ true = grind (arith, nat_tests) in
    ap (λ (t : Bool). cond t (b ∷ from_command 0 bs) (from_command 0 bs)) all ∙ ap (λ (l : List Booking). b ∷ l) (all-from bs)

-- ---- the requests of a script

-- those that it asks
abbrev pub asked_by : List Command → List (List (List ℕ))
asked_by script = map (λ frame. frame ∷ []) (filter_map request_frame script)

-- that of its first command, and those of the others
asked-first : (text : List ℕ) (wanted : Option ℕ) (script : List Command) → asked_by (Simple text wanted ∷ script) ≡ one_of (query_frame text) ++ asked_by script
asked-first text wanted script = by (query_frame text)
  where
    by : (f : Result (List ℕ) FrameFault) →
        map (λ (frame : List ℕ). frame ∷ []) (cons_option (elim f as (λ _. Option (List ℕ)) [ Ok frame ↦ Some frame | Err fault ↦ None ]) (filter_map request_frame script)) ≡ one_of f ++ asked_by script
    by (Ok frame) = refl
    by (Err fault) = refl

-- what was booked of one request of one part is it, or nothing
first-of : (xs : List (List (List ℕ))) (f : Result (List ℕ) FrameFault) → AreBegun xs (one_of f) → (more : List (List (List ℕ))) × (xs ++ more ≡ one_of f)
first-of [] f h = (one_of f, refl)
first-of (x ∷ xs) (Err fault) h = absurd h
first-of (x ∷ []) (Ok frame) h = ([], ap (λ (y : List (List ℕ)). y ∷ []) (one-begun (are_ended x) x frame h.0))
first-of (x ∷ y ∷ xs) (Ok frame) h = absurd h.1

module _ {E Q R : Type 0} (meaning : Meaning Command Answer E Q R) (are : AreSimple meaning simply) (course : Course Q R) (handle : ℕ) (bs : List Booking)
    (is : (p : ℕ) → parts_of course handle p ≡ parts (of_command p bs)) (sorted : Rises 0 bs) where
  -- those of a command and of the later ones
  parts-split : (p : ℕ) → parts (from_command p bs) ≡ parts_of course handle p ++ parts (from_command (p + 1) bs)
  parts-split p =
      ap parts (split p 0 bs sorted) ∙ map-append (λ (b : Booking). b.parts) (of_command p bs) (from_command (p + 1) bs)
      ∙ ap (λ (l : List (List (List ℕ))). l ++ parts (from_command (p + 1) bs)) (sym (is p))

  pub script-order : (whole p : ℕ) (script : List Command) (own : E) → p + length script ≡ whole → AllByRecursion (λ b. b.stamp.command < whole) bs →
      AskedInOrder meaning course handle p own script → (later : List (List (List ℕ))) × (parts (from_command p bs) ++ later ≡ asked_by script)
  script-order whole p [] own size within h =
      let e : whole ≡ p = omega (arith, size) in
      ([], ap (λ (l : List Booking). parts l ++ []) (none-past p bs (subst (λ (n : ℕ). AllByRecursion (λ (b : Booking). b.stamp.command < n) bs) e within)))
  script-order whole p (Simple text wanted ∷ cs) own size within (inl way) =
      let none : from_command (p + 1) bs ≡ [] = none-from (p + 1) bs (λ q le.
      none-of-parts q bs (sym (is q) ∙ ap (λ (rs : List Request). map (λ (r : Request). r.booking.parts) rs) (way.none_later q (omega (arith, le))).0)) in
      let alone : parts (from_command p bs) ≡ parts_of course handle p =
      parts-split p ∙ ap (λ (l : List Booking). parts_of course handle p ++ parts l) none ∙ append-nil (parts_of course handle p) in
      let first = first-of (parts_of course handle p) (query_frame text)
      (subst (λ (all : List (List (List ℕ))). AreBegun (parts_of course handle p) all) (asks-one meaning are course handle p own text wanted) way.requests) in (
        first.0 ++ asked_by cs,
        ap (λ (l : List (List (List ℕ))). l ++ (first.0 ++ asked_by cs)) alone ∙ sym (append_assoc (parts_of course handle p) first.0 (asked_by cs))
            ∙ ap (λ (l : List (List (List ℕ))). l ++ asked_by cs) first.1 ∙ sym (asked-first text wanted cs),
      )
  script-order whole p (Simple text wanted ∷ cs) own size within (inr (ending, ended, rest)) =
      let later = script-order whole (p + 1) cs ending.own (omega (arith, size)) within rest in (
        later.0,
        ap (λ (l : List (List (List ℕ))). l ++ later.0) (parts-split p) ∙ append_assoc (parts_of course handle p) (parts (from_command (p + 1) bs)) later.0
            ∙ ap (λ (l : List (List (List ℕ))). parts_of course handle p ++ l) later.1
            ∙ ap (λ (l : List (List (List ℕ))). l ++ asked_by cs) (ended.requests ∙ asks-one meaning are course handle p own text wanted) ∙ sym (asked-first text wanted cs),
      )

-- ---- the requests of a session

-- each is of a handle that is there, and of a command of its script
abbrev HasOwner : List (List Command) → Booking → Type 0
HasOwner scripts b = IsSome (entry_at scripts b.stamp.owner b.stamp.command)

owner-within : (scripts : List (List Command)) (b : Booking) → HasOwner scripts b → b.stamp.owner < length scripts
owner-within scripts b h = by (slice_get scripts b.stamp.owner) refl h
  where
    by : (o : Option (List Command)) → slice_get scripts b.stamp.owner ≡ o → IsSome (option_and_then (λ (row : List Command). slice_get row b.stamp.command) o) → b.stamp.owner < length scripts
    by None e h = absurd cc
    by (Some script) e h = slice_get_within scripts b.stamp.owner script e

all-within : (scripts : List (List Command)) (book : List Booking) → AllByRecursion (HasOwner scripts) book → AllByRecursion (λ b. b.stamp.owner < length scripts) book
all-within scripts [] h = tt
all-within scripts (b ∷ book) h = (owner-within scripts b h.0, all-within scripts book h.1)

own-within : (scripts : List (List Command)) (handle : ℕ) (script : List Command) (book : List Booking) → slice_get scripts handle ≡ Some script → AllByRecursion (HasOwner scripts) book →
    AllByRecursion (λ b. b.stamp.command < length script) (filter (λ b. b.stamp.owner == handle) book)
own-within scripts handle script [] at h = tt
own-within scripts handle script (b ∷ book) at h = by (b.stamp.owner == handle) refl (own-within scripts handle script book at h.1)
  where
    within : (b.stamp.owner == handle) ≡ true → b.stamp.command < length script
    within e =
        let same : b.stamp.owner ≡ handle = grind (arith, nat_tests) in
        let entry : entry_at scripts b.stamp.owner b.stamp.command ≡ slice_get script b.stamp.command =
        ap (λ (n : ℕ). entry_at scripts n b.stamp.command) same ∙ ap (option_and_then (λ (row : List Command). slice_get row b.stamp.command)) at in
        some (slice_get script b.stamp.command) refl (subst (λ (o : Option Command). IsSome o) entry h.0)
      where
        some : (o : Option Command) → slice_get script b.stamp.command ≡ o → IsSome o → b.stamp.command < length script
        some None e h = absurd cc
        some (Some c) e h = slice_get_within script b.stamp.command c e

    by : (t : Bool) → (b.stamp.owner == handle) ≡ t → AllByRecursion (λ b. b.stamp.command < length script) (filter (λ b. b.stamp.owner == handle) book) →
        AllByRecursion (λ b. b.stamp.command < length script) (cond t (b ∷ filter (λ b. b.stamp.owner == handle) book) (filter (λ b. b.stamp.owner == handle) book))
    by true e rest = (within e, rest)
    by false e rest = rest

module _ {E Q R : Type 0} (meaning : Meaning Command Answer E Q R) (are : AreSimple meaning simply) where
  in-order : (scripts : List (List Command)) (course : Course Q R) → InScriptOrder meaning scripts course → simple.InScriptOrder scripts course.book
  in-order scripts course h handle script at =
      let bs : List Booking = filter (λ b. b.stamp.owner == handle) course.book in
      let sorted : Rises 0 bs = rises 0 bs (λ d lt. omega arith) (h.in_order handle) in
      let within = own-within scripts handle script course.book at (recursion_from_All (HasOwner scripts) course.book h.owners) in
      let own = script-order meaning are course handle bs (λ p. numbered-parts handle p 0 course.book) sorted (length script) 0 script meaning.begins (omega arith) within (h.each handle script at) in
      (own.0, ap (λ (l : List Booking). parts l ++ own.0) (sym (all-from bs)) ∙ own.1)

  -- behind them at most Terminate
  with-goodbye : (t front : List ℕ) (book : List Booking) → IsFront t (front ++ wire book ++ goodbye book) → IsFront t (front ++ wire book ++ terminate_frame)
  with-goodbye t front book (rest, e) = by (list_all is_ended book) e
    where
      by : (b : Bool) → t ++ rest ≡ front ++ wire book ++ cond b terminate_frame [] → IsFront t (front ++ wire book ++ terminate_frame)
      by true e = (rest, e)
      by false e = (
        rest ++ terminate_frame,
        sym (append_assoc t rest terminate_frame)
            ∙ ap (λ (l : List ℕ). l ++ terminate_frame) (e ∙ append-nil (front ++ wire book)),
      )

  pub sent : (call : landed.Call) (s : Settings) (g t : List ℕ) → SentInOrder meaning (call_of call) s g t → simple.SentInOrder call s g t
  sent call s g t h = record {
    book = h.book;
    owners = All-from_recursion (λ b. b.stamp.owner < length call.scripts) h.book (all-within call.scripts h.book (recursion_from_All (HasOwner call.scripts) h.book h.order.owners));
    order = in-order call.scripts _ h.order;
    front = elim h.front [
      | inl none ↦ inl none
      | inr (inl tls) ↦ inr (inl tls)
      | inr (inr (plain, inl front)) ↦ inr (inr (plain, inl front))
      | inr (inr (plain, inr w)) ↦ inr (inr (plain, inr (w.0, with-goodbye t (concat (landed.startup_after call s g).frames) h.book w.1)))
    ];
  }
