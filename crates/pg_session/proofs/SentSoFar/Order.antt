-- What a session booked and asked so far is what its scripts ask, in their order.
use Rattle.std.proofs.Common.{◌≡◌, ℕ, zero, suc, ◌+◌, ◌<◌, ◌≤◌, List, [], ◌∷◌, ◌++◌, length, map, drop, take, Bool, true, false, cond, ◌&&◌, ◌==◌, ◌⊎◌, inl, inr, Option, Some, None, refl, sym, ap, subst, ◌∙◌, arith, get_or, slice_get}
use Rattle.std.specs.Prelude.{All, IsSome, IsTrue, filter, option_map, unwrap_or}
use Rattle.std.specs.List.{AllByRecursion}
use Rattle.std.specs.List.Sorted.{IsNonDecreasingBy}
use Rattle.std.specs.Option.{option_and_then}
use Rattle.std.proofs.lemmas.Bool.{cases_lt}
use Rattle.std.proofs.lemmas.Bool.Decides.{nat_tests}
use Rattle.std.proofs.lemmas.List.Elements.{All-from_recursion, recursion_from_All}
use Rattle.std.proofs.lemmas.List.Kept.{IsNonDecreasingBy-filter}
use Rattle.std.proofs.lemmas.Option.{same_Some, slice_get-map}
use Rattle.pg_spec.specs.Book.{Booking, is_of}
use Rattle.pg_spec.specs.Turns.{entry_at}
use Rattle.pg_spec.specs.declared.stamps.Stamp.{Stamp}
use Rattle.pg_query.specs.Dialogue as code
use Rattle.pg_query.specs.Meaning.{Place}
use Rattle.pg_query.specs.declared.desk_call.DeskCall.{DeskCall}
use Rattle.pg_query.specs.declared.desk_call.Reply.{Reply}
use Rattle.pg_spec.specs.Courses.{Asked, Course, Given, Outcome, Point, Request, Unfolds, Who, begun_in, met_in, nowhere, numbered, outcome, outcome_of, questions_of, reply_to, requests_of, unread}
use Rattle.pg_spec.specs.Dialogues.{Dialogue, Answers, Asks, Sends, Reads, Puts, Closes, Calls}
use Rattle.pg_spec.specs.Meanings.{Ending}
use Rattle.pg_spec.proofs.Outcomes.{comes}
use Rattle.pg_core.specs.Counters.{tells}
use Rattle.pg_core.specs.Outcomes.{asked, met_by, parts_in}
use Rattle.pg_core.specs.Trails.{AreMet, AreNumbered, AreToldIn, AreTurnsOf, Moment, begun_at, goes_on, ran_by}
use Rattle.pg_promises.specs.Sent.{AllButLastEnded, AreBegun, AskedInOrder, HasEnded, InScriptOrder, IsUnderWay, is_ended, outcome_in}
use Rattle.pg_session.specs.Handles.{HandleState}
use Rattle.pg_session.specs.Speeches.{AreCommands, Speech, meaning_of}
use Rattle.pg_session.specs.Kept as kept
use Rattle.pg_session.specs.Kept.{AllKept, Does, HandleKept, HasDone, Now, Past, book_of, free_of, states_of}
use Rattle.pg_session.proofs.Session.{past-there}
use Rattle.pg_session.proofs.SentSoFar.Outcomes.{asks-nothing, in_words, words-alone}
use Rattle.pg_core.proofs.Extended.{holds-now}
use Rattle.pg_session.proofs.SentSoFar.Parts.{BookParts, booked-so-far, named-all}

-- ---- in which turns a command acts

-- in none before, and in none behind
abbrev Within : {X : Type 0} → (turn : X → ℕ) → (first last : ℕ) → List X → Type 0
Within turn first last xs = AllByRecursion (λ x. (first ≤ turn x) × (turn x ≤ last)) xs

sooner : {X : Type 0} (turn : X → ℕ) (first next last : ℕ) (xs : List X) → first ≤ next → Within turn next last xs → Within turn first last xs
sooner turn first next last [] le h = tt
sooner turn first next last (x ∷ xs) le h = let low = h.0.0 in ((omega (arith, le, low), h.0.1), sooner turn first next last xs le h.1)

-- where it begins and where it answers
record Acts {Q R : Type 0} (first last : ℕ) (requests : List Request) (asks : List (Asked Q R)) : Type 0 where
  rises : first ≤ last
  booked : Within (λ r. r.booking.stamp.turn) first last requests
  told : Within (λ a. a.stamp.turn) first last asks

acts-sooner : {Q R : Type 0} (first next last : ℕ) (requests : List Request) (asks : List (Asked Q R)) → first ≤ next → Acts next last requests asks → Acts first last requests asks
acts-sooner first next last requests asks le h =
    let up = h.rises in
    record {
      rises = omega (arith, le, up);
      booked = sooner (λ r. r.booking.stamp.turn) first next last requests le h.booked;
      told = sooner (λ a. a.stamp.turn) first next last asks le h.told;
    }

acts : {Q R A : Type 0} (course : Course Q R) (handle : ℕ) (at : Point) (d : Dialogue Q R A) (requests : List Request) (asks : List (Asked Q R)) (given : Given A) →
    Unfolds course handle at d requests asks given → Acts at.turn given.at.turn requests asks
acts {Q} {R} {A} course handle at (Answers a) requests asks given (none, no_question, whole, is) =
    let here : at.turn ≡ given.at.turn = ap (λ (g : Given A). g.at.turn) (sym is) in
    record {
      rises = omega (arith, here);
      booked = subst (λ (l : List Request). Within (λ r. r.booking.stamp.turn) at.turn given.at.turn l) (sym none) tt;
      told = subst (λ (l : List (Asked Q R)). Within (λ a. a.stamp.turn) at.turn given.at.turn l) (sym no_question) tt;
    }
acts course handle at (Asks copying part d) [] asks given h = absurd h
acts course handle at (Asks copying part d) (r ∷ requests) asks given (whole, turn, more, parts, h) =
    let rest = acts course handle (record { turn = at.turn; request = Some r.number; read = 0; parts = more }) d requests asks given h in
    let up = rest.rises in
    record { rises = rest.rises; booked = ((omega (arith, turn), omega (arith, turn, up)), rest.booked); told = rest.told }
acts course handle at (Sends part d) [] asks given h = absurd h
acts course handle at (Sends part d) (r ∷ requests) asks given (turn, parts, h) =
    let rest = acts course handle at d requests asks given h in
    let up = rest.rises in
    record { rises = rest.rises; booked = ((omega (arith, turn), omega (arith, turn, up)), rest.booked); told = rest.told }
acts course handle at (Reads decides next) requests asks given (n, decided, turn, first, h) =
    acts-sooner at.turn turn given.at.turn requests asks first.no_sooner (acts course handle (record at { turn = turn; read = at.read + n }) (next (take n (unread course at))) requests asks given h)
acts course handle at (Puts part d) requests asks given (turn, own, more, parts, h) =
    acts-sooner at.turn turn given.at.turn requests asks own.no_sooner (acts course handle (record at { turn = turn; parts = more }) d requests asks given h)
acts course handle at (Closes part d) requests asks given (more, parts, h) = acts course handle (record at { parts = more }) d requests asks given h
acts course handle at (Calls q next) requests [] given h = absurd h
acts course handle at (Calls q next) requests (a ∷ asks) given (turn, question, h) =
    let rest = acts course handle at (next a.reply) requests asks given h in
    let up = rest.rises in
    record { rises = rest.rises; booked = rest.booked; told = ((omega (arith, turn), omega (arith, turn, up)), rest.told) }

-- one that runs acts in none before the turn in which it began
abbrev Since : {X : Type 0} → (turn : X → ℕ) → (first : ℕ) → List X → Type 0
Since turn first xs = AllByRecursion (λ x. first ≤ turn x) xs

since-joined : {X : Type 0} (turn : X → ℕ) (first : ℕ) (xs ys : List X) → Since turn first xs → Since turn first ys → Since turn first (xs ++ ys)
since-joined turn first [] ys h k = k
since-joined turn first (x ∷ xs) ys h k = (h.0, since-joined turn first xs ys h.1 k)

since-booked : (who : Who) (turn first n : ℕ) (rs : List Request) → first ≤ turn → AreNumbered who turn n rs → Since (λ r. r.booking.stamp.turn) first rs
since-booked who turn first n [] le h = tt
since-booked who turn first n (r ∷ rs) le (number, stamp, h) =
    let here : r.booking.stamp.turn ≡ turn = ap (λ (s : Stamp). s.turn) stamp in
    (omega (arith, le, here), since-booked who turn first (n + 1) rs le h)

since-told : (who : Who) (turn first : ℕ) (before : List DeskCall) (qs : List (Asked DeskCall Reply)) → first ≤ turn → AreToldIn tells who turn before qs → Since (λ a. a.stamp.turn) first qs
since-told who turn first before [] le h = tt
since-told who turn first before (a ∷ qs) le (stamp, reply, h) =
    let here : a.stamp.turn ≡ turn = ap (λ (s : Stamp). s.turn) stamp in
    (omega (arith, le, here), since-told who turn first (before ++ a.question ∷ []) qs le h)

record ActsSince {T : Type 0} (d : code.Dialogue T) (m : Moment) (before : List Moment) : Type 0 where
  rises : begun_at m before ≤ m.place
  booked : Since (λ r. r.booking.stamp.turn) (begun_at m before) (ran_by d (m ∷ before)).requests
  told : Since (λ a. a.stamp.turn) (begun_at m before) (ran_by d (m ∷ before)).asked

acts-since : {T : Type 0} (course : Course DeskCall Reply) (who : Who) (d : code.Dialogue T) (m : Moment) (before : List Moment) → AreTurnsOf tells course who d (m ∷ before) → AreMet d (m ∷ before) → ActsSince d m before
acts-since course who d m [] (number, former, t, ts) (requests, same, added, met) = record {
  rises = omega arith;
  booked = subst (λ (l : List Request). Since (λ r. r.booking.stamp.turn) m.place l) (sym requests) (since-booked who m.place m.place number _ (omega arith) t.numbered);
  told = subst (λ (l : List (Asked DeskCall Reply)). Since (λ a. a.stamp.turn) m.place l) (sym same) (since-told who m.place m.place former _ (omega arith) t.told);
}
acts-since course who d m (n ∷ before) (number, former, t, ts) (requests, same, added, met) =
    let rest = acts-since course who d n before ts met in
    let s = ran_by d (n ∷ before) in
    let r = goes_on s m in
    let low = rest.rises in
    let next = t.next.0 in
    let up : begun_at n before ≤ m.place = omega (arith, low, next) in
    record {
      rises = up;
      booked = since-joined (λ r. r.booking.stamp.turn) (begun_at n before) s.requests r.requests rest.booked
          (subst (λ (l : List Request). Since (λ r. r.booking.stamp.turn) (begun_at n before) l) (sym requests) (since-booked who m.place (begun_at n before) number _ up t.numbered));
      told = since-joined (λ a. a.stamp.turn) (begun_at n before) s.asked r.asked rest.told
          (subst (λ (l : List (Asked DeskCall Reply)). Since (λ a. a.stamp.turn) (begun_at n before) l) (sym same) (since-told who m.place (begun_at n before) former _ up t.told));
    }

-- ---- of commands in the order of their turns

eq-same : (n : ℕ) → (n == n) ≡ true
eq-same n = grind (arith, nat_tests)

-- What holds of all that bears the stamp of a command, whichever it is, holds of all that is of the handle.
pub spread : {X : Type 0} (stamp : X → Stamp) (handle : ℕ) (P : ℕ → X → Type 0) (xs : List X) → ((j : ℕ) → AllByRecursion (P j) (filter (λ x. is_of handle j (record { stamp = stamp x; parts = [] })) xs)) →
    AllByRecursion (λ x. P (stamp x).command x) (filter (λ x. (stamp x).owner == handle) xs)
spread stamp handle P [] h = tt
spread {X} stamp handle P (x ∷ xs) h = by ((stamp x).owner == handle) refl (spread stamp handle P xs (λ j. behind-it j (is_of handle j (record { stamp = stamp x; parts = [] })) (h j)))
  where
    own : ℕ → List X
    own j = filter (λ x. is_of handle j (record { stamp = stamp x; parts = [] })) xs

    behind-it : (j : ℕ) (b : Bool) → AllByRecursion (P j) (cond b (x ∷ own j) (own j)) → AllByRecursion (P j) (own j)
    behind-it j true h = h.1
    behind-it j false h = h

    by : (b : Bool) → ((stamp x).owner == handle) ≡ b → AllByRecursion (λ x. P (stamp x).command x) (filter (λ x. (stamp x).owner == handle) xs) →
        AllByRecursion (λ x. P (stamp x).command x) (cond b (x ∷ filter (λ x. (stamp x).owner == handle) xs) (filter (λ x. (stamp x).owner == handle) xs))
    by true e rest =
        let c = (stamp x).command in
        let here : ((stamp x).owner == handle && c == c) ≡ true = ap (λ (b : Bool). b && c == c) e ∙ eq-same c in
        ((subst (λ (b : Bool). AllByRecursion (P c) (cond b (x ∷ own c) (own c))) here (h c)).0, rest)
    by false e rest = rest

-- the same of requests, without their numbers
pub unnumbered : (P : Booking → Type 0) (test : Booking → Bool) (n : ℕ) (book : List Booking) → AllByRecursion (λ r. P r.booking) (filter (λ r. test r.booking) (numbered n book)) → AllByRecursion P (filter test book)
unnumbered P test n [] h = tt
unnumbered P test n (b ∷ book) h = by (test b) (unnumbered P test (n + 1) book) h
  where
    by : (t : Bool) → (AllByRecursion (λ (r : Request). P r.booking) (filter (λ r. test r.booking) (numbered (n + 1) book)) → AllByRecursion P (filter test book)) →
        AllByRecursion (λ (r : Request). P r.booking) (cond t (record { number = n; booking = b } ∷ filter (λ r. test r.booking) (numbered (n + 1) book)) (filter (λ r. test r.booking) (numbered (n + 1) book))) →
        AllByRecursion P (cond t (b ∷ filter test book) (filter test book))
    by true rest h = (h.0, rest h.1)
    by false rest h = rest h

-- a command acts from the turn on in which it may begin, and before the next one may
record IsRow (free : ℕ → ℕ) (many command turn : ℕ) : Type 0 where
  there : command ≤ many
  no_sooner : free command ≤ turn
  no_later : command < many → turn < free (suc command)

in-rows : {X : Type 0} (turn command : X → ℕ) (free : ℕ → ℕ) (many : ℕ) → ((j k : ℕ) → j ≤ k → k ≤ many → free j ≤ free k) → (xs : List X) →
    AllByRecursion (λ x. IsRow free many (command x) (turn x)) xs → IsNonDecreasingBy turn xs → IsNonDecreasingBy command xs
in-rows {X} turn command free many rises xs rows sorted i j d le lt = by (cases_lt (command (get_or xs j d)) (command (get_or xs i d)))
  where
    all : All (λ x. IsRow free many (command x) (turn x)) xs
    all = All-from_recursion (λ (x : X). IsRow free many (command x) (turn x)) xs rows

    by : (command (get_or xs j d) < command (get_or xs i d)) ⊎ (command (get_or xs i d) ≤ command (get_or xs j d)) → command (get_or xs i d) ≤ command (get_or xs j d)
    by (inr low) = low
    by (inl less) =
        let one = all i d (omega (arith, le, lt)) in
        let two = all j d lt in
        let there = one.there in
        let no_sooner = one.no_sooner in
        let no_later = two.no_later (omega (arith, less, there)) in
        let between = rises (suc (command (get_or xs j d))) (command (get_or xs i d)) (omega (arith, less)) there in
        let up = sorted i j d le lt in
        absurd (omega (arith, no_sooner, no_later, between, up))

some-at : {X : Type 0} (xs : List X) (i : ℕ) → i < length xs → (x : X) × (slice_get xs i ≡ Some x)
some-at [] i lt = absurd (omega (arith, lt))
some-at (x ∷ xs) zero lt = (x, refl)
some-at (x ∷ xs) (suc i) lt = some-at xs i (omega (arith, lt))

-- the next item, and those behind it
drop-next : {X : Type 0} (xs : List X) (i : ℕ) (y : X) (ys : List X) → drop i xs ≡ y ∷ ys → (slice_get xs i ≡ Some y) × (drop (i + 1) xs ≡ ys)
drop-next [] zero y ys e = absurd cc
drop-next [] (suc i) y ys e = absurd cc
drop-next (x ∷ xs) zero y ys e = (cc, cc)
drop-next {X} (x ∷ xs) (suc i) y ys e =
    let next = drop-next xs i y ys e in
    let one : suc i + 1 ≡ suc (i + 1) = omega arith in
    (next.0, ap (λ (n : ℕ). drop n (x ∷ xs)) one ∙ next.1)

-- requests of the same turns
since-so : (first : ℕ) (xs ys : List Request) → map (λ r. r.booking.stamp.turn) xs ≡ map (λ r. r.booking.stamp.turn) ys → Since (λ (r : Request). r.booking.stamp.turn) first ys → Since (λ (r : Request). r.booking.stamp.turn) first xs
since-so first [] ys e h = tt
since-so first (x ∷ xs) [] e h = absurd cc
since-so first (x ∷ xs) (y ∷ ys) e h =
    let same : x.booking.stamp.turn ≡ y.booking.stamp.turn = cc in
    let rest : map (λ (r : Request). r.booking.stamp.turn) xs ≡ map (λ (r : Request). r.booking.stamp.turn) ys = cc in
    let begins = h.0 in
    (omega (arith, begins, same), since-so first xs ys rest h.1)

-- ---- a script

module _ {C T A E : Type 0} (speech : Speech C T A E) (commands : AreCommands speech) (parts : BookParts speech) (course : Course DeskCall Reply) (now : Now) where
  -- what the session did so far, without its turns
  abbrev pub so_far : Course DeskCall Reply
  so_far = record { trace = []; book = book_of now; replies = course.replies; asked = now.asked }

  module _ (script : List C) (handle : ℕ) (h : HandleState T A E) (past : List (Past A E)) (k : HandleKept speech course script handle h past now) where
    abbrev requests : ℕ → List Request
    requests j = requests_of (book_of now) handle j

    abbrev questions : ℕ → List (Asked DeskCall Reply)
    questions j = questions_of now.asked handle j

    -- what comes of a command
    abbrev comes-of : ℕ → E → C → Outcome DeskCall (Ending A E)
    comes-of j own c = outcome_in (meaning_of speech) so_far handle j own c

    -- one that answered
    ended : (j : ℕ) (own : E) (c : C) (x : Past A E) → HasDone speech course script handle past now j x → slice_get script j ≡ Some c → slice_get (states_of speech.begins past) j ≡ Some own →
        HasEnded so_far handle j (comes-of j own c) x.ending
    ended j own c x d at had =
        let is = ap (λ (o : E). comes-of j o c) (same_Some own d.before (sym had ∙ d.had)) ∙ ap (λ (y : C). comes-of j d.before y) (same_Some c d.command (sym at ∙ d.stands))
        ∙ comes course handle (begun_in nowhere x.times.begins) ((meaning_of speech).asks d.before d.command) (requests j) (questions j) (record { at = x.at; answer = x.ending }) d.unfolds in
        record {
          requests = sym (ap (λ (o : Outcome DeskCall (Ending A E)). o.requests) is);
          asked = sym (ap (λ (o : Outcome DeskCall (Ending A E)). o.asked) is);
          answered = ap (λ (o : Outcome DeskCall (Ending A E)). o.answer) is;
          none_before = ap (λ (o : Outcome DeskCall (Ending A E)). o.parts) is;
        }

    -- one that runs
    runs : (own : E) (c : C) (p : Place T) → kept.IsUnderWay course (record { handle = handle; command = length past }) (speech.says own c) (free_of past (length past)) now p →
        IsUnderWay so_far handle (length past) (comes-of (length past) own c)
    runs own c p u =
        let d = speech.says own c in
        let s = ran_by d (u.last ∷ u.before) in
        let who : Who = record { handle = handle; command = length past } in
        let booked : requests (length past) ≡ s.whole [] = holds-now who (book_of now) s u.ready.requests in
        let f = booked-so-far course who d (parts own c) (u.last ∷ u.before) u.ready.turns u.ready.upright.runs.met in
        let is : comes-of (length past) own c ≡ in_words (speech.ends own c) (outcome (asked d) (met_by (λ n. reply_to course (Some n)) (s.whole []) s.asked) []) =
        ap (λ (rs : List Request). outcome_of ((meaning_of speech).asks own c) (met_in so_far rs (questions (length past)))) booked
        ∙ ap (λ (qs : List (Asked DeskCall Reply)). outcome_of ((meaning_of speech).asks own c) (met_in so_far (s.whole []) qs)) u.ready.questions
        ∙ words-alone (asked d) (speech.ends own c) (met_by (λ n. reply_to course (Some n)) (s.whole []) s.asked) [] in
        record {
          requests = subst (λ (rs : List Request). AreBegun (map (λ r. r.booking.parts) rs) (comes-of (length past) own c).requests) (sym booked)
              (subst (λ (l : List (List (List ℕ))). AreBegun (parts_in (s.whole [])) l) (sym (ap (λ (o : Outcome DeskCall (Ending A E)). o.requests) is)) f.requests);
          asked = ap (λ (qs : List (Asked DeskCall Reply)). map (λ a. a.question) qs) u.ready.questions ∙ f.asks ∙ sym (ap (λ (o : Outcome DeskCall (Ending A E)). o.asked) is);
          none_later = k.none_later;
        }

    -- one that hasn't begun
    rests : (own : E) (c : C) → kept.Rests course script handle past now → IsUnderWay so_far handle (length past) (comes-of (length past) own c)
    rests own c r = record {
      requests = subst (λ (rs : List Request). AreBegun (map (λ r. r.booking.parts) rs) (comes-of (length past) own c).requests) (sym r.requests) tt;
      asked = ap (λ (qs : List (Asked DeskCall Reply)). map (λ a. a.question) qs) r.questions
          ∙ sym (ap (λ (qs : List (Asked DeskCall Reply)). (outcome_of ((meaning_of speech).asks own c) (met_in so_far (requests (length past)) qs)).asked) r.questions
          ∙ asks-nothing ((meaning_of speech).asks own c) (met_in so_far (requests (length past)) []).replies []);
      none_later = k.none_later;
    }

    next : (own : E) (c : C) → slice_get script (length past) ≡ Some c → slice_get (states_of speech.begins past) (length past) ≡ Some own → IsUnderWay so_far handle (length past) (comes-of (length past) own c)
    next own c at had = by h.running k.does
      where
        here : h.own ≡ own
        here = same_Some h.own own (sym k.own ∙ had)

        by : (running : Option (Place T)) → Does speech course script handle h.own past now running → IsUnderWay so_far handle (length past) (comes-of (length past) own c)
        by None does = rests own c does
        by (Some p) does = runs own c p
            (subst (λ (o : E). kept.IsUnderWay course (record { handle = handle; command = length past }) (speech.says o c) (free_of past (length past)) now p) here
            (subst (λ (x : C). kept.IsUnderWay course (record { handle = handle; command = length past }) (speech.says h.own x) (free_of past (length past)) now p) (same_Some does.command c (sym does.stands ∙ at)) does.under_way))

    pub script-order : (place : ℕ) (own : E) (cs : List C) → drop place script ≡ cs → slice_get (states_of speech.begins past) place ≡ Some own → place ≤ length past →
        AskedInOrder (meaning_of speech) so_far handle place own cs
    script-order place own [] at had low = tt
    script-order place own (c ∷ cs) at had low = by (λ next_own. script-order (place + 1) next_own cs) (cases_lt place (length past))
      where
        step : (slice_get script place ≡ Some c) × (drop (place + 1) script ≡ cs)
        step = drop-next script place c cs at

        by : ((next_own : E) → drop (place + 1) script ≡ cs → slice_get (states_of speech.begins past) (place + 1) ≡ Some next_own → place + 1 ≤ length past → AskedInOrder (meaning_of speech) so_far handle (place + 1) next_own cs) →
            (place < length past) ⊎ (length past ≤ place) → AskedInOrder (meaning_of speech) so_far handle place own (c ∷ cs)
        by later (inr over) =
            let same : length past ≡ place = omega (arith, low, over) in
            inl (subst (λ (n : ℕ). IsUnderWay so_far handle n (comes-of n own c)) same
            (next own c (subst (λ (n : ℕ). slice_get script n ≡ Some c) (sym same) step.0) (subst (λ (n : ℕ). slice_get (states_of speech.begins past) n ≡ Some own) (sym same) had)))
        by later (inl less) =
            let x = some-at past place less in
            let then : slice_get (states_of speech.begins past) (suc place) ≡ Some x.0.ending.own =
            slice_get-map (λ (y : Past A E). y.ending.own) past place ∙ ap (λ (o : Option (Past A E)). option_map (λ y. y.ending.own) o) x.1 in
            let one : suc place ≡ place + 1 = omega arith in
            inr (
              x.0.ending,
              ended place own c x.0 (k.done place x.0 x.1) step.0 had,
              later x.0.ending.own step.1 (subst (λ (n : ℕ). slice_get (states_of speech.begins past) n ≡ Some x.0.ending.own) one then) (omega (arith, less)),
            )

    -- ---- the order of its commands

    -- what one did that answered, in its turns
    record DidIn (j : ℕ) : Type 0 where
      first : ℕ
      last : ℕ
      no_sooner : free_of past j ≤ first
      next_free : free_of past (suc j) ≡ last + 1
      acts : Acts first last (requests j) (questions j)

    did-in : (j : ℕ) → j < length past → DidIn j
    did-in j lt =
        let x = some-at past j lt in
        let d = k.done j x.0 x.1 in
        record {
          first = x.0.times.begins;
          last = x.0.at.turn;
          no_sooner = d.begins.no_sooner;
          next_free = ap (λ (o : Option (Past A E)). unwrap_or (option_map (λ y. y.times.answers + 1) o) 0) x.1 ∙ ap (λ (n : ℕ). n + 1) (sym d.in_turn);
          acts = acts course handle (begun_in nowhere x.0.times.begins) ((meaning_of speech).asks d.before d.command) (requests j) (questions j) (record { at = x.0.at; answer = x.0.ending }) d.unfolds;
        }

    free-rises : (j n : ℕ) → j ≤ n → n ≤ length past → free_of past j ≤ free_of past n
    free-rises j zero low le = let same : j ≡ zero = omega (arith, low) in omega (arith, ap (free_of past) same)
    free-rises j (suc n) low le = by (free-rises j n) (cases_lt j (suc n))
      where
        by : (j ≤ n → n ≤ length past → free_of past j ≤ free_of past n) → (j < suc n) ⊎ (suc n ≤ j) → free_of past j ≤ free_of past (suc n)
        by before (inr over) = let same : j ≡ suc n = omega (arith, low, over) in omega (arith, ap (free_of past) same)
        by before (inl less) =
            let up-to = before (omega (arith, less)) (omega (arith, le)) in
            let d = did-in n (omega (arith, le)) in
            let up = d.acts.rises in
            let no_sooner = d.no_sooner in
            omega (arith, up-to, up, no_sooner, d.next_free)

    rows-within : {X : Type 0} (turn : X → ℕ) (j first last : ℕ) (xs : List X) → j < length past → free_of past j ≤ first → free_of past (suc j) ≡ last + 1 → Within turn first last xs →
        AllByRecursion (λ x. IsRow (free_of past) (length past) j (turn x)) xs
    rows-within turn j first last [] lt low free h = tt
    rows-within turn j first last (x ∷ xs) lt low free h =
        let begins = h.0.0 in
        let ends = h.0.1 in
        (record { there = omega (arith, lt); no_sooner = omega (arith, low, begins); no_later = λ less. omega (arith, ends, free) }, rows-within turn j first last xs lt low free h.1)

    rows-since : {X : Type 0} (turn : X → ℕ) (first : ℕ) (xs : List X) → free_of past (length past) ≤ first → Since turn first xs → AllByRecursion (λ x. IsRow (free_of past) (length past) (length past) (turn x)) xs
    rows-since turn first [] low h = tt
    rows-since turn first (x ∷ xs) low h =
        let begins = h.0 in
        (record { there = omega arith; no_sooner = omega (arith, low, begins); no_later = λ less. absurd (omega (arith, less)) }, rows-since turn first xs low h.1)

    record IsInRows (j : ℕ) : Type 0 where
      booked : AllByRecursion (λ (r : Request). IsRow (free_of past) (length past) j r.booking.stamp.turn) (requests j)
      told : AllByRecursion (λ (a : Asked DeskCall Reply). IsRow (free_of past) (length past) j a.stamp.turn) (questions j)

    none-in-rows : (j : ℕ) → requests j ≡ [] → questions j ≡ [] → IsInRows j
    none-in-rows j none no_question = record {
      booked = subst (λ (l : List Request). AllByRecursion (λ (r : Request). IsRow (free_of past) (length past) j r.booking.stamp.turn) l) (sym none) tt;
      told = subst (λ (l : List (Asked DeskCall Reply)). AllByRecursion (λ (a : Asked DeskCall Reply). IsRow (free_of past) (length past) j a.stamp.turn) l) (sym no_question) tt;
    }

    runs-in-rows : (running : Option (Place T)) → Does speech course script handle h.own past now running → IsInRows (length past)
    runs-in-rows None does = none-in-rows (length past) does.requests does.questions
    runs-in-rows (Some p) does =
        let u = does.under_way in
        let d = speech.says h.own does.command in
        let who : Who = record { handle = handle; command = length past } in
        let a = acts-since course who d u.last u.before u.ready.turns u.ready.upright.runs.met in
        record {
          booked = rows-since (λ r. r.booking.stamp.turn) (begun_at u.last u.before) (requests (length past)) u.begins.no_sooner
              (subst (λ (l : List Request). Since (λ r. r.booking.stamp.turn) (begun_at u.last u.before) l) (sym (holds-now who (book_of now) (ran_by d (u.last ∷ u.before)) u.ready.requests))
              (since-so (begun_at u.last u.before) ((ran_by d (u.last ∷ u.before)).whole []) (ran_by d (u.last ∷ u.before)).requests (named-all course who d (λ n stamp. stamp.turn) (u.last ∷ u.before) u.ready.turns []) a.booked));
          told = rows-since (λ a. a.stamp.turn) (begun_at u.last u.before) (questions (length past)) u.begins.no_sooner
              (subst (λ (l : List (Asked DeskCall Reply)). Since (λ a. a.stamp.turn) (begun_at u.last u.before) l) (sym u.ready.questions) a.told);
        }

    in-row : (j : ℕ) → IsInRows j
    in-row j = by (cases_lt j (length past))
      where
        over : (length past < j) ⊎ (j ≤ length past) → length past ≤ j → IsInRows j
        over (inl more) low = let none = k.none_later j more in none-in-rows j none.0 none.1
        over (inr le) low = let same : length past ≡ j = omega (arith, le, low) in subst IsInRows same (runs-in-rows h.running k.does)

        by : (j < length past) ⊎ (length past ≤ j) → IsInRows j
        by (inl less) =
            let d = did-in j less in
            record {
              booked = rows-within (λ r. r.booking.stamp.turn) j d.first d.last (requests j) less d.no_sooner d.next_free d.acts.booked;
              told = rows-within (λ a. a.stamp.turn) j d.first d.last (questions j) less d.no_sooner d.next_free d.acts.told;
            }
        by (inr low) = over (cases_lt (length past) j) low

    pub booked-in-order : IsNonDecreasingBy (λ b. b.stamp.turn) (book_of now) → IsNonDecreasingBy (λ b. b.stamp.command) (filter (λ b. b.stamp.owner == handle) (book_of now))
    booked-in-order sorted =
        in-rows (λ b. b.stamp.turn) (λ b. b.stamp.command) (free_of past) (length past) free-rises (filter (λ b. b.stamp.owner == handle) (book_of now))
        (unnumbered (λ b. IsRow (free_of past) (length past) b.stamp.command b.stamp.turn) (λ b. b.stamp.owner == handle) 0 (book_of now)
        (spread (λ r. r.booking.stamp) handle (λ j r. IsRow (free_of past) (length past) j r.booking.stamp.turn) (numbered 0 (book_of now)) (λ j. (in-row j).booked)))
        (IsNonDecreasingBy-filter (λ b. b.stamp.turn) (λ b. b.stamp.owner == handle) (book_of now) sorted)

    pub asked-in-order : IsNonDecreasingBy (λ a. a.stamp.turn) now.asked → IsNonDecreasingBy (λ a. a.stamp.command) (filter (λ a. a.stamp.owner == handle) now.asked)
    asked-in-order sorted =
        in-rows (λ a. a.stamp.turn) (λ a. a.stamp.command) (free_of past) (length past) free-rises (filter (λ a. a.stamp.owner == handle) now.asked)
        (spread (λ a. a.stamp) handle (λ j a. IsRow (free_of past) (length past) j a.stamp.turn) now.asked (λ j. (in-row j).told))
        (IsNonDecreasingBy-filter (λ a. a.stamp.turn) (λ a. a.stamp.owner == handle) now.asked sorted)

-- ---- all scripts

-- where each is ended
pub all-but-last : (book : List Booking) → AllByRecursion (λ b. IsTrue (is_ended b)) book → AllButLastEnded book
all-but-last [] h = tt
all-but-last (b ∷ []) h = tt
all-but-last (b ∷ c ∷ book) h = (h.0, all-but-last (c ∷ book) h.1)

-- whose it is, is there
abbrev HasScript : {C X : Type 0} → List (List C) → (X → Stamp) → X → Type 0
HasScript scripts stamp x = IsSome (entry_at scripts (stamp x).owner (stamp x).command)

-- none is of a handle that isn't there
none-there : {C X : Type 0} (scripts : List (List C)) (stamp : X → Stamp) (handle : ℕ) (xs : List X) → slice_get scripts handle ≡ None → AllByRecursion (HasScript scripts stamp) xs → filter (λ x. (stamp x).owner == handle) xs ≡ []
none-there scripts stamp handle [] none h = refl
none-there {C} {X} scripts stamp handle (x ∷ xs) none h = by ((stamp x).owner == handle) refl (none-there scripts stamp handle xs none h.1)
  where
    by : (b : Bool) → ((stamp x).owner == handle) ≡ b → filter (λ x. (stamp x).owner == handle) xs ≡ [] →
        ◌≡◌ {A = List X} (cond b (x ∷ filter (λ x. (stamp x).owner == handle) xs) (filter (λ x. (stamp x).owner == handle) xs)) []
    by false e rest = rest
    by true e rest =
        let same : (stamp x).owner ≡ handle = grind (arith, nat_tests, e) in
        absurd (let no : false ≡ true = subst (λ (o : Option (List C)). IsSome (option_and_then (λ row. slice_get row (stamp x).command) o)) (ap (λ (n : ℕ). slice_get scripts n) same ∙ none) h.0 in cc)

module _ {C T A E : Type 0} (speech : Speech C T A E) (commands : AreCommands speech) (parts : BookParts speech) (scripts : List (List C)) (course : Course DeskCall Reply) (now : Now) (handles : List (HandleState T A E))
    (k : AllKept speech scripts course now handles) (many : length handles ≡ length scripts) where
  handle-kept : (i : ℕ) (script : List C) → slice_get scripts i ≡ Some script → (h : HandleState T A E) × ((past : List (Past A E)) × HandleKept speech course script i h past now)
  handle-kept i script at =
      let h = past-there scripts handles i script many at in
      let past = past-there scripts k.pasts i script k.as_many at in
      (h.0, (past.0, k.each i script h.0 past.0 at h.1 past.1))

  in-order : {X : Type 0} (stamp : X → Stamp) (xs : List X) → All (HasScript scripts stamp) xs →
      ((i : ℕ) (script : List C) → slice_get scripts i ≡ Some script → IsNonDecreasingBy (λ x. (stamp x).command) (filter (λ x. (stamp x).owner == i) xs)) →
      (i : ℕ) → IsNonDecreasingBy (λ x. (stamp x).command) (filter (λ x. (stamp x).owner == i) xs)
  in-order {X} stamp xs known each i = by (slice_get scripts i) refl
    where
      by : (o : Option (List C)) → slice_get scripts i ≡ o → IsNonDecreasingBy (λ x. (stamp x).command) (filter (λ x. (stamp x).owner == i) xs)
      by (Some script) e = each i script e
      by None e = subst (λ (l : List X). IsNonDecreasingBy (λ x. (stamp x).command) l) (sym (none-there scripts stamp i xs e (recursion_from_All (HasScript scripts stamp) xs known)))
          (λ a b d le lt. absurd (omega (arith, lt)))

  pub in-script-order : AllButLastEnded (book_of now) → InScriptOrder (meaning_of speech) scripts (so_far speech commands parts course now)
  in-script-order all = record {
    owners = k.book.known;
    askers = k.questions.known;
    in_order = in-order (λ b. b.stamp) (book_of now) k.book.known (λ i script at. let h = handle-kept i script at in booked-in-order speech commands parts course now script i h.0 h.1.0 h.1.1 k.book.in_order);
    asked_in_order = in-order (λ a. a.stamp) now.asked k.questions.known (λ i script at. let h = handle-kept i script at in asked-in-order speech commands parts course now script i h.0 h.1.0 h.1.1 k.questions.in_order);
    each = λ i script at. let h = handle-kept i script at in script-order speech commands parts course now script i h.0 h.1.0 h.1.1 0 speech.begins script refl refl (omega arith);
    told = k.told;
    ended = all;
  }
