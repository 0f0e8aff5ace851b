-- Each request that was booked is whole, where commands book whole requests alone.
use Rattle.std.proofs.Common.{◌≡◌, ℕ, ◌+◌, ◌<◌, ◌≤◌, List, [], ◌∷◌, ◌++◌, length, map, drop, take, Bool, true, false, cond, ◌==◌, ◌⊎◌, inl, inr, Option, Some, None, Result, Err, refl, sym, ap, subst, ◌∙◌, arith, slice_get}
use Rattle.std.specs.Prelude.{IsSome, filter}
use Rattle.std.specs.List.{AllByRecursion}
use Rattle.std.specs.Option.{option_and_then}
use Rattle.std.proofs.lemmas.Bool.{cases_lt}
use Rattle.std.proofs.lemmas.Bool.Decides.{nat_tests}
use Rattle.std.proofs.lemmas.List.Elements.{recursion_from_All}
use Rattle.std.proofs.lemmas.Option.{slice_get_within}
use Rattle.pg_spec.specs.Book.{Booking, is_of}
use Rattle.pg_spec.specs.RawMessages.{RawMessage}
use Rattle.pg_spec.specs.Turns.{entry_at}
use Rattle.pg_spec.specs.declared.stamps.Stamp.{Stamp}
use Rattle.pg_types.specs.declared.error.Error.{Error}
use Rattle.pg_types.specs.declared.error.Error.TheVariants.{Closed}
use Rattle.pg_query.specs.Dialogue as code
use Rattle.pg_query.specs.Dialogue.{fits}
use Rattle.pg_query.specs.declared.desk_call.DeskCall.{DeskCall}
use Rattle.pg_query.specs.declared.desk_call.Reply.{Reply}
use Rattle.pg_spec.specs.Courses.{Course, Met, Outcome, Request, first_reply, met_in, nothing_yet, numbered, outcome, past_reply, questions_of, requests_of, with_question as with_query}
use Rattle.pg_spec.specs.Dialogues.{decided_after}
use Rattle.pg_spec.specs.Meanings.{Ending}
use Rattle.pg_core.specs.Outcomes.{asked, questions_in}
use Rattle.pg_core.proofs.Fitting.{AreFitting, AreMatched, fitting-filter, matched, session-fitting}
use Rattle.pg_promises.proofs.Begun.{one-begun}
use Rattle.pg_promises.specs.Sent.{AreBegun, AskedInOrder, InScriptOrder, IsBegun, are_ended, asked_of, outcome_in, parts_of}
use Rattle.pg_session.specs.Speeches.{BookWhole, BooksWhole, IsWholeRequest, Speech, meaning_of}
use Rattle.pg_session.proofs.SentSoFar.Outcomes.{words-alone}
use Rattle.pg_session.proofs.SentSoFar.Order.{spread, unnumbered}

-- the parts of a request are one, which is whole
pub record IsOneRequest (parts : List (List ℕ)) : Type 0 where
  pub part : List ℕ
  pub alone : parts ≡ part ∷ []
  pub is : IsWholeRequest part

-- ---- of what comes of a command

-- the request that is read gets no part more, and those that are booked are so
record AreWhole {A : Type 0} (o : Outcome DeskCall A) : Type 0 where
  none : o.parts ≡ []
  each : AllByRecursion IsOneRequest o.requests

whole-outcome : {T : Type 0} (d : code.Dialogue T) (met : Met Reply) (left : List RawMessage) → BooksWhole d → AreMatched (outcome (asked d) met left).asked met.told → AreWhole (outcome (asked d) met left)
whole-outcome (code.Answer r) met left h m = record { none = refl; each = tt }
whole-outcome (code.Ask copying part d) met left h m =
    let w = whole-outcome d (past_reply met) (first_reply met.replies) h.2 m in
    record { none = refl; each = (record { part = part; alone = ap (λ (ps : List (List ℕ)). part ∷ ps) w.none; is = h.0 }, w.each) }
whole-outcome (code.Send part refused d) met left h m =
    let w = whole-outcome d (past_reply met) left h.2 m in
    record { none = w.none; each = (record { part = part; alone = refl; is = h.0 }, w.each) }
whole-outcome (code.Leave id d) met left h m = whole-outcome d met left h m
whole-outcome {T} (code.Read cleanup decides next) met left h m = by (decided_after decides left) (λ k m. whole-outcome (next (take k left)) met (drop k left) (h (take k left)) m) m
  where
    so : Option ℕ → Outcome DeskCall (Result T Error)
    so o = elim o as (λ _. Outcome DeskCall (Result T Error)) [ None ↦ nothing_yet | Some k ↦ outcome (asked (next (take k left))) met (drop k left) ]

    by : (o : Option ℕ) → ((k : ℕ) → AreMatched (outcome (asked (next (take k left))) met (drop k left)).asked met.told → AreWhole (outcome (asked (next (take k left))) met (drop k left))) →
        AreMatched (so o).asked met.told → AreWhole (so o)
    by None h m = record { none = refl; each = tt }
    by (Some k) h m = h k m
whole-outcome (code.Put cleanup part d) met left h m = absurd h
whole-outcome (code.Finish part d) met left h m = absurd h
whole-outcome (code.Close part d) met left h m = absurd h
whole-outcome (code.HangUp d) met left h m = whole-outcome d met left h m
whole-outcome {T} (code.Call q refused next) met left h m = by met.told (λ r told fit m. whole-outcome (next r) (record { replies = met.replies; told = told }) left (h.1 r fit) m) m
  where
    so : List Reply → Outcome DeskCall (Result T Error)
    so l = elim l as (λ _. Outcome DeskCall (Result T Error)) [ [] ↦ nothing_yet | r ∷ told ↦ with_query q (outcome (asked (next r)) (record { replies = met.replies; told = told }) left) ]

    by : (l : List Reply) →
        ((r : Reply) (told : List Reply) → fits q r ≡ true → AreMatched (outcome (asked (next r)) (record { replies = met.replies; told = told }) left).asked told → AreWhole (outcome (asked (next r)) (record { replies = met.replies; told = told }) left)) →
        AreMatched (so l).asked l → AreWhole (so l)
    by [] h m = record { none = refl; each = tt }
    by (r ∷ told) h m = let w = h r told m.0 m.1 in record { none = w.none; each = w.each }
whole-outcome {T} (code.Hear next) met left h m = by (decided_after (λ (ms : List RawMessage). false) left)
  where
    so : Option ℕ → Outcome DeskCall (Result T Error)
    so o = elim o as (λ _. Outcome DeskCall (Result T Error)) [ None ↦ nothing_yet | Some k ↦ record { parts = []; requests = []; asked = []; answer = Some (Err Closed); left = drop k left } ]

    by : (o : Option ℕ) → AreWhole (so o)
    by None = record { none = refl; each = tt }
    by (Some k) = record { none = refl; each = tt }

-- what holds of all holds of those in front
pub front-all : {X : Type 0} (P : X → Type 0) (xs ys : List X) → AllByRecursion P (xs ++ ys) → AllByRecursion P xs
front-all P [] ys h = tt
front-all P (x ∷ xs) ys h = (h.0, front-all P xs ys h.1)

-- what was booked of requests of one part is such requests
begun-one : (ended : Bool) (x y : List (List ℕ)) → IsOneRequest y → IsBegun ended x y → IsOneRequest x
begun-one ended x y one h = record {
  part = one.part;
  alone = one-begun ended x one.part (subst (λ (l : List (List ℕ)). IsBegun ended x l) one.alone h);
  is = one.is;
}

begun-all : (xs ys : List (List (List ℕ))) → AllByRecursion IsOneRequest ys → AreBegun xs ys → AllByRecursion IsOneRequest xs
begun-all [] ys all h = tt
begun-all (x ∷ xs) [] all h = absurd h
begun-all (x ∷ xs) (y ∷ ys) all h = (begun-one (are_ended x) x y all.0 h.0, begun-all xs ys all.1 h.1)

-- ---- of all that was booked

eq-same : (n : ℕ) → (n == n) ≡ true
eq-same n = grind (arith, nat_tests)

within-row : {C : Type 0} (script : List C) (j : ℕ) → IsSome (slice_get script j) → j < length script
within-row {C} script j h = by (slice_get script j) refl h
  where
    by : (o : Option C) → slice_get script j ≡ o → IsSome o → j < length script
    by None e some = absurd (let no : false ≡ true = some in cc)
    by (Some c) e some = slice_get_within script j c e

-- What holds of what each handle did by its commands holds of all that was done, where nobody else did any.
everyone : {C X : Type 0} (stamp : X → Stamp) (P : X → Type 0) (scripts : List (List C)) (xs : List X) → AllByRecursion (λ x. IsSome (entry_at scripts (stamp x).owner (stamp x).command)) xs →
    ((i : ℕ) (script : List C) → slice_get scripts i ≡ Some script → AllByRecursion (λ x. (stamp x).command < length script → P x) (filter (λ x. (stamp x).owner == i) xs)) → AllByRecursion P xs
everyone stamp P scripts [] known h = tt
everyone {C} {X} stamp P scripts (x ∷ xs) known h =
    (head (slice_get scripts (stamp x).owner) refl known.0, everyone stamp P scripts xs known.1 (λ i script at. behind-it i script ((stamp x).owner == i) (h i script at)))
  where
    others : ℕ → List X
    others i = filter (λ x. (stamp x).owner == i) xs

    behind-it : (i : ℕ) (script : List C) (b : Bool) → AllByRecursion (λ x. (stamp x).command < length script → P x) (cond b (x ∷ others i) (others i)) → AllByRecursion (λ x. (stamp x).command < length script → P x) (others i)
    behind-it i script true h = h.1
    behind-it i script false h = h

    head : (o : Option (List C)) → slice_get scripts (stamp x).owner ≡ o → IsSome (option_and_then (λ row. slice_get row (stamp x).command) o) → P x
    head None e some = absurd (let no : false ≡ true = some in cc)
    head (Some script) e some =
        (subst (λ (b : Bool). AllByRecursion (λ x. (stamp x).command < length script → P x) (cond b (x ∷ others (stamp x).owner) (others (stamp x).owner))) (eq-same (stamp x).owner) (h (stamp x).owner script e)).0
        (within-row script (stamp x).command some)

module _ {C T A E : Type 0} (speech : Speech C T A E) (whole : BookWhole speech) where
  module _ (course : Course DeskCall Reply) (fitting : AreFitting course.asked) (handle : ℕ) where
    one-command : (place : ℕ) (own : E) (c : C) → asked_of course handle place ≡ (outcome_in (meaning_of speech) course handle place own c).asked → AllByRecursion IsOneRequest (outcome_in (meaning_of speech) course handle place own c).requests
    one-command place own c all =
        let met = met_in course (requests_of course.book handle place) (questions_of course.asked handle place) in
        let words = words-alone (asked (speech.says own c)) (speech.ends own c) met [] in
        let same : questions_in (questions_of course.asked handle place) ≡ (outcome (asked (speech.says own c)) met []).asked = all ∙ ap (λ (o : Outcome DeskCall (Ending A E)). o.asked) words in
        let told = subst (λ (qs : List DeskCall). AreMatched qs met.told) same (matched (questions_of course.asked handle place) (fitting-filter (λ a. is_of handle place (record { stamp = a.stamp; parts = [] })) course.asked fitting)) in
        subst (λ (o : Outcome DeskCall (Ending A E)). AllByRecursion IsOneRequest o.requests) (sym words)
        (whole-outcome (speech.says own c) met [] (whole own c) told).each

    each-command : (place : ℕ) (own : E) (cs : List C) → AskedInOrder (meaning_of speech) course handle place own cs → (j : ℕ) → place ≤ j → j < place + length cs → AllByRecursion IsOneRequest (parts_of course handle j)
    each-command place own [] h j low high = absurd (omega (arith, low, high))
    each-command place own (c ∷ cs) (inl way) j low high = by (cases_lt place j)
      where
        by : (place < j) ⊎ (j ≤ place) → AllByRecursion IsOneRequest (parts_of course handle j)
        by (inl behind) = subst (λ (rs : List Request). AllByRecursion IsOneRequest (map (λ r. r.booking.parts) rs)) (sym (way.none_later j behind).0) tt
        by (inr here) =
            let same : place ≡ j = omega (arith, low, here) in
            subst (λ (n : ℕ). AllByRecursion IsOneRequest (parts_of course handle n)) same
            (begun-all (parts_of course handle place) (outcome_in (meaning_of speech) course handle place own c).requests (one-command place own c way.asked) way.requests)
    each-command place own (c ∷ cs) (inr (ending, ended, rest)) j low high = by (each-command (place + 1) ending.own cs rest j) (cases_lt place j)
      where
        by : (place + 1 ≤ j → j < place + 1 + length cs → AllByRecursion IsOneRequest (parts_of course handle j)) → (place < j) ⊎ (j ≤ place) → AllByRecursion IsOneRequest (parts_of course handle j)
        by later (inl behind) = later (omega (arith, behind)) (omega (arith, high))
        by later (inr here) =
            let same : place ≡ j = omega (arith, low, here) in
            subst (λ (n : ℕ). AllByRecursion IsOneRequest (parts_of course handle n)) same
            (subst (λ (l : List (List (List ℕ))). AllByRecursion IsOneRequest l) (sym ended.requests) (one-command place own c ended.asked))

  -- so of a script's commands
  of-parts : (many : ℕ) (j : ℕ) (rs : List Request) → (j < many → AllByRecursion IsOneRequest (map (λ r. r.booking.parts) rs)) → AllByRecursion (λ r. j < many → IsOneRequest r.booking.parts) rs
  of-parts many j [] h = tt
  of-parts many j (r ∷ rs) h = (λ lt. (h lt).0, of-parts many j rs (λ lt. (h lt).1))

  pub booked-whole : (scripts : List (List C)) (course : Course DeskCall Reply) → InScriptOrder (meaning_of speech) scripts course → AllByRecursion (λ b. IsOneRequest b.parts) course.book
  booked-whole scripts course h =
      everyone (λ b. b.stamp) (λ b. IsOneRequest b.parts) scripts course.book (recursion_from_All (λ (b : Booking). IsSome (entry_at scripts b.stamp.owner b.stamp.command)) course.book h.owners)
      (λ i script at.
      unnumbered (λ b. b.stamp.command < length script → IsOneRequest b.parts) (λ b. b.stamp.owner == i) 0 course.book
      (spread (λ r. r.booking.stamp) i (λ j r. j < length script → IsOneRequest r.booking.parts) (numbered 0 course.book)
      (λ j. of-parts (length script) j (requests_of course.book i j) (λ lt. each-command course (session-fitting [] course.asked h.told) i 0 speech.begins script (h.each i script at) j (omega arith) (omega (arith, lt))))))
