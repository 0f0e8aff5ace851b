-- What a session had sent that failed, told in other words, is what it had sent.
use Rattle.std.proofs.Common.{◌≡◌, inl, inr, ℕ, ◌+◌, ◌≤◌, ◌<◌, cond, List, [], ◌∷◌, length, map, Option, Some, None, option_map, Result, Ok, Err, refl, sym, ap, subst, ◌∙◌, nat_lt, slice_get, take, drop}
use Rattle.std.specs.Prelude.{All, IfSome, IsSome, count_by}
use Rattle.std.proofs.lemmas.List.{length-map}
use Rattle.std.proofs.lemmas.List.Sums.{sum_by-cons}
use Rattle.std.proofs.lemmas.List.Elements.{All-map, All-weaker}
use Rattle.std.proofs.lemmas.Option.{same_Some, slice_get-map}
use Rattle.pg_spec.specs.Book.{Booking}
use Rattle.pg_spec.specs.Faults.{Failure, Stalled, Tls}
use Rattle.pg_spec.specs.RawMessages.{RawMessage}
use Rattle.pg_spec.specs.Sent.{whole_units}
use Rattle.pg_spec.specs.Settings.{Settings}
use Rattle.pg_spec.specs.Startup.{Done}
use Rattle.pg_spec.specs.Turns.{entry_at}
use Rattle.pg_spec.specs.Courses.{Asked, Course, Met, Outcome, met_in, nothing_yet, outcome, past_reply, first_reply, questions_of, requests_of, with_part, with_question, with_request, with_sent}
use Rattle.pg_spec.specs.Dialogues.{Answers, Asks, Calls, Closes, Dialogue, Puts, Reads, Sends, behind, decided_after}
use Rattle.pg_spec.specs.Meanings.{Ending, Meaning}
use Rattle.pg_promises.specs.Calls.{Call, apart}
use Rattle.pg_promises.specs.Causes.{startup_after}
use Rattle.pg_promises.proofs.Kept.{map-bytes}
use Rattle.pg_promises.specs.Kept.{AllWentOut, AsksAtOnce, BeginsWithRequest, CopiesNothing, HasNoCopy, NoneKeptBack}
use Rattle.pg_promises.specs.Sent.{AreBegun, AskedInOrder, InScriptOrder, SentInOrder, course_so_far, outcome_in, parts_of}
use Rattle.pg_table.proofs.Renamed.{some-back}

-- the same outcome, whose answer is told so
abbrev renamed : {Q A B : Type 0} → (A → B) → Outcome Q A → Outcome Q B
renamed g o = record { parts = o.parts; requests = o.requests; asked = o.asked; answer = option_map g o.answer; left = o.left }

outcome-renamed : {Q R A B : Type 0} (g : A → B) (d : Dialogue Q R A) (met : Met R) (left : List RawMessage) →
    outcome (behind d (λ a. let x : Dialogue Q R B = Answers (g a) in x)) met left ≡ renamed g (outcome d met left)
outcome-renamed g (Answers a) met left = refl
outcome-renamed g (Asks copying part d) met left = ap (with_request part) (outcome-renamed g d (past_reply met) (first_reply met.replies))
outcome-renamed g (Sends part d) met left = ap (with_sent part) (outcome-renamed g d (past_reply met) left)
outcome-renamed {Q} {R} {A} {B} g (Reads decides next) met left = by (decided_after decides left) (λ n. outcome-renamed g (next (take n left)) met (drop n left))
  where
    by : (o : Option ℕ) → ((n : ℕ) → outcome (behind (next (take n left)) (λ a. Answers (g a))) met (drop n left) ≡ renamed g (outcome (next (take n left)) met (drop n left))) → ◌≡◌ {A = Outcome Q B}
        (elim o as (λ _. Outcome Q B) [ None ↦ nothing_yet | Some n ↦ outcome (behind (next (take n left)) (λ a. Answers (g a))) met (drop n left) ])
        (renamed g (elim o as (λ _. Outcome Q A) [ None ↦ nothing_yet | Some n ↦ outcome (next (take n left)) met (drop n left) ]))
    by None h = refl
    by (Some n) h = h n
outcome-renamed g (Puts part d) met left = ap (with_part part) (outcome-renamed g d met left)
outcome-renamed g (Closes part d) met left = ap (with_part part) (outcome-renamed g d met left)
outcome-renamed {Q} {R} {A} {B} g (Calls q next) met left = by met.told (λ r told. outcome-renamed g (next r) (record { replies = met.replies; told = told }) left)
  where
    by : (rs : List R) → ((r : R) (told : List R) →
        outcome (behind (next r) (λ a. Answers (g a))) (record { replies = met.replies; told = told }) left ≡ renamed g (outcome (next r) (record { replies = met.replies; told = told }) left)) → ◌≡◌ {A = Outcome Q B}
        (elim rs as (λ _. Outcome Q B) [ [] ↦ nothing_yet | r ∷ told ↦ with_question q (outcome (behind (next r) (λ a. Answers (g a))) (record { replies = met.replies; told = told }) left) ])
        (renamed g (elim rs as (λ _. Outcome Q A) [ [] ↦ nothing_yet | r ∷ told ↦ with_question q (outcome (next r) (record { replies = met.replies; told = told }) left) ]))
    by [] h = refl
    by (r ∷ told) h = ap (with_question q) (h r told)

-- ---- at once

begins-on : {Q R A B : Type 0} (g : A → B) (d : Dialogue Q R A) → BeginsWithRequest d → BeginsWithRequest (behind d (λ a. let x : Dialogue Q R B = Answers (g a) in x))
begins-on g (Answers a) h = absurd h
begins-on g (Asks copying part d) h = tt
begins-on g (Sends part d) h = h
begins-on g (Reads decides next) h = h
begins-on g (Puts part d) h = h
begins-on g (Closes part d) h = h
begins-on g (Calls q next) h = h

no-copy-on : {Q R A B : Type 0} (g : A → B) (d : Dialogue Q R A) → HasNoCopy d → HasNoCopy (behind d (λ a. let x : Dialogue Q R B = Answers (g a) in x))
no-copy-on g (Answers a) h = tt
no-copy-on g (Asks copying part d) h = (h.0, no-copy-on g d h.1)
no-copy-on g (Sends part d) h = no-copy-on g d h
no-copy-on g (Reads decides next) h = λ ms. no-copy-on g (next ms) (h ms)
no-copy-on g (Puts part d) h = no-copy-on g d h
no-copy-on g (Closes part d) h = no-copy-on g d h
no-copy-on g (Calls q next) h = λ r. no-copy-on g (next r) (h r)

same-count : {C D : Type 0} (f : C → D) (scripts : List (List C)) → count_by (λ script. nat_lt 0 (length script)) (map (map f) scripts) ≡ count_by (λ script. nat_lt 0 (length script)) scripts
same-count f [] = refl
same-count {C} {D} f (script ∷ scripts) =
    sum_by-cons (λ (row : List D). cond (nat_lt 0 (length row)) 1 0) (map f script) (map (map f) scripts)
    ∙ ap (λ (n : ℕ). cond (nat_lt 0 n) 1 0 + count_by (λ row. nat_lt 0 (length row)) (map (map f) scripts)) (length-map script f)
    ∙ ap (λ (n : ℕ). cond (nat_lt 0 (length script)) 1 0 + n) (same-count f scripts)
    ∙ sym (sum_by-cons (λ (row : List C). cond (nat_lt 0 (length row)) 1 0) script scripts)

module _ {C D A B E Q R : Type 0} (meaning : Meaning C A E Q R) (asks : E → D → Dialogue Q R (Ending B E)) (f : C → D) (g : A → B)
    (same : (own : E) (c : C) → asks own (f c) ≡ behind (meaning.asks own c) (λ e. Answers (record { answer = g e.answer; own = e.own }))) where
  abbrev new : Meaning D B E Q R
  new = record { begins = meaning.begins; asks = asks; tells = meaning.tells }

  abbrev in_new : Ending A E → Ending B E
  in_new e = record { answer = g e.answer; own = e.own }

  same-outcome : (course : Course Q R) (handle place : ℕ) (own : E) (c : C) → outcome_in new course handle place own (f c) ≡ renamed in_new (outcome_in meaning course handle place own c)
  same-outcome course handle place own c =
      let met : Met R = met_in course (requests_of course.book handle place) (questions_of course.asked handle place) in
      ap (λ (d : Dialogue Q R (Ending B E)). outcome d met []) (same own c) ∙ outcome-renamed in_new (meaning.asks own c) met []

  -- an answer that is told was given
  answered-back : (o : Option (Ending A E)) (e : Ending B E) → option_map in_new o ≡ Some e → (x : Ending A E) × (o ≡ Some x) × (in_new x ≡ e)
  answered-back None e h = absurd cc
  answered-back (Some x) e h = (x, refl, same_Some (in_new x) e h)

  asked-back : (course : Course Q R) (handle place : ℕ) (own : E) (cs : List C) → AskedInOrder new course handle place own (map f cs) → AskedInOrder meaning course handle place own cs
  asked-back course handle place own [] h = tt
  asked-back course handle place own (c ∷ cs) (inl u) =
      let o = same-outcome course handle place own c in
      inl (record {
        requests = subst (λ (rs : List (List (List ℕ))). AreBegun (parts_of course handle place) rs) (ap (λ (x : Outcome Q (Ending B E)). x.requests) o) u.requests;
        asked = u.asked ∙ ap (λ (x : Outcome Q (Ending B E)). x.asked) o;
        none_later = u.none_later;
      })
  asked-back course handle place own (c ∷ cs) (inr (ending, ended, rest)) =
      let o = same-outcome course handle place own c in
      let a = answered-back (outcome_in meaning course handle place own c).answer ending (sym (ap (λ (x : Outcome Q (Ending B E)). x.answer) o) ∙ ended.answered) in
      inr (
        a.0,
        record {
          requests = ended.requests ∙ ap (λ (x : Outcome Q (Ending B E)). x.requests) o;
          asked = ended.asked ∙ ap (λ (x : Outcome Q (Ending B E)). x.asked) o;
          answered = a.1;
          none_before = sym (ap (λ (x : Outcome Q (Ending B E)). x.parts) o) ∙ ended.none_before;
        },
        asked-back course handle (place + 1) a.0.own cs (subst (λ (e : Ending B E). AskedInOrder new course handle (place + 1) e.own (map f cs)) (sym a.2) rest),
      )

  pub order-back : (scripts : List (List C)) (course : Course Q R) → InScriptOrder new (map (map f) scripts) course → InScriptOrder meaning scripts course
  order-back scripts course h = record {
    owners = All-weaker (λ (b : Booking). IsSome (entry_at (map (map f) scripts) b.stamp.owner b.stamp.command)) (λ b. IsSome (entry_at scripts b.stamp.owner b.stamp.command)) (λ b some. some-back f scripts b.stamp.owner b.stamp.command some) course.book h.owners;
    askers = All-weaker (λ (a : Asked Q R). IsSome (entry_at (map (map f) scripts) a.stamp.owner a.stamp.command)) (λ a. IsSome (entry_at scripts a.stamp.owner a.stamp.command)) (λ a some. some-back f scripts a.stamp.owner a.stamp.command some) course.asked h.askers;
    in_order = h.in_order;
    asked_in_order = h.asked_in_order;
    each = λ handle script at.
        asked-back course handle 0 meaning.begins script (h.each handle (map f script) (slice_get-map (map f) scripts handle ∙ ap (λ (o : Option (List C)). option_map (map f) o) at));
    told = h.told;
    ended = h.ended;
  }

  -- the call with its scripts in the new words
  abbrev pub in_new_words : Call C → Call D
  in_new_words call = record { config = call.config; nonce = call.nonce; scripts = map (map f) call.scripts; turns = call.turns; limit = call.limit; before = call.before; after = call.after }

  pub sent-back : (call : Call C) (s : Settings) (given taken : List ℕ) → SentInOrder new (in_new_words call) s given taken → SentInOrder meaning call s given taken
  sent-back call s given taken h = record {
    book = h.book;
    asked = h.asked;
    order = order-back call.scripts (course_so_far call s given h.book h.asked) h.order;
    front = h.front;
  }

  first-on : (script : List C) → IfSome (slice_get script 0) (λ c. BeginsWithRequest (meaning.asks meaning.begins c)) → IfSome (slice_get (map f script) 0) (λ c. BeginsWithRequest (asks meaning.begins c))
  first-on [] h = tt
  first-on (c ∷ script) h = subst (λ (d : Dialogue Q R (Ending B E)). BeginsWithRequest d) (sym (same meaning.begins c)) (begins-on in_new (meaning.asks meaning.begins c) h)

  copies-on : (script : List C) → CopiesNothing meaning script → CopiesNothing new (map f script)
  copies-on script h = All-map (λ (c : D). (own : E) → HasNoCopy (asks own c)) f script
      (All-weaker (λ (c : C). (own : E) → HasNoCopy (meaning.asks own c)) (λ (c : C). (own : E) → HasNoCopy (asks own (f c)))
      (λ c none own. subst (λ (d : Dialogue Q R (Ending B E)). HasNoCopy d) (sym (same own c)) (no-copy-on in_new (meaning.asks own c) (none own))) script h)

  script-on : (script : List C) → AsksAtOnce meaning script → AsksAtOnce new (map f script)
  script-on script h = record {
    first = first-on script h.first;
    no_copy = copies-on script h.no_copy;
  }

  all-on : (scripts : List (List C)) → All (AsksAtOnce meaning) scripts → All (AsksAtOnce new) (map (map f) scripts)
  all-on scripts h = All-map (AsksAtOnce new) (map f) scripts (All-weaker (AsksAtOnce meaning) (λ (script : List C). AsksAtOnce new (map f script)) script-on scripts h)

  none-on : (scripts : List (List C)) → All (CopiesNothing meaning) scripts → All (CopiesNothing new) (map (map f) scripts)
  none-on scripts h = All-map (CopiesNothing new) (map f) scripts (All-weaker (CopiesNothing meaning) (λ (script : List C). CopiesNothing new (map f script)) copies-on scripts h)

  out-back : (call : Call C) (s : Settings) (given taken : List ℕ) → AllWentOut new (in_new_words call) s given taken → AllWentOut meaning call s given taken
  unfolding sent-back
  out-back call s given taken h = record {
    asked = sent-back call s given taken h.asked;
    whole = h.whole;
    ended = h.ended;
    own = λ handle script at some at_once.
        h.own handle (map f script) (slice_get-map (map f) call.scripts handle ∙ ap (λ (o : Option (List C)). option_map (map f) o) at)
        (subst (λ (n : ℕ). 0 < n) (sym (length-map script f)) some) (script-on script at_once);
    count = λ all. subst (λ (n : ℕ). n ≤ whole_units taken) (same-count f call.scripts) (h.count (all-on call.scripts all));
  }

  pub kept-back : {X : Type 0} (call : Call C) (result : Result X Failure) → NoneKeptBack new (in_new_words call) result → NoneKeptBack meaning call result
  kept-back call (Ok report) h = h
  kept-back call (Err (Stalled before after)) h = λ steady none.
      let d = h steady (none-on call.scripts none) in (
        d.0,
        d.1,
        map-bytes call.before call.after (λ given taken. ((used : ℕ) × ((startup_after (apart call) d.0 given).outcome ≡ Done used)) → AllWentOut new (in_new_words call) d.0 given taken)
            (λ given taken. ((used : ℕ) × ((startup_after (apart call) d.0 given).outcome ≡ Done used)) → AllWentOut meaning call d.0 given taken)
            (λ given taken sent started. out-back call d.0 given taken (sent started)) d.2,
      )
  kept-back call (Err (Tls cause)) h = h
  kept-back call (Err _) h = h
