-- What came of a command so far is no more than what is foreseen of it by all replies.
use Rattle.std.proofs.Common.{◌≡◌, ℕ, ◌+◌, ◌≤◌, suc, List, [], ◌∷◌, ◌++◌, length, map, take, drop, append-nil, append_assoc, Bool, true, false, if◌then◌else◌, Option, Some, None, option_map, refl, sym, ap, subst, ◌∙◌, arith}
use Rattle.pg_desk.specs.History.{IsFrontOf}
use Rattle.pg_spec.specs.Courses.{Asked, Outcome, first_reply, later_replies, nothing_yet, outcome}
use Rattle.pg_spec.specs.Dialogues.{Dialogue, Answers, Asks, Sends, Reads, Puts, Closes, Calls, decided_after}
use Rattle.pg_spec.specs.Meanings.{AreTold}
use Rattle.pg_spec.specs.RawMessages.{RawMessage}
use Rattle.pg_tool.proofs.Foreseen.{foreseen}

-- of those replies these came, each so far
abbrev pub HaveCome : List (List RawMessage) → List (List RawMessage) → Type 0
HaveCome [] ys = Unit {0}
HaveCome (x ∷ xs) ys = IsFrontOf x (first_reply ys) × HaveCome xs (later_replies ys)

-- no more requests came of it, and where it answered, the same answer and as much
pub record Within {Q A : Type 0} (o p : Outcome Q A) : Type 0 where
  pub requests : length o.requests ≤ length p.requests
  pub answered : (a : A) → o.answer ≡ Some a → (p.answer ≡ Some a) × (p.asked ≡ o.asked) × (length p.requests ≡ length o.requests)

-- ---- where a front decides

-- the front decides by as many of its messages, and so does the whole
pub record DecidesSo (decides : List RawMessage → Bool) (xs ys : List RawMessage) (n : ℕ) : Type 0 where
  pub decided : decided_after decides ys ≡ Some n
  pub read : take n ys ≡ take n xs
  pub left : IsFrontOf (drop n xs) (drop n ys)

by-one : (o : Option ℕ) (n : ℕ) → option_map (λ (k : ℕ). k + 1) o ≡ Some n → (k : ℕ) × (o ≡ Some k) × (n ≡ suc k)
by-one None n e = absurd cc
by-one (Some k) n e = (k, refl, (let same : k + 1 ≡ n = cc in omega (arith, same)))

decides-so : (decides : List RawMessage → Bool) (xs more : List RawMessage) (n : ℕ) → decided_after decides xs ≡ Some n → DecidesSo decides xs (xs ++ more) n
decides-so decides [] more n e = absurd cc
decides-so decides (x ∷ xs) more n e = by (decides (x ∷ [])) refl e (λ k d. decides-so (λ front. decides (x ∷ front)) xs more k d)
  where
    by : (b : Bool) → decides (x ∷ []) ≡ b → (if b then Some 1 else option_map (λ (k : ℕ). k + 1) (decided_after (λ front. decides (x ∷ front)) xs)) ≡ Some n →
        ((k : ℕ) → decided_after (λ front. decides (x ∷ front)) xs ≡ Some k → DecidesSo (λ front. decides (x ∷ front)) xs (xs ++ more) k) → DecidesSo decides (x ∷ xs) (x ∷ (xs ++ more)) n
    by true is e later =
        let one : 1 ≡ n = cc in
        subst (λ (k : ℕ). DecidesSo decides (x ∷ xs) (x ∷ (xs ++ more)) k) one (record {
          decided = ap (λ (b : Bool). if b then Some 1 else option_map (λ (k : ℕ). k + 1) (decided_after (λ front. decides (x ∷ front)) (xs ++ more))) is;
          read = refl;
          left = (more, refl);
        })
    by false is e later =
        let w = by-one (decided_after (λ front. decides (x ∷ front)) xs) n e in
        let r = later w.0 w.1 in
        let next : w.0 + 1 ≡ suc w.0 = omega arith in
        subst (λ (k : ℕ). DecidesSo decides (x ∷ xs) (x ∷ (xs ++ more)) k) (sym w.2) (record {
          decided = ap (λ (b : Bool). if b then Some 1 else option_map (λ (k : ℕ). k + 1) (decided_after (λ front. decides (x ∷ front)) (xs ++ more))) is
              ∙ ap (option_map (λ (k : ℕ). k + 1)) r.decided ∙ ap (λ (k : ℕ). Some k) next;
          read = ap (λ (l : List RawMessage). x ∷ l) r.read;
          left = r.left;
        })

decides-whole : (decides : List RawMessage → Bool) (xs ys : List RawMessage) (n : ℕ) → IsFrontOf xs ys → decided_after decides xs ≡ Some n → DecidesSo decides xs ys n
decides-whole decides xs ys n (more, is) e = subst (λ (l : List RawMessage). DecidesSo decides xs l n) is (decides-so decides xs more n e)

fronts-first : (xs ys : List (List RawMessage)) → HaveCome xs ys → IsFrontOf (first_reply xs) (first_reply ys)
fronts-first [] ys h = (first_reply ys, refl)
fronts-first (x ∷ xs) ys h = h.0

fronts-later : (xs ys : List (List RawMessage)) → HaveCome xs ys → HaveCome (later_replies xs) (later_replies ys)
fronts-later [] ys h = tt
fronts-later (x ∷ xs) ys h = h.1

-- what was asked
abbrev pub questions : {Q R : Type 0} → List (Asked Q R) → List Q
questions {Q} {R} asked = map (λ (a : Asked Q R). a.question) asked

-- what was told of the first of these questions, and behind them of the others
pub told-append : {Q R : Type 0} (tells : List Q → Q → R) (before : List Q) (xs ys : List (Asked Q R)) → AreTold tells before (xs ++ ys) →
    AreTold tells before xs × AreTold tells (before ++ questions xs) ys
told-append tells before [] ys h = (tt, subst (λ l. AreTold tells l ys) (sym (append-nil before)) h)
told-append tells before (x ∷ xs) ys h =
    let r = told-append tells (before ++ x.question ∷ []) xs ys h.1 in
    ((h.0, r.0), subst (λ l. AreTold tells l ys) (append_assoc before (x.question ∷ []) (questions xs)) r.1)

module _ {Q R A : Type 0} (tells : List Q → Q → R) where
  abbrev so-far : Dialogue Q R A → List (Asked Q R) → List (List RawMessage) → List RawMessage → Outcome Q A
  so-far d asked replies left = outcome d (record { replies = replies; told = map (λ (a : Asked Q R). a.reply) asked }) left

  abbrev chosen : Option ℕ → (ℕ → Outcome Q A) → Outcome Q A
  chosen o f = elim o as (λ _. Outcome Q A) [ None ↦ nothing_yet | Some n ↦ f n ]

  nothing : (p : Outcome Q A) → Within nothing_yet p
  nothing p = record { requests = omega arith; answered = λ a e. absurd cc }

  -- Where it was told so, and this is all that it asked, no more came of it.
  pub within : (d : Dialogue Q R A) (before : List Q) (asked : List (Asked Q R)) (replies all : List (List RawMessage)) (left whole : List RawMessage) →
      AreTold tells before asked → HaveCome replies all → IsFrontOf left whole → questions asked ≡ (so-far d asked replies left).asked →
      Within (so-far d asked replies left) (foreseen tells d before all whole)
  within (Answers a) before asked replies all left whole told came front are = record { requests = omega arith; answered = λ b e. (e, refl, refl) }
  within (Asks copying part d) before asked replies all left whole told came front are =
      let r = within d before asked (later_replies replies) (later_replies all) (first_reply replies) (first_reply all) told (fronts-later replies all came) (fronts-first replies all came) are in
      record {
        requests = omega (arith, r.requests);
        answered = λ a e. let s = r.answered a e in (s.0, s.1, ap suc s.2);
      }
  within (Sends part d) before asked replies all left whole told came front are =
      let r = within d before asked (later_replies replies) (later_replies all) left whole told (fronts-later replies all came) front are in
      record {
        requests = omega (arith, r.requests);
        answered = λ a e. let s = r.answered a e in (s.0, s.1, ap suc s.2);
      }
  within (Reads decides next) before asked replies all left whole told came front are = by (decided_after decides left) refl are
      (λ n rest f e. within (next (take n left)) before asked replies all (drop n left) rest told came f e)
    where
      by : (o : Option ℕ) → decided_after decides left ≡ o → questions asked ≡ (chosen o (λ n. so-far (next (take n left)) asked replies (drop n left))).asked →
          ((n : ℕ) (rest : List RawMessage) → IsFrontOf (drop n left) rest → questions asked ≡ (so-far (next (take n left)) asked replies (drop n left)).asked →
          Within (so-far (next (take n left)) asked replies (drop n left)) (foreseen tells (next (take n left)) before all rest)) →
          Within (chosen o (λ n. so-far (next (take n left)) asked replies (drop n left)))
          (chosen (decided_after decides whole) (λ n. foreseen tells (next (take n whole)) before all (drop n whole)))
      by None is are later = nothing _
      by (Some n) is are later =
          let so = decides-whole decides left whole n front is in
          let r = later n (drop n whole) so.left are in
          subst (λ (o : Option ℕ). Within (so-far (next (take n left)) asked replies (drop n left)) (chosen o (λ n. foreseen tells (next (take n whole)) before all (drop n whole)))) (sym so.decided)
          (subst (λ (l : List RawMessage). Within (so-far (next (take n left)) asked replies (drop n left)) (foreseen tells (next l) before all (drop n whole))) (sym so.read) r)
  within (Puts part d) before asked replies all left whole told came front are =
      let r = within d before asked replies all left whole told came front are in
      record { requests = r.requests; answered = r.answered }
  within (Closes part d) before asked replies all left whole told came front are =
      let r = within d before asked replies all left whole told came front are in
      record { requests = r.requests; answered = r.answered }
  within (Calls q next) before [] replies all left whole told came front are = nothing _
  within (Calls q next) before (a ∷ asked) replies all left whole told came front are =
      let same : a.question ≡ q = cc in
      let reply : a.reply ≡ tells before q = told.0 ∙ ap (tells before) same in
      let rest : AreTold tells (before ++ q ∷ []) asked = subst (λ (x : Q). AreTold tells (before ++ x ∷ []) asked) same told.1 in
      let later : questions asked ≡ (so-far (next a.reply) asked replies left).asked = cc in
      let r = within (next a.reply) (before ++ q ∷ []) asked replies all left whole rest came front later in
      let s = subst (λ (x : R). Within (so-far (next a.reply) asked replies left) (foreseen tells (next x) (before ++ q ∷ []) all whole)) reply r in
      record {
        requests = s.requests;
        answered = λ b e. let u = s.answered b e in (u.0, ap (λ (l : List Q). q ∷ l) u.1, u.2);
      }
