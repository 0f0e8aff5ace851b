-- A session of simple queries alone that ended well by the theorem on these ended well by the one on any commands.
use Rattle.std.proofs.Common.{◌≡◌, ℕ, zero, suc, ◌+◌, ◌<◌, ◌≤◌, arith, List, [], ◌∷◌, length, map, Option, Some, None, option_map, Result, Ok, Err, refl, sym, subst}
use Rattle.std.specs.Prelude.{IsSome, slice_get}
use Rattle.std.proofs.lemmas.List.Elements.{All-from_recursion}
use Rattle.std.proofs.lemmas.List.Sorted.{IsNonDecreasingBy-from_all_adjacent}
use Rattle.pg_spec.specs.Book.{request_of}
use Rattle.pg_spec.specs.Faults.{FrameFault, Encode, Frame}
use Rattle.pg_spec.specs.Frames.{query_frame}
use Rattle.pg_spec.specs.Readings.{Decision}
use Rattle.pg_spec.specs.Report.{Answer, Command, Failed, Simple, simple_answer}
use Rattle.pg_spec.specs.SimpleQuery.{SimpleAnswer, simple_decision}
use Rattle.pg_spec.specs.Turns.{Times, entry_at, free_from}
use Rattle.pg_promises.specs.EndedWell as simple
use Rattle.pg_spec.specs.Courses.{Asked, Course, Unfolds, begun_in, nowhere, questions_of, requests_of}
use Rattle.pg_spec.specs.Dialogues.{Dialogue}
use Rattle.pg_spec.specs.Meanings.{Did, Ending, Meaning}
use Rattle.pg_spec.specs.Simples.{AreSimple, IsAsBefore, simple_query}
use Rattle.pg_spec.proofs.SimpleBack.{from-before, mapped}
use Rattle.pg_promises.specs.Endings.{EndedWell, Session, course_of, replies}
use Rattle.pg_promises.specs.Landed.{session_of, simply}

-- ---- the answer

-- an answer that stands, by the frame of its text and the number of its request
record Stands (answered : Option Answer) (f : Result (List ℕ) FrameFault) (request : Option ℕ) (read : ℕ → Option SimpleAnswer) : Type 0 where
  answer : SimpleAnswer
  is : answered ≡ Some (simple_answer answer)
  by : Some answer ≡ elim f as (λ _. Option SimpleAnswer) [
    | Err fault ↦ Some (Err (Encode (Frame fault)))
    | Ok frame ↦ elim request as (λ _. Option SimpleAnswer) [ None ↦ None | Some k ↦ read k ]
  ]

stands-by : (answered : Option Answer) (f : Result (List ℕ) FrameFault) (request : Option ℕ) (decide : ℕ → Option (Decision SimpleAnswer)) (delivered : ℕ → ℕ) →
    answered ≡ elim f as (λ _. Option Answer) [
      | Err fault ↦ Some (Failed (Encode (Frame fault)))
      | Ok frame ↦ elim request as (λ _. Option Answer) [ None ↦ None | Some k ↦ option_map simple_answer (option_map (λ (d : Decision SimpleAnswer). d.answer) (decide k)) ]
    ] →
    (elim f as (λ _. Type 0) [
      | Err fault ↦ Unit {0}
      | Ok frame ↦ elim request as (λ _. Type 0) [ None ↦ ⊥ | Some k ↦ elim (decide k) as (λ _. Type 0) [ None ↦ ⊥ | Some d ↦ d.after ≤ delivered k ] ]
    ]) → Stands answered f request (λ k. option_map (λ (d : Decision SimpleAnswer). d.answer) (decide k))
stands-by answered (Err fault) request decide delivered is holds = record { answer = Err (Encode (Frame fault)); is = is; by = refl }
stands-by answered (Ok frame) None decide delivered is holds = absurd holds
stands-by answered (Ok frame) (Some k) decide delivered is holds =
    let a = of-decision (decide k) is holds in
    record { answer = a.0; is = a.1; by = a.2 }
  where
    of-decision : (o : Option (Decision SimpleAnswer)) → answered ≡ option_map simple_answer (option_map (λ (d : Decision SimpleAnswer). d.answer) o) →
        (elim o as (λ _. Type 0) [ None ↦ ⊥ | Some d ↦ d.after ≤ delivered k ]) →
        (a : SimpleAnswer) × (answered ≡ Some (simple_answer a)) × (Some a ≡ option_map (λ (d : Decision SimpleAnswer). d.answer) o)
    of-decision None e h = absurd h
    of-decision (Some d) e h = (d.answer, e, refl)

-- ---- what scripts have

-- a script that leaves all as it was
abbrev kept : {C E : Type 0} → E → List C → List E
kept own [] = own ∷ []
kept own (c ∷ cs) = own ∷ kept own cs

kept-before : {C E : Type 0} (own : E) (cs : List C) (j : ℕ) (c : C) → slice_get cs j ≡ Some c → slice_get (kept own cs) j ≡ Some own
kept-before own [] j c e = absurd cc
kept-before own (x ∷ cs) zero c e = refl
kept-before own (x ∷ cs) (suc j) c e = kept-before own cs j c e

kept-first : {C E : Type 0} (own : E) (cs : List C) → slice_get (kept own cs) 0 ≡ Some own
kept-first own [] = refl
kept-first own (c ∷ cs) = refl

kept-behind : {C E : Type 0} (own : E) (cs : List C) (j : ℕ) (c : C) → slice_get cs j ≡ Some c → slice_get (kept own cs) (suc j) ≡ Some own
kept-behind own [] j c e = absurd cc
kept-behind own (x ∷ cs) zero c e = kept-first own cs
kept-behind own (x ∷ cs) (suc j) c e = kept-behind own cs j c e

all-kept : {C E : Type 0} (own : E) (rows : List (List C)) (i j : ℕ) (c : C) → entry_at rows i j ≡ Some c → entry_at (map (kept own) rows) i j ≡ Some own
all-kept own [] i j c e = absurd cc
all-kept own (cs ∷ rows) zero j c e = kept-before own cs j c e
all-kept own (cs ∷ rows) (suc i) j c e = all-kept own rows i j c e

all-kept-behind : {C E : Type 0} (own : E) (rows : List (List C)) (i j : ℕ) (c : C) → entry_at rows i j ≡ Some c → entry_at (map (kept own) rows) i (suc j) ≡ Some own
all-kept-behind own [] i j c e = absurd cc
all-kept-behind own (cs ∷ rows) zero j c e = kept-behind own cs j c e
all-kept-behind own (cs ∷ rows) (suc i) j c e = all-kept-behind own rows i j c e

all-new : {C E : Type 0} (own : E) (rows : List (List C)) (i : ℕ) → i < length rows → entry_at (map (kept own) rows) i 0 ≡ Some own
all-new own [] i lt = absurd (omega (arith, lt))
all-new own (cs ∷ rows) zero lt = kept-first own cs
all-new own (cs ∷ rows) (suc i) lt = all-new own rows i (omega (arith, lt))

-- ---- a session

module _ {E Q R : Type 0} (meaning : Meaning Command Answer E Q R) (are : AreSimple meaning simply) (s : Session Command Answer) (taken : List ℕ) (ended : simple.EndedWell (session_of s) taken) where
  abbrev course : Course Q R
  course = course_of s.report (replies s) []

  abbrev states : List (List E)
  states = map (kept meaning.begins) s.scripts

  did : (handle place : ℕ) (command : Command) (times : Times) → entry_at s.scripts handle place ≡ Some command → entry_at ended.schedule handle place ≡ Some times →
      Did meaning course states s.report.answers handle place command times
  did handle place (Simple text wanted) times ec et =
      let own : E = meaning.begins in
      let in_turn = ended.answers_in_turn handle place (Simple text wanted) times ec et in
      let request = request_of s.report.book handle place in
      let a = stands-by (entry_at s.report.answers handle place) (query_frame text) request (λ k. simple_decision wanted (simple.reply (session_of s) k)) (λ k. simple.delivered_of (session_of s) k times.answers)
      (ended.answers handle place (Simple text wanted) times ec et) in_turn.holds in
      let before : IsAsBefore course handle place text wanted times a.answer = record {
        own_request = ended.has_run.own_request handle place (Simple text wanted) times ec et;
        answers = a.by;
        answers_in_turn = in_turn;
      } in
      let u = from-before course handle place text wanted times a.answer (free_from ended.schedule handle place) nowhere (ended.has_run.begins handle place times et) refl before in
      let told : SimpleAnswer → Ending Answer E = (λ x. record { answer = simple_answer x; own = own }) in
      record {
        before = own;
        had = all-kept own s.scripts handle place (Simple text wanted) ec;
        ending = told a.answer;
        answered = a.is;
        has = subst (λ (j : ℕ). entry_at states handle j ≡ Some own) (let e : suc place ≡ place + 1 = omega arith in e) (all-kept-behind own s.scripts handle place (Simple text wanted) ec);
        at = u.0;
        in_turn = u.1;
        unfolds = subst (λ (d : Dialogue Q R (Ending Answer E)). Unfolds course handle (begun_in nowhere times.begins) d (requests_of course.book handle place) (questions_of course.asked handle place) (record { at = u.0; answer = told a.answer }))
            (sym (are own (Simple text wanted) text wanted refl))
            (mapped course handle (begun_in nowhere times.begins) (simple_query text wanted) told (requests_of course.book handle place) (questions_of course.asked handle place) u.0 a.answer u.2);
      }

  pub ended-well-back : EndedWell meaning s taken
  ended-well-back = record {
    asked = [];
    has_run = record {
      schedule = ended.schedule;
      states = states;
      one_answer_each = ended.has_run.one_answer_each;
      one_time_each = ended.has_run.one_time_each;
      new = λ handle lt. all-new meaning.begins s.scripts handle lt;
      turns_made = ended.has_run.turns_made;
      begins = ended.has_run.begins;
      did = did;
      no_other = ended.has_run.no_other;
      in_order = ended.has_run.in_order;
      asked_first = ended.asked_first;
      none_asked_beside = All-from_recursion (λ (a : Asked Q R). IsSome (entry_at s.scripts a.stamp.owner a.stamp.command)) [] tt;
      asked_in_order = IsNonDecreasingBy-from_all_adjacent (λ (a : Asked Q R). a.stamp.turn) [] (λ k d lt. absurd (omega (arith, lt)));
      told = tt;
    };
    no_tls = ended.no_tls;
    started = ended.started;
    one_group_each = ended.one_group_each;
    whole_groups = ended.whole_groups;
    no_bad_header = ended.no_bad_header;
    sent = ended.sent;
    reported = ended.reported;
    delivered_front = ended.delivered_front;
    delivered_all = ended.delivered_all;
    readable = ended.readable;
    asynchronous = ended.asynchronous;
    parameters = ended.parameters;
    key = ended.key;
  }
