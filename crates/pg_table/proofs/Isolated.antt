-- What each command answered, and that two which read the same did the same.
use Rattle.std.proofs.Common.{◌≡◌, ℕ, List, [], Some, refl, sym, ap, ◌∙◌}
use Rattle.std.proofs.lemmas.Option.{same_Some}
use Rattle.pg_spec.specs.Turns.{Times, entry_at}
use Rattle.pg_spec.specs.Courses.{Course, Outcome, begun_in, nowhere, questions_of, requests_of, unread}
use Rattle.pg_spec.specs.Isolation.{DidSo, IsByNames}
use Rattle.pg_spec.specs.Meanings.{Did, Ending, HasRun, Meaning}
use Rattle.pg_spec.proofs.Outcomes.{comes, same-by-names}
use Rattle.pg_promises.specs.Sent.{asked_of, outcome_in, parts_of}
use Rattle.pg_table.specs.Reads.{AnswersByReads, AreIsolated, EachAnswers, Reads, Stands}
use Rattle.pg_table.proofs.Entries.{other-entry}

-- ---- one session

module _ {C A E Q R : Type 0} (meaning : Meaning C A E Q R) (scripts : List (List C)) (turns : List ℕ) (answers : List (List A)) (course : Course Q R)
    (run : HasRun meaning scripts turns answers course) where
  -- a command at its place, with its times
  record Found (handle place : ℕ) (c : C) : Type 0 where
    pub times : Times
    pub did : Did meaning course run.states answers handle place c times

  found : (handle place : ℕ) (c : C) → entry_at scripts handle place ≡ Some c → Found handle place c
  found handle place c is =
      let timed = other-entry scripts run.schedule run.one_time_each handle place c is in
      record { times = timed.0; did = run.did handle place c timed.0 is timed.1 }

  -- its script had kept what it began with
  began : (handle place : ℕ) (c : C) (x : Stands run handle place c) → (found handle place c x.is).did.before ≡ x.own
  began handle place c x = same_Some _ _ (sym (found handle place c x.is).did.had ∙ x.had)

  abbrev did-so : (handle place : ℕ) (c : C) → Found handle place c → DidSo meaning c course
  did-so handle place c f = record {
    handle = handle;
    from = begun_in nowhere f.times.begins;
    own = f.did.before;
    requests = requests_of course.book handle place;
    asked = questions_of course.asked handle place;
    given = record { at = f.did.at; answer = f.did.ending };
    unfolds = f.did.unfolds;
  }

  -- what comes of its dialogue
  whole : (handle place : ℕ) (c : C) (f : Found handle place c) → outcome_in meaning course handle place f.did.before c
      ≡ record { parts = []; requests = parts_of course handle place; asked = asked_of course handle place; answer = Some f.did.ending; left = unread course f.did.at }
  whole handle place c f = comes course handle (begun_in nowhere f.times.begins) (meaning.asks f.did.before c) (requests_of course.book handle place) (questions_of course.asked handle place)
      (record { at = f.did.at; answer = f.did.ending }) f.did.unfolds

  answers-by : (handle place : ℕ) (c : C) (x : Stands run handle place c) → AnswersByReads run handle place c x
  answers-by handle place c x =
      let f = found handle place c x.is in
      let is = ap (λ (own : E). outcome_in meaning course handle place own c) (sym (began handle place c x)) ∙ whole handle place c f in
      record {
        ending = f.did.ending;
        comes = record {
          requests = sym (ap (λ (o : Outcome Q (Ending A E)). o.requests) is);
          asked = sym (ap (λ (o : Outcome Q (Ending A E)). o.asked) is);
          answered = ap (λ (o : Outcome Q (Ending A E)). o.answer) is;
          none_before = ap (λ (o : Outcome Q (Ending A E)). o.parts) is;
        };
        answered = f.did.answered;
        has = f.did.has;
      }

  stands : (handle place : ℕ) (c : C) → entry_at scripts handle place ≡ Some c → Stands run handle place c
  stands handle place c is = let f = found handle place c is in record { is = is; own = f.did.before; had = f.did.had }

  pub each-answers : EachAnswers run
  each-answers handle place c is = let x = stands handle place c is in (x, answers-by handle place c x)

-- ---- two sessions

pub isolated : {C A E Q R N : Type 0} (meaning : Meaning C A E Q R) (named : C → E → N) → IsByNames meaning named →
    (scripts others : List (List C)) (turns more : List ℕ) (one two : List (List A)) (a b : Course Q R)
    (run : HasRun meaning scripts turns one a) (other : HasRun meaning others more two b) → AreIsolated named run other
isolated {C} {A} {E} {Q} {R} {N} meaning named is scripts others turns more one two a b run other c handle place handle' place' x y same =
    let f = found meaning scripts turns one a run handle place c x.is in
    let g = found meaning others more two b other handle' place' c y.is in
    let names : named c g.did.before ≡ named c f.did.before =
    ap (named c) (began meaning others more two b other handle' place' c y) ∙ ap (λ (r : Reads N R). r.names) same ∙ sym (ap (named c) (began meaning scripts turns one a run handle place c x)) in
    let did = same-by-names meaning named is c a b (did-so meaning scripts turns one a run handle place c f) (did-so meaning others more two b other handle' place' c g) names (ap (λ (r : Reads N R). r.met) same) refl in
    record {
      answer = g.did.answered ∙ ap (λ (answer : A). Some answer) did.answer ∙ sym f.did.answered;
      requests = did.requests;
      asked = did.asked;
    }
