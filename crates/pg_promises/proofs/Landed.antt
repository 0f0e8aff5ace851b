-- Sessions of simple queries alone.
use Rattle.std.proofs.Common.{◌≡◌, ℕ, ◌≤◌, arith, List, [], Option, Some, None, option_map, Result, Ok, Err, refl, sym, ap, ◌∙◌, subst}
use Rattle.std.specs.Prelude.{⊤, IfSome}
use Rattle.pg_spec.specs.Book.{bookings_of, request_of}
use Rattle.pg_spec.specs.Faults.{FrameFault, Encode, Frame}
use Rattle.pg_spec.specs.Frames.{query_frame}
use Rattle.pg_spec.specs.RawMessages.{RawMessage}
use Rattle.pg_spec.specs.Readings.{Decision}
use Rattle.pg_spec.specs.Report.{Answer, Command, Failed, Simple, simple_answer}
use Rattle.pg_spec.specs.SimpleQuery.{SimpleAnswer, has_enough, simple_decision, simple_next, simple_reading}
use Rattle.pg_spec.specs.declared.stamps.TurnMark.{TurnMark}
use Rattle.pg_spec.specs.Turns.{IsFirstTurn, IsOwnTurn, Times, entry_at, free_from}
use Rattle.pg_promises.specs.EndedWell as simple
use Rattle.pg_spec.specs.Courses.{Asked, Course, delivered_to, reply_to}
use Rattle.pg_spec.specs.Meanings.{HasRun, Meaning}
use Rattle.pg_spec.specs.Simples.{AreSimple, IsAsBefore, IsDecided}
use Rattle.pg_spec.proofs.Headlines.{headline}
use Rattle.pg_spec.proofs.OneWay.{first-one}
use Rattle.pg_spec.proofs.Simple.{answer_in, stands-decides, stands-first, start}
use Rattle.pg_promises.specs.Endings.{EndedWell, Report, Session, course_of, replies}
use Rattle.pg_promises.specs.Landed as landed
use Rattle.pg_promises.specs.Landed.{IsAsLanded, report_of, session_of, simply}

as-said : (answer : SimpleAnswer) (request : Option ℕ) (f : Result (List ℕ) FrameFault) (read : ℕ → Option SimpleAnswer) →
    ◌≡◌ {A = Option SimpleAnswer} (Some answer) (elim f as (λ _. Option SimpleAnswer) [
      | Err fault ↦ Some (Err (Encode (Frame fault)))
      | Ok frame ↦ elim request as (λ _. Option SimpleAnswer) [ None ↦ None | Some k ↦ read k ]
    ]) →
    ◌≡◌ {A = Option Answer} (Some (simple_answer answer)) (elim f as (λ _. Option Answer) [
      | Err fault ↦ Some (Failed (Encode (Frame fault)))
      | Ok frame ↦ elim request as (λ _. Option Answer) [ None ↦ None | Some k ↦ option_map simple_answer (read k) ]
    ])
as-said answer request (Err fault) read h = ap (option_map simple_answer) h
as-said answer None (Ok frame) read h = absurd cc
as-said answer (Some k) (Ok frame) read h = ap (option_map simple_answer) h

pub as-landed : {Q R : Type 0} (s : simple.Session) (asked : List (Asked Q R)) (handle place : ℕ) (text : List ℕ) (wanted : Option ℕ) (times : Times) (answer : SimpleAnswer) →
    IsAsBefore (landed.course_of s asked) handle place text wanted times answer → IsAsLanded s handle place text wanted times answer
as-landed s asked handle place text wanted times answer h = record {
  own_request = h.own_request;
  answers = as-said answer (request_of s.report.book handle place) (query_frame text) (λ k. simple_reading wanted (simple.reply s k)) h.answers;
  answers_in_turn = h.answers_in_turn;
}

-- ---- an answer that stands at once

-- what is to be shown of one, by the frame of the text and the number of the request
abbrev AtOnce : Times → SimpleAnswer → (take : Option ℕ) → Result (List ℕ) FrameFault → Type 0
AtOnce times answer take f = IfSome (elim f as (λ _. Option Answer) [
  | Err fault ↦ Some (Failed (Encode (Frame fault)))
  | Ok frame ↦ option_map simple_answer (simple_reading take [])
]) (λ a. (◌≡◌ {A = Option Answer} (Some (simple_answer answer)) (Some a)) × (times.answers ≡ times.begins))

module _ {Q R : Type 0} (course : Course Q R) (handle : ℕ) (wanted : Option ℕ) (times : Times) (answer : SimpleAnswer) (from : ℕ)
    (begins : IsFirstTurn course.trace handle from (λ place. ⊤) times.begins) where
  -- where it stands when the command begins, it is given then
  begins-then : (P : ℕ → Type 0) → IsFirstTurn course.trace handle times.begins P times.answers → P times.begins → times.answers ≡ times.begins
  begins-then P first holds = first-one course.trace handle times.begins P times.answers times.begins first (record {
    made = begins.made;
    own = begins.own;
    no_sooner = omega arith;
    holds = holds;
    first = λ earlier ge lt mine h. omega (arith, ge, lt);
  })

  -- its answer stands, by the reply to a request
  abbrev StandsBy : ℕ → ℕ → Type 0
  StandsBy k place = elim (simple_decision wanted (reply_to course (Some k))) as (λ _. Type 0) [ None ↦ ⊥ | Some d ↦ d.after ≤ delivered_to course (Some k) place ]

  -- the same, by the frame of its text and the number of its request
  abbrev DecidedBy : Option ℕ → Result (List ℕ) FrameFault → ℕ → Type 0
  DecidedBy request f place = elim f as (λ _. Type 0) [
    | Err fault ↦ Unit {0}
    | Ok frame ↦ elim request as (λ _. Type 0) [ None ↦ ⊥ | Some k ↦ StandsBy k place ]
  ]

  abbrev AnswerBy : Option ℕ → Result (List ℕ) FrameFault → Type 0
  AnswerBy request f = Some answer ≡ elim f as (λ _. Option SimpleAnswer) [
    | Err fault ↦ Some (Err (Encode (Frame fault)))
    | Ok frame ↦ elim request as (λ _. Option SimpleAnswer) [ None ↦ None | Some k ↦ simple_reading wanted (reply_to course (Some k)) ]
  ]

  by-reading : (k : ℕ) (o : Option SimpleAnswer) → simple_reading wanted [] ≡ o → ◌≡◌ {A = Option SimpleAnswer} (Some answer) (simple_reading wanted (reply_to course (Some k))) →
      IsFirstTurn course.trace handle times.begins (StandsBy k) times.answers →
      IfSome (option_map simple_answer o) (λ a. (◌≡◌ {A = Option Answer} (Some (simple_answer answer)) (Some a)) × (times.answers ≡ times.begins))
  by-reading k None is answers first = tt
  by-reading k (Some a) is answers first =
      let stands = stands-decides (has_enough wanted) simple_next start a (reply_to course (Some k)) (stands-first (has_enough wanted start) a is) in (
        ap (option_map simple_answer) (answers ∙ ap (λ (o : Option (Decision SimpleAnswer)). answer_in o) stands),
        begins-then (StandsBy k) first
            (subst (λ (o : Option (Decision SimpleAnswer)). elim o as (λ _. Type 0) [ None ↦ ⊥ | Some d ↦ d.after ≤ delivered_to course (Some k) times.begins ]) (sym stands) (omega arith)),
      )

  at-once : (request : Option ℕ) (f : Result (List ℕ) FrameFault) → AnswerBy request f → IsFirstTurn course.trace handle times.begins (DecidedBy request f) times.answers → AtOnce times answer wanted f
  at-once request (Err fault) answers first = (ap (option_map simple_answer) answers, begins-then (λ place. Unit {0}) first tt)
  at-once None (Ok frame) answers first = absurd cc
  at-once (Some k) (Ok frame) answers first = by-reading k (simple_reading wanted []) refl answers first

-- ---- a session

owned : (trace : List TurnMark) (handle from : ℕ) (P : ℕ → Type 0) (place : ℕ) → IsFirstTurn trace handle from P place → IsOwnTurn trace handle from place
owned trace handle from P place first = record { made = first.made; own = first.own; no_sooner = first.no_sooner }

-- without its bytes, by some replies
module _ {E Q R : Type 0} (meaning : Meaning Command Answer E Q R) (are : AreSimple meaning simply) (scripts : List (List Command)) (turns : List ℕ) (report : Report Answer)
    (answered_by : List (List RawMessage)) (asked : List (Asked Q R)) (run : HasRun meaning scripts turns report.answers (course_of report answered_by asked)) where
  -- what is said of one command
  record IsRunSo (handle place : ℕ) (command : Command) (times : Times) : Type 0 where
    answered : IsOwnTurn report.trace handle times.begins times.answers
    own_request : bookings_of report.book handle place ≡ simple.own_requests handle place command times
    at_once : IfSome (simple.answer_at_once command) (λ answer. (entry_at report.answers handle place ≡ Some answer) × (times.answers ≡ times.begins))

  ran : (handle place : ℕ) (command : Command) (times : Times) → entry_at scripts handle place ≡ Some command → entry_at run.schedule handle place ≡ Some times → IsRunSo handle place command times
  ran handle place (Simple text wanted) times ec et =
      let course : Course Q R = course_of report answered_by asked in
      let h = headline meaning simply are scripts turns report.answers course run handle place (Simple text wanted) times ec et text wanted refl in
      let now = at-once course handle wanted times h.answer (free_from run.schedule handle place) (run.begins handle place times et)
      (request_of report.book handle place) (query_frame text) h.as_before.answers h.as_before.answers_in_turn in
      record {
        answered = owned report.trace handle times.begins (IsDecided course text wanted (request_of report.book handle place)) times.answers h.as_before.answers_in_turn;
        own_request = h.as_before.own_request;
        at_once = subst (λ (o : Option Answer). IfSome (simple.answer_at_once (Simple text wanted)) (λ answer. (o ≡ Some answer) × (times.answers ≡ times.begins))) (sym h.answered) now;
      }

  pub has-run : simple.HasRun scripts turns (report_of report) run.schedule
  has-run = record {
    one_answer_each = run.one_answer_each;
    one_time_each = run.one_time_each;
    turns_made = run.turns_made;
    begins = run.begins;
    answered = λ handle place command times ec et. (ran handle place command times ec et).answered;
    own_request = λ handle place command times ec et. (ran handle place command times ec et).own_request;
    no_other = run.no_other;
    in_order = run.in_order;
    at_once = λ handle place command times ec et. (ran handle place command times ec et).at_once;
  }

-- with its bytes
module _ {E Q R : Type 0} (meaning : Meaning Command Answer E Q R) (are : AreSimple meaning simply) (s : Session Command Answer) (taken : List ℕ) (ended : EndedWell meaning s taken) where
  -- what is said of one command
  record IsSaid (handle place : ℕ) (command : Command) (times : Times) : Type 0 where
    answers : entry_at s.report.answers handle place ≡ simple.answer_of (session_of s) command (request_of s.report.book handle place)
    answers_in_turn : IsFirstTurn s.report.trace handle times.begins (simple.IsDecided (session_of s) command (request_of s.report.book handle place)) times.answers

  said : (handle place : ℕ) (command : Command) (times : Times) → entry_at s.scripts handle place ≡ Some command → entry_at ended.has_run.schedule handle place ≡ Some times → IsSaid handle place command times
  said handle place (Simple text wanted) times ec et =
      let h = headline meaning simply are s.scripts s.turns s.report.answers (course_of s.report (replies s) ended.asked) ended.has_run handle place (Simple text wanted) times ec et text wanted refl in
      let l = as-landed (session_of s) ended.asked handle place text wanted times h.answer h.as_before in
      record { answers = h.answered ∙ l.answers; answers_in_turn = l.answers_in_turn }

  pub ended-well : simple.EndedWell (session_of s) taken
  ended-well = record {
    schedule = ended.has_run.schedule;
    has_run = has-run meaning are s.scripts s.turns s.report (replies s) ended.asked ended.has_run;
    no_tls = ended.no_tls;
    started = ended.started;
    one_group_each = ended.one_group_each;
    whole_groups = ended.whole_groups;
    asked_first = ended.has_run.asked_first;
    no_bad_header = ended.no_bad_header;
    sent = ended.sent;
    reported = ended.reported;
    delivered_front = ended.delivered_front;
    delivered_all = ended.delivered_all;
    answers = λ handle place command times ec et. (said handle place command times ec et).answers;
    answers_in_turn = λ handle place command times ec et. (said handle place command times ec et).answers_in_turn;
    readable = ended.readable;
    asynchronous = ended.asynchronous;
    parameters = ended.parameters;
    key = ended.key;
  }
