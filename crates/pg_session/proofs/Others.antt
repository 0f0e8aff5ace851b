-- What others do leaves what is kept of a handle as it is.
use Rattle.std.proofs.Common.{◌≡◌, ◌⊎◌, inl, inr, ℕ, ◌+◌, ◌<◌, ◌≤◌, List, ◌∷◌, length, Option, Some, None, refl, sym, subst, ◌∙◌, arith, slice_get}
use Rattle.std.proofs.lemmas.Bool.{cases_lt}
use Rattle.std.specs.Prelude.{⊤}
use Rattle.pg_spec.specs.Turns.{IsFirstTurn}
use Rattle.pg_desk.specs.History.{State, after_all, IsLegal}
use Rattle.pg_query.specs.Dialogue.{Dialogue}
use Rattle.pg_query.specs.Lives.{Deed}
use Rattle.pg_query.specs.Meaning.{Place}
use Rattle.pg_query.specs.declared.desk_call.DeskCall.{DeskCall}
use Rattle.pg_query.specs.declared.desk_call.Reply.{Reply}
use Rattle.pg_spec.specs.Courses.{Asked, Course, Request, Unfolds, Who, begun_in, nowhere, questions_of, requests_of}
use Rattle.pg_core.specs.Lists.{SparesAll, events_of}
use Rattle.pg_core.specs.Times.{HangsUpNone, IsUpright}
use Rattle.pg_core.specs.Trails.{ran_by}
use Rattle.pg_core.proofs.Extended.{holds-as}
use Rattle.pg_core.proofs.Upright.{upright-others}
use Rattle.pg_session.specs.Speeches.{Speech, meaning_of}
use Rattle.pg_session.specs.Handles.{HandleState}
use Rattle.pg_session.specs.Kept.{Does, HandleKept, HasDone, IsUnderWay, NoneFrom, Now, Past, book_of, free_of, states_of}

-- What others did, as a handle sees it: no turn of it was made, and nothing was booked or asked in its name.
pub record LeavesAlone (course : Course DeskCall Reply) (handle : ℕ) (now : Now) (L : List Deed) (later : Now) : Type 0 where
  pub turns : now.turns ≤ later.turns
  pub none : NoneFrom course handle now.turns later.turns
  pub legal : IsLegal now.state (events_of L)
  pub state : later.state ≡ after_all now.state (events_of L)
  pub longer : length (book_of now) ≤ length (book_of later)
  pub requests : (j : ℕ) → requests_of (book_of later) handle j ≡ requests_of (book_of now) handle j
  pub questions : (j : ℕ) → questions_of later.asked handle j ≡ questions_of now.asked handle j

pub none-then : (course : Course DeskCall Reply) (handle from mid to : ℕ) → NoneFrom course handle from mid → NoneFrom course handle mid to → NoneFrom course handle from to
none-then course handle from mid to h k place ge lt own = by (cases_lt place mid)
  where
    by : (place < mid) ⊎ (mid ≤ place) → ⊥
    by (inl before) = h place ge before own
    by (inr behind) = k place behind lt own

under-way-on : {T : Type 0} (course : Course DeskCall Reply) (who : Who) (d : Dialogue T) (free : ℕ) (now later : Now) (L : List Deed) (p : Place T) → LeavesAlone course who.handle now L later →
    SparesAll p.reads L × HangsUpNone p.reads L → IsUnderWay course who d free now p → IsUnderWay course who d free later p
under-way-on course who d free now later L p a spares h = record {
  last = h.last;
  before = h.before;
  ready = record {
    upright = subst (λ (s : State). IsUpright d (h.last ∷ h.before) s p) (sym a.state) (upright-others d (h.last ∷ h.before) now.state p L h.ready.upright a.legal spares.0 spares.1);
    turns = h.ready.turns;
    requests = holds-as who (book_of now) (book_of later) (ran_by d (h.last ∷ h.before)) a.longer (a.requests who.command) h.ready.requests;
    questions = a.questions who.command ∙ h.ready.questions;
  };
  waits = h.waits;
  stands = h.stands;
  latest = (let le = a.turns in let lt = h.latest in omega (arith, le, lt));
  none_since = none-then course who.handle (h.last.place + 1) now.turns later.turns h.none_since a.none;
  begins = h.begins;
}

does-on : {C T A E : Type 0} (speech : Speech C T A E) (course : Course DeskCall Reply) (script : List C) (handle : ℕ) (own : E) (past : List (Past A E)) (now later : Now) (L : List Deed) → LeavesAlone course handle now L later →
    (o : Option (Place T)) → ((p : Place T) → o ≡ Some p → SparesAll p.reads L × HangsUpNone p.reads L) → Does speech course script handle own past now o → Does speech course script handle own past later o
does-on speech course script handle own past now later L a None spares h = record {
  requests = a.requests (length past) ∙ h.requests;
  questions = a.questions (length past) ∙ h.questions;
  no_turn = λ command at. none-then course handle (free_of past (length past)) now.turns later.turns (h.no_turn command at) a.none;
}
does-on speech course script handle own past now later L a (Some p) spares h = record {
  command = h.command;
  stands = h.stands;
  under_way = under-way-on course (record { handle = handle; command = length past }) (speech.says own h.command) (free_of past (length past)) now later L p a (spares p refl) h.under_way;
}

-- what a command did stays, in a row that grew too
pub done-on : {C T A E : Type 0} (speech : Speech C T A E) (course : Course DeskCall Reply) (script : List C) (handle : ℕ) (past more : List (Past A E)) (now later : Now) (j : ℕ) (x : Past A E) →
    requests_of (book_of later) handle j ≡ requests_of (book_of now) handle j → questions_of later.asked handle j ≡ questions_of now.asked handle j →
    slice_get (states_of speech.begins more) j ≡ slice_get (states_of speech.begins past) j → free_of more j ≡ free_of past j →
    HasDone speech course script handle past now j x → HasDone speech course script handle more later j x
done-on {C} {T} {A} {E} speech course script handle past more now later j x requests questions states free h = record {
  command = h.command;
  stands = h.stands;
  before = h.before;
  had = states ∙ h.had;
  begins = subst (λ (n : ℕ). IsFirstTurn course.trace handle n (λ place. ⊤) x.times.begins) (sym free) h.begins;
  in_turn = h.in_turn;
  unfolds =
      subst (λ (rs : List Request). Unfolds course handle (begun_in nowhere x.times.begins) ((meaning_of speech).asks h.before h.command) rs (questions_of later.asked handle j) (record { at = x.at; answer = x.ending })) (sym requests)
      (subst (λ (qs : List (Asked DeskCall Reply)). Unfolds course handle (begun_in nowhere x.times.begins) ((meaning_of speech).asks h.before h.command) (requests_of (book_of now) handle j) qs (record { at = x.at; answer = x.ending })) (sym questions) h.unfolds);
}

pub others-keep : {C T A E : Type 0} (speech : Speech C T A E) (course : Course DeskCall Reply) (script : List C) (handle : ℕ) (h : HandleState T A E) (past : List (Past A E)) (now later : Now) (L : List Deed) → LeavesAlone course handle now L later →
    ((p : Place T) → h.running ≡ Some p → SparesAll p.reads L × HangsUpNone p.reads L) → HandleKept speech course script handle h past now → HandleKept speech course script handle h past later
others-keep speech course script handle h past now later L a spares k = record {
  answers = k.answers;
  own = k.own;
  done = λ j x at. done-on speech course script handle past past now later j x (a.requests j) (a.questions j) refl refl (k.done j x at);
  does = does-on speech course script handle h.own past now later L a h.running spares k.does;
  free = (let le = a.turns in let f = k.free in omega (arith, le, f));
  none_later = λ j lt. (a.requests j ∙ (k.none_later j lt).0, a.questions j ∙ (k.none_later j lt).1);
}
