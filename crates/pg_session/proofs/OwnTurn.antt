-- A turn of a command: where it leads, in the course of its session.
use Rattle.std.proofs.Common.{◌≡◌, ◌≢◌, ◌⊎◌, ◌==◌, ◌&&◌, inl, inr, ℕ, suc, List, [], ◌∷◌, ◌++◌, length, map, false, Result, Err, refl, sym, ap, subst, ◌∙◌, arith}
use Rattle.std.proofs.lemmas.List.{length-map}
use Rattle.std.specs.Prelude.{⊤}
use Rattle.pg_spec.specs.Book as said
use Rattle.pg_spec.specs.Turns.{IsFirstTurn, IsOwnTurn}
use Rattle.pg_spec.specs.declared.stamps.Stamp.{Stamp}
use Rattle.pg_desk.specs.History.{State, after_all, ended, IsLegal}
use Rattle.pg_desk.specs.Kept.{stored-part}
use Rattle.pg_types.specs.declared.error.Error.{Error}
use Rattle.pg_types.specs.declared.error.Error.TheVariants.{OutOfMemory}
use Rattle.pg_query.specs.Dialogue.{Dialogue, Answer}
use Rattle.pg_query.specs.Lives.{Deed, Leads}
use Rattle.pg_query.specs.Meaning.{Place}
use Rattle.pg_query.specs.Scripts.{IsRead, IsPut}
use Rattle.pg_query.specs.declared.desk_call.DeskCall.{DeskCall}
use Rattle.pg_query.specs.declared.desk_call.Reply.{Reply}
use Rattle.pg_spec.specs.Courses.{Asked, Course, Request, Unfolds, Who, begun_in, nowhere, questions_of, requests_of, stamp_of}
use Rattle.pg_core.specs.Counters.{Counts, tells}
use Rattle.pg_core.specs.Deeds.{Addition, added_in, asked_in, requests_in}
use Rattle.pg_core.specs.Lists.{came_of, events_of, state_behind}
use Rattle.pg_core.specs.Outcomes.{asked}
use Rattle.pg_core.specs.Times.{AnsweredWell, IsUpright, LackedMemory, StaysUpright, TurnedWell}
use Rattle.pg_core.specs.Runs.{MayWait}
use Rattle.pg_core.specs.Trails.{AllUnder, AreNumbered, AreToldIn, AreTurnsOf, BooksSo, CameBy, HoldsRequests, IsNext, IsTurnOf, Moment, OwnTurn, PollEnds, begun_at, goes_on, moment_of, point_of, ran_by, said_booking, with_all}
use Rattle.pg_core.proofs.Booked.{books-so}
use Rattle.pg_core.proofs.Counted.{told-so}
use Rattle.pg_core.proofs.Extended.{holds-now, holds-on}
use Rattle.pg_core.proofs.Glued.{glued}
use Rattle.pg_core.proofs.Owned.{own-questions}
use Rattle.pg_core.proofs.Trail.{trail-unfolds}
use Rattle.pg_core.proofs.Upright.{upright-turn}
use Rattle.pg_session.specs.Kept.{IsReady, IsUnderWay, Now, book_of, first_at}
use Rattle.pg_session.proofs.Numbers.{others-stay}
use Rattle.pg_session.proofs.StillReads.{still-waits}

-- what stands behind a turn in which this was done
abbrev pub behind_turn : Now → List Deed → Now
behind_turn now ds = record { turns = suc now.turns; asked = now.asked ++ asked_in ds; state = after_all now.state (events_of ds) }

-- the turn in which this was done
abbrev pub moment_in : Now → List Deed → Moment
moment_in now ds = moment_of now.turns (came_of (state_behind now.state ds)) ds

-- A poll of a command, in this turn of its handle.
pub record IsPolled {T : Type 0} (course : Course DeskCall Reply) (who : Who) (d : Dialogue T) (trail : List Moment) (free : ℕ) (now : Now) (p : Place T) (stamp : Stamp) (ds : List Deed) (q : Place T) : Type 0 where
  pub ready : IsReady course who d trail now p
  pub next : IsNext course who.handle d trail now.turns
  pub here : IsOwnTurn course.trace who.handle now.turns now.turns
  pub begins : IsFirstTurn course.trace who.handle free (λ place. ⊤) (first_at now.turns trail)
  pub leads : Leads p.dialogue p.reads ds q.dialogue q.reads
  pub legal : IsLegal now.state (events_of ds)
  pub open_ : ended (after_all now.state (events_of ds)) ≡ false
  pub ends : PollEnds ds q
  pub stamped : stamp ≡ stamp_of who now.turns
  pub under : AllUnder stamp ds
  pub counts : Counts (map (λ a. a.question) now.asked) now.state
  pub came : CameBy course now.turns (came_of (state_behind now.state ds))

-- the numbers of its requests, what it added and what it was told
pub record Grows (who : Who) (now : Now) (ds : List Deed) : Type 0 where
  pub numbered : AreNumbered who now.turns (length (book_of now)) (requests_in ds)
  pub book : book_of (behind_turn now ds) ≡ with_all (added_in ds) (book_of now ++ map (λ r. r.booking) (requests_in ds))
  -- requests of other commands stay as they are
  pub others : (owner command : ℕ) → ((who.handle == owner) && (who.command == command)) ≡ false → requests_of (book_of (behind_turn now ds)) owner command ≡ requests_of (book_of now) owner command
  pub told : AreToldIn tells who now.turns (map (λ a. a.question) now.asked) (asked_in ds)
  pub counts : Counts (map (λ a. a.question) now.asked ++ map (λ a. a.question) (asked_in ds)) (after_all now.state (events_of ds))

module _ {T : Type 0} (course : Course DeskCall Reply) (who : Who) (d : Dialogue T) (trail : List Moment) (free : ℕ) (now : Now) (p : Place T) (stamp : Stamp) (ds : List Deed) (q : Place T)
    (h : IsPolled course who d trail free now p stamp ds q) where
  turn : OwnTurn d now.turns trail now.state ds q × TurnedWell d (moment_in now ds ∷ trail) (state_behind now.state ds) q
  turn = upright-turn d now.turns trail now.state p ds q h.ready.upright h.leads h.legal h.open_ h.ends

  is-turn : IsTurnOf tells course who d trail (length now.state.book) (map (λ a. a.question) now.asked) (moment_in now ds) ⊎ (q.dialogue ≡ Answer (Err OutOfMemory))
  is-turn = glued course who d now.turns trail now.state p ds q stamp (map (λ a. a.question) now.asked) h.ready.upright h.leads h.legal h.open_ h.ends h.stamped h.under h.counts h.here h.next h.came

  books : BooksSo who now.turns now.state ds
  books = books-so who now.turns stamp h.stamped p.dialogue p.reads ds q.dialogue q.reads now.state h.ready.upright.reached h.under h.leads ((stored-part now.state (events_of ds)).legal h.legal)

  numbered : AreNumbered who now.turns (length (book_of now)) (requests_in ds)
  numbered = subst (λ (n : ℕ). AreNumbered who now.turns n (requests_in ds)) (sym (length-map now.state.book said_booking)) books.numbered

  grown : book_of (behind_turn now ds) ≡ with_all (added_in ds) (book_of now ++ map (λ r. r.booking) (requests_in ds))
  grown = ap (λ (s : State). map said_booking s.book) (sym (stored-part now.state (events_of ds)).state) ∙ books.book

  -- what the function says of them
  said_numbered : AreNumbered who now.turns (length (book_of now)) (goes_on (ran_by d trail) (moment_in now ds)).requests
  said_numbered = subst (λ (rs : List Request). AreNumbered who now.turns (length (book_of now)) rs) (sym turn.0.met.0) numbered

  abbrev said_book : List said.Booking
  said_book = with_all (goes_on (ran_by d trail) (moment_in now ds)).added (book_of now ++ map (λ r. r.booking) (goes_on (ran_by d trail) (moment_in now ds)).requests)

  said_grown : book_of (behind_turn now ds) ≡ said_book
  said_grown =
      grown ∙ ap (λ (xs : List Addition). with_all xs (book_of now ++ map (λ r. r.booking) (requests_in ds))) (sym turn.0.met.2)
      ∙ ap (λ (rs : List Request). with_all (goes_on (ran_by d trail) (moment_in now ds)).added (book_of now ++ map (λ r. r.booking) rs)) (sym turn.0.met.0)

  said_holds : HoldsRequests who said_book (ran_by d (moment_in now ds ∷ trail))
  said_holds = holds-on who d (moment_in now ds) trail (book_of now) said_numbered h.ready.requests

  holds : HoldsRequests who (book_of (behind_turn now ds)) (ran_by d (moment_in now ds ∷ trail))
  holds = subst (λ (bs : List said.Booking). HoldsRequests who bs (ran_by d (moment_in now ds ∷ trail))) (sym said_grown) said_holds

  pub grew : Grows who now ds
  grew =
      let t = told-so who now.turns stamp h.stamped ds (map (λ a. a.question) now.asked) now.state h.under ((stored-part now.state (events_of ds)).legal h.legal) h.counts in
      record {
        numbered = numbered;
        book = grown;
        others = λ owner command apart. ap (λ (bs : List said.Booking). requests_of bs owner command) said_grown
            ∙ others-stay who owner command now.turns d (moment_in now ds) trail (book_of now) apart said_numbered said_holds;
        told = t.told;
        counts = subst (λ (s : State). Counts (map (λ a. a.question) now.asked ++ map (λ a. a.question) (asked_in ds)) s) (stored-part now.state (events_of ds)).state t.counts;
      }

  requests : requests_of (book_of (behind_turn now ds)) who.handle who.command ≡ (ran_by d (moment_in now ds ∷ trail)).whole []
  requests = holds-now who (book_of (behind_turn now ds)) (ran_by d (moment_in now ds ∷ trail)) holds

  questions : questions_of (behind_turn now ds).asked who.handle who.command ≡ (ran_by d (moment_in now ds ∷ trail)).asked
  questions =
      own-questions tells who now.turns (map (λ a. a.question) now.asked) now.asked (asked_in ds) grew.told
      ∙ ap (λ (qs : List (Asked DeskCall Reply)). qs ++ asked_in ds) h.ready.questions
      ∙ ap (λ (qs : List (Asked DeskCall Reply)). (ran_by d trail).asked ++ qs) (sym turn.0.met.1)

  begun : begun_at (moment_in now ds) trail ≡ first_at now.turns trail
  begun = by trail
    where
      by : (before : List Moment) → begun_at (moment_in now ds) before ≡ first_at now.turns before
      by [] = refl
      by (m ∷ before) = refl

  turns : IsTurnOf tells course who d trail (length now.state.book) (map (λ a. a.question) now.asked) (moment_in now ds) → AreTurnsOf tells course who d (moment_in now ds ∷ trail)
  turns is = (length now.state.book, map (λ a. a.question) now.asked, is, h.ready.turns)

  no-answer : (r : Result T Error) → q.dialogue ≡ Answer r → MayWait q.dialogue → ⊥
  no-answer r e (inl reads) = subst IsRead e reads
  no-answer r e (inr puts) = subst IsPut e puts

  -- it waits on
  pub waits-on : MayWait q.dialogue → IsUnderWay course who d free (behind_turn now ds) q
  waits-on reads = by turn.1 is-turn
    where
      part : state_behind now.state ds ≡ after_all now.state (events_of ds)
      part = (stored-part now.state (events_of ds)).state

      by : TurnedWell d (moment_in now ds ∷ trail) (state_behind now.state ds) q → IsTurnOf tells course who d trail (length now.state.book) (map (λ a. a.question) now.asked) (moment_in now ds) ⊎ (q.dialogue ≡ Answer (Err OutOfMemory)) →
          IsUnderWay course who d free (behind_turn now ds) q
      by w (inr e) = absurd (no-answer (Err OutOfMemory) e reads)
      by (AnsweredWell r e is) (inl t) = absurd (no-answer r e reads)
      by (LackedMemory e) (inl t) = absurd (no-answer (Err OutOfMemory) e reads)
      by (StaysUpright upright left) (inl t) = record {
        last = moment_in now ds;
        before = trail;
        ready = record {
          upright = subst (λ (s : State). IsUpright d (moment_in now ds ∷ trail) s q) part upright;
          turns = turns t;
          requests = holds;
          questions = questions;
        };
        waits = reads;
        stands = left;
        latest = omega arith;
        none_since = λ place from to own. omega (arith, from, to);
        begins = subst (λ (n : ℕ). IsFirstTurn course.trace who.handle free (λ place. ⊤) n) (sym begun) h.begins;
      }

  -- it answered: so it unfolds
  pub answers-so : (r : Result T Error) → q.dialogue ≡ Answer r → r ≢ Err OutOfMemory →
      Unfolds course who.handle (begun_in nowhere (first_at now.turns trail)) (asked d) (requests_of (book_of (behind_turn now ds)) who.handle who.command) (questions_of (behind_turn now ds).asked who.handle who.command)
      (record { at = point_of now.turns (ran_by d (moment_in now ds ∷ trail)); answer = r })
  answers-so r is memory = by turn.1 is-turn
    where
      so : IsTurnOf tells course who d trail (length now.state.book) (map (λ a. a.question) now.asked) (moment_in now ds) → (ran_by d (moment_in now ds ∷ trail)).left ≡ Answer r →
          Unfolds course who.handle (begun_in nowhere (first_at now.turns trail)) (asked d) (requests_of (book_of (behind_turn now ds)) who.handle who.command) (questions_of (behind_turn now ds).asked who.handle who.command)
          (record { at = point_of now.turns (ran_by d (moment_in now ds ∷ trail)); answer = r })
      so t left =
          subst (λ (n : ℕ). Unfolds course who.handle (begun_in nowhere n) (asked d) (requests_of (book_of (behind_turn now ds)) who.handle who.command) (questions_of (behind_turn now ds).asked who.handle who.command)
          (record { at = point_of now.turns (ran_by d (moment_in now ds ∷ trail)); answer = r })) begun
          (subst (λ (rs : List Request). Unfolds course who.handle (begun_in nowhere (begun_at (moment_in now ds) trail)) (asked d) rs (questions_of (behind_turn now ds).asked who.handle who.command)
          (record { at = point_of now.turns (ran_by d (moment_in now ds ∷ trail)); answer = r })) (sym requests)
          (subst (λ (qs : List (Asked DeskCall Reply)). Unfolds course who.handle (begun_in nowhere (begun_at (moment_in now ds) trail)) (asked d) ((ran_by d (moment_in now ds ∷ trail)).whole []) qs
          (record { at = point_of now.turns (ran_by d (moment_in now ds ∷ trail)); answer = r })) (sym questions)
          (trail-unfolds tells course who d (moment_in now ds) trail r (turns t) turn.0.met left)))

      lacks : q.dialogue ≡ Answer (Err OutOfMemory) → ⊥
      lacks e = let same : Answer r ≡ Answer (Err OutOfMemory) = sym is ∙ e in memory cc

      by : TurnedWell d (moment_in now ds ∷ trail) (state_behind now.state ds) q → IsTurnOf tells course who d trail (length now.state.book) (map (λ a. a.question) now.asked) (moment_in now ds) ⊎ (q.dialogue ≡ Answer (Err OutOfMemory)) →
          Unfolds course who.handle (begun_in nowhere (first_at now.turns trail)) (asked d) (requests_of (book_of (behind_turn now ds)) who.handle who.command) (questions_of (behind_turn now ds).asked who.handle who.command)
          (record { at = point_of now.turns (ran_by d (moment_in now ds ∷ trail)); answer = r })
      by w (inr e) = absurd (lacks e)
      by (LackedMemory e) (inl t) = absurd (lacks e)
      by (AnsweredWell r' e left) (inl t) = so t (left ∙ sym e ∙ is)
      by (StaysUpright upright left) (inl t) =
          absurd (no-answer r is (still-waits d now.turns trail (state_behind now.state ds) (moment_in now ds).bookings (moment_in now ds).answers (moment_in now ds).additions q upright.reached upright.runs left))
