-- A turn of a command in a session: what the law of its life asks, from what is kept of it.
use Rattle.std.proofs.Common.{◌≡◌, ◌⊎◌, inl, inr, ℕ, List, ◌∷◌, length, Err, false}
use Rattle.pg_spec.specs.Turns.{IsOwnTurn}
use Rattle.pg_spec.specs.declared.stamps.Stamp.{Stamp}
use Rattle.pg_desk.specs.History.{State, after_all, ended, IsLegal}
use Rattle.pg_desk.specs.Kept.{stored-part}
use Rattle.pg_types.specs.declared.error.Error.TheVariants.{OutOfMemory}
use Rattle.pg_query.specs.Dialogue.{Dialogue, Answer}
use Rattle.pg_query.specs.Lives.{Deed, Leads}
use Rattle.pg_query.specs.Meaning.{Place}
use Rattle.pg_query.specs.declared.desk_call.DeskCall.{DeskCall}
use Rattle.pg_query.specs.declared.desk_call.Reply.{Reply}
use Rattle.pg_spec.specs.Courses.{Course, Who, stamp_of}
use Rattle.pg_core.specs.Counters.{Counts, tells}
use Rattle.pg_core.specs.Lists.{came_of, events_of, state_behind}
use Rattle.pg_core.specs.Times.{IsFaithful, IsUpright, TurnedWell, StaysUpright, AnsweredWell, LackedMemory}
use Rattle.pg_core.specs.Trails.{AllUnder, CameBy, IsNext, IsSettled, IsTurnOf, Moment, OwnTurn, PollEnds, moment_of, goes_on, ran_by}
use Rattle.pg_core.proofs.Booked.{books-so}
use Rattle.pg_core.proofs.Counted.{told-so}
use Rattle.pg_core.proofs.Faithful.{AllGranted, granted-or-lacks, was-whole}
use Rattle.pg_core.proofs.Gone.{Stays, none-gone}
use Rattle.pg_core.proofs.Upright.{upright-turn}

pub glued : {T : Type 0} (course : Course DeskCall Reply) (who : Who) (d : Dialogue T) (place : ℕ) (trail : List Moment) (s : State) (p : Place T) (ds : List Deed) (q : Place T) (stamp : Stamp) (former : List DeskCall) →
    IsUpright d trail s p → Leads p.dialogue p.reads ds q.dialogue q.reads → IsLegal s (events_of ds) → ended (after_all s (events_of ds)) ≡ false → PollEnds ds q →
    stamp ≡ stamp_of who place → AllUnder stamp ds → Counts former s → IsOwnTurn course.trace who.handle place place → IsNext course who.handle d trail place → CameBy course place (came_of (state_behind s ds)) →
    IsTurnOf tells course who d trail (length s.book) former (moment_of place (came_of (state_behind s ds)) ds) ⊎ (q.dialogue ≡ Answer (Err OutOfMemory))
glued {T} course who d place trail s p ds q stamp former h l legal open_ ends same under counts own next came = by turn.1 (granted-or-lacks s p ds q h.faithful walked.none_gone l legal open_ ends)
  where
    turn : OwnTurn d place trail s ds q × TurnedWell d (moment_of place (came_of (state_behind s ds)) ds ∷ trail) (state_behind s ds) q
    turn = upright-turn d place trail s p ds q h l legal open_ ends

    walked : Stays s ds q.dialogue q.reads
    walked = none-gone s p.dialogue p.reads ds q.dialogue q.reads h.reached h.fits (was-whole s (events_of ds) open_) legal l

    so : IsSettled (goes_on (ran_by d trail) (moment_of place (came_of (state_behind s ds)) ds)).left → AllGranted ds → IsTurnOf tells course who d trail (length s.book) former (moment_of place (came_of (state_behind s ds)) ds)
    so settled granted =
        let stored = (stored-part s (events_of ds)).legal legal in
        record {
          own = own;
          next = next;
          came = came;
          within = turn.0.within;
          numbered = (books-so who place stamp same p.dialogue p.reads ds q.dialogue q.reads s h.reached under l stored).numbered;
          told = (told-so who place stamp same ds former s under stored counts).told;
          booked = granted.0;
          answered = granted.1;
          all_added = granted.2;
          settled = settled;
        }

    by : TurnedWell d (moment_of place (came_of (state_behind s ds)) ds ∷ trail) (state_behind s ds) q →
        (AllGranted ds × IsFaithful q.dialogue) ⊎ (q.dialogue ≡ Answer (Err OutOfMemory)) → IsTurnOf tells course who d trail (length s.book) former (moment_of place (came_of (state_behind s ds)) ds) ⊎ (q.dialogue ≡ Answer (Err OutOfMemory))
    by w (inr e) = inr e
    by (StaysUpright upright waits) (inl g) = inl (so (inl waits) g.0)
    by (AnsweredWell r e is) (inl g) = inl (so (inr (r, is)) g.0)
    by (LackedMemory e) (inl g) = inr e
