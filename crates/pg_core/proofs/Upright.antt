-- A running command stays upright: its equations, its time, its request.
use Rattle.std.proofs.Common.{◌≡◌, ◌⊎◌, inl, inr, ℕ, List, [], ◌∷◌, ◌++◌, false, Option, Some, None, Ok, Err, refl, sym, ap, subst, ◌∙◌}
use Rattle.std.proofs.lemmas.List.{append-nil}
use Rattle.pg_desk.specs.declared.event.Take.TheVariants as taking
use Rattle.pg_desk.specs.declared.event.Event.TheVariants as call
use Rattle.pg_desk.specs.History.{State, after_all, ended, IsLegal, IsFrontOf, kept}
use Rattle.pg_desk.specs.Kept.{stored-part}
use Rattle.pg_types.specs.declared.error.Error.TheVariants.{OutOfMemory}
use Rattle.pg_query.specs.Dialogue.{Dialogue, Answer}
use Rattle.pg_query.specs.Lives.{Deed, Leads}
use Rattle.pg_query.specs.Meaning.{Place}
use Rattle.pg_core.specs.Deeds.{additions_in, answers_in, bookings_in}
use Rattle.pg_core.specs.Lists.{events_of, came_of, got_of, state_behind, IsReached, SparesAll}
use Rattle.pg_core.specs.Runs.{of_request, At, MayWait}
use Rattle.pg_core.specs.Times.{Fits, IsTimely, HangsUpNone, IsCommand, IsFaithful, IsUpright, TurnedWell, StaysUpright, AnsweredWell, LackedMemory}
use Rattle.pg_core.specs.Trails.{Moment, ran_by, IsRunning, moment_of, Turned, RunsOn, HasAnswered, WasRefused, PollEnds, OwnTurn}
use Rattle.pg_core.proofs.Faithful.{AllGranted, granted-or-lacks, was-whole}
use Rattle.pg_core.proofs.Gone.{IsNotGone, NoneGone, Stays, no-reads, none-gone, fits-on, fits-none}
use Rattle.pg_core.proofs.Refused.{HasGone, refused-why, timely-as, timely-back}
use Rattle.pg_core.proofs.Steps.{own-turn, others-turn, reached-on, taken-within, spared}
use Rattle.pg_core.proofs.Fitting.{told-fitting}
use Rattle.pg_core.proofs.Timely.{in-time}
use Rattle.pg_core.proofs.Trail.{begins}

gone-among : (before : List Deed) (a : Deed) (behind : List Deed) (id : ℕ) → a.event ≡ call.Take id (Ok taking.Gone) → NoneGone (before ++ a ∷ behind) → ⊥
gone-among [] a behind id is h = subst IsNotGone is h.0
gone-among (b ∷ before) a behind id is h = gone-among before a behind id is h.1

pub upright-begins : {T : Type 0} (d : Dialogue T) (s : State) (p : Place T) → IsCommand d → p.dialogue ≡ d → IsReached s → IsUpright d [] s p
upright-begins {T} d s p h is reached = record {
  reached = reached;
  runs = begins d (got_of s) p is h.tidy h.nothing;
  timely = (h.in_time, inr refl);
  fits = subst (λ (x : Dialogue T). Fits s x p.reads) (sym is) (fits-none s d p.reads h.sane (no-reads d h.nothing));
  faithful = subst (λ (x : Dialogue T). IsFaithful x) (sym is) h.faithful;
}

pub upright-turn : {T : Type 0} (d : Dialogue T) (place : ℕ) (trail : List Moment) (s : State) (p : Place T) (ds : List Deed) (q : Place T) → IsUpright d trail s p → Leads p.dialogue p.reads ds q.dialogue q.reads →
    IsLegal s (events_of ds) → ended (after_all s (events_of ds)) ≡ false → PollEnds ds q →
    OwnTurn d place trail s ds q × TurnedWell d (moment_of place (came_of (state_behind s ds)) ds ∷ trail) (state_behind s ds) q
upright-turn {T} d place trail s p ds q h l legal open_ ends = (turn, by turn.turned)
  where
    t : State
    t = state_behind s ds

    part : t ≡ after_all s (events_of ds)
    part = (stored-part s (events_of ds)).state

    stored : IsLegal s (kept (events_of ds))
    stored = (stored-part s (events_of ds)).legal legal

    turn : OwnTurn d place trail s ds q
    turn = own-turn d place trail s p ds q h.reached h.runs l stored ends

    trail' : List Moment
    trail' = moment_of place (came_of t) ds ∷ trail

    walked : Stays s ds q.dialogue q.reads
    walked = none-gone s p.dialogue p.reads ds q.dialogue q.reads h.reached h.fits (was-whole s (events_of ds) open_) legal l

    stays : IsRunning d trail' (got_of t) q → MayWait (ran_by d trail').left → (AllGranted ds × IsFaithful q.dialogue) ⊎ (q.dialogue ≡ Answer (Err OutOfMemory)) → TurnedWell d trail' t q
    stays runs reads (inr e) = LackedMemory e
    stays runs reads (inl g) = StaysUpright (record {
      reached = reached-on s (kept (events_of ds)) h.reached stored;
      runs = runs;
      timely = timely-back (got_of t) (came_of t) (ran_by d trail').at (ran_by d trail').read (ran_by d trail').left
          (taken-within t [] (ran_by d trail').at (reached-on s (kept (events_of ds)) h.reached stored)) runs.within
          (in-time (came_of t) (ran_by d trail).at (ran_by d trail).read (ran_by d trail).left (bookings_in ds) (answers_in ds) (additions_in ds) (told-fitting ds) turn.met.1
          (timely-as (got_of s) (came_of t) (ran_by d trail).at (ran_by d trail).read (ran_by d trail).left (taken-within s (kept (events_of ds)) (ran_by d trail).at h.reached) h.runs.within h.timely));
      fits = subst (λ (x : State). Fits x q.dialogue q.reads) (sym part) walked.fits;
      faithful = g.1;
    }) reads

    by : Turned d trail' t ds q → TurnedWell d trail' t q
    by (RunsOn runs reads) = stays runs reads (granted-or-lacks s p ds q h.faithful walked.none_gone l legal open_ ends)
    by (HasAnswered r e is) = AnsweredWell r e is
    by (WasRefused r) = why (refused-why d trail s p h.reached h.runs h.timely ds q l legal r)
      where
        why : (q.dialogue ≡ Answer (Err OutOfMemory)) ⊎ HasGone ds → TurnedWell d trail' t q
        why (inl e) = LackedMemory e
        why (inr g) = absurd (gone-among g.before g.last g.behind g.id g.gone (subst NoneGone g.is_last walked.none_gone))

pub upright-others : {T : Type 0} (d : Dialogue T) (trail : List Moment) (s : State) (p : Place T) (L : List Deed) → IsUpright d trail s p → IsLegal s (events_of L) → SparesAll p.reads L → HangsUpNone p.reads L →
    IsUpright d trail (after_all s (events_of L)) p
upright-others {T} d trail s p L h legal spares none = record {
  reached = reached-on s (events_of L) h.reached legal;
  runs = runs;
  timely = timely;
  fits = fits-on s p.dialogue p.reads L h.reached spares none h.fits;
  faithful = h.faithful;
}
  where
    t : State
    t = after_all s (events_of L)

    part : state_behind s L ≡ t
    part = (stored-part s (events_of L)).state

    stored : IsLegal s (kept (events_of L))
    stored = (stored-part s (events_of L)).legal legal

    runs : IsRunning d trail (got_of t) p
    runs = subst (λ (x : State). IsRunning d trail (got_of x) p) part (others-turn d trail s p L h.reached h.runs stored spares)

    same : (at : Option ℕ) → At at p.reads (ran_by d trail).left → of_request (got_of t) at ≡ of_request (got_of s) at
    same None a = refl
    same (Some k) a = ap (λ (x : State). got_of x k) (sym part) ∙ spared s L k h.reached stored (subst (λ (j : ℕ). SparesAll j L) (sym a) spares)

    front : IsFrontOf (of_request (got_of s) (ran_by d trail).at) (of_request (got_of t) (ran_by d trail).at)
    front = ([], append-nil (of_request (got_of s) (ran_by d trail).at) ∙ sym (same (ran_by d trail).at h.runs.at))

    timely : IsTimely (got_of t) (ran_by d trail).at (ran_by d trail).read (ran_by d trail).left
    timely = timely-as (got_of s) (got_of t) (ran_by d trail).at (ran_by d trail).read (ran_by d trail).left front h.runs.within h.timely
