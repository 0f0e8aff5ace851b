-- What a command's poll leaves alone.
use Rattle.std.proofs.Common.{◌≡◌, ◌≢◌, inl, inr, ℕ, ◌<◌, List, length, Bool, true, false, sym, subst}
use Rattle.pg_desk.specs.History.{State, IsLegal}
use Rattle.pg_query.specs.Dialogue.{Dialogue, Answer, Ask, Send, Leave, Read, Put, Finish, Close, HangUp, Call, Hear}
use Rattle.pg_query.specs.Lives.{Deed, Leads}
use Rattle.pg_query.specs.Meaning.{Place}
use Rattle.pg_query.specs.declared.desk_call.DeskCall.{DeskCall}
use Rattle.pg_query.specs.declared.desk_call.Reply.{Reply}
use Rattle.pg_spec.specs.Courses.{Course, Who}
use Rattle.pg_core.specs.Lists.{SparesAll, events_of}
use Rattle.pg_core.specs.Runs.{MayWait}
use Rattle.pg_core.specs.Times.{Free, Open, takes_parts, Fits, HangsUpNone, IsCommand, IsKept, IsOff, IsSaneSo, IsThere}
use Rattle.pg_core.proofs.Off.{left-alone, off-none, off-other}
use Rattle.pg_session.specs.Kept.{IsUnderWay, Now}

-- where a command waits its request is there
fits-waits : {T : Type 0} (s : State) (d : Dialogue T) (id : ℕ) → Fits s d id → MayWait d → IsSaneSo d × IsThere s id
fits-waits s (Read cleanup decides next) id (stage, sane, kept, come) (inl reads) = ((stage, sane), by (takes_parts stage) kept)
  where
    by : (b : Bool) → IsKept s id b (Read cleanup decides next) → IsThere s id
    by true h = h.0
    by false (inl h) = absurd h
    by false (inr h) = h.0
fits-waits s (Read cleanup decides next) id fits (inr puts) = absurd puts
fits-waits s (Put cleanup part d) id fits (inl reads) = absurd reads
fits-waits s (Put cleanup part d) id (first, sane, kept, come) (inr puts) = ((Open, (tt, first, sane)), kept.0)
fits-waits s (Answer r) id fits (inl h) = absurd h
fits-waits s (Answer r) id fits (inr h) = absurd h
fits-waits s (Ask copying part d) id fits (inl h) = absurd h
fits-waits s (Ask copying part d) id fits (inr h) = absurd h
fits-waits s (Send part refused d) id fits (inl h) = absurd h
fits-waits s (Send part refused d) id fits (inr h) = absurd h
fits-waits s (Leave sent d) id fits (inl h) = absurd h
fits-waits s (Leave sent d) id fits (inr h) = absurd h
fits-waits s (Finish part d) id fits (inl h) = absurd h
fits-waits s (Finish part d) id fits (inr h) = absurd h
fits-waits s (Close part d) id fits (inl h) = absurd h
fits-waits s (Close part d) id fits (inr h) = absurd h
fits-waits s (HangUp d) id fits (inl h) = absurd h
fits-waits s (HangUp d) id fits (inr h) = absurd h
fits-waits s (Call q refused next) id fits (inl h) = absurd h
fits-waits s (Call q refused next) id fits (inr h) = absurd h
fits-waits s (Hear next) id fits (inl h) = absurd h
fits-waits s (Hear next) id fits (inr h) = absurd h

-- the request of a command that runs is booked
pub is-booked : {T : Type 0} (course : Course DeskCall Reply) (who : Who) (d : Dialogue T) (free : ℕ) (now : Now) (p : Place T) → IsUnderWay course who d free now p → p.reads < length now.state.book
is-booked course who d free now p h = (fits-waits now.state p.dialogue p.reads h.ready.upright.fits h.waits).1.booked

-- a command that begins leaves each request alone that was booked
pub begin-spares : {T : Type 0} (d : Dialogue T) (s : State) (p : Place T) (ds : List Deed) (q : Dialogue T) (end k : ℕ) → IsCommand d → p.dialogue ≡ d → IsLegal s (events_of ds) → Leads p.dialogue p.reads ds q end →
    k < length s.book → SparesAll k ds × HangsUpNone k ds
begin-spares {T} d s p ds q end k h is legal l lt =
    left-alone k s p.dialogue p.reads ds q end (subst (λ (x : Dialogue T). IsOff k x p.reads) (sym is) (off-none k d p.reads (Free, h.sane) h.nothing)) lt legal l

-- one that runs leaves each other alone
pub poll-spares : {T : Type 0} (course : Course DeskCall Reply) (who : Who) (d : Dialogue T) (free : ℕ) (now : Now) (p : Place T) (ds : List Deed) (q : Dialogue T) (end k : ℕ) → IsUnderWay course who d free now p →
    IsLegal now.state (events_of ds) → Leads p.dialogue p.reads ds q end → k < length now.state.book → p.reads ≢ k → SparesAll k ds × HangsUpNone k ds
poll-spares course who d free now p ds q end k h legal l lt other =
    left-alone k now.state p.dialogue p.reads ds q end (off-other k p.dialogue p.reads (fits-waits now.state p.dialogue p.reads h.ready.upright.fits h.waits).0 other) lt legal l
