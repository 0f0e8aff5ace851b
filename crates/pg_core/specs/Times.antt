-- Commands that decide in time: a reading decides at the latest by the ReadyForQuery of its request.
use Rattle.std.specs.Prelude.{◌≡◌, ◌≢◌, ◌⊎◌, ℕ, ◌<◌, List, [], ◌∷◌, ◌++◌, length, take, Bool, true, false, Option, Some, Result, Ok, Err}
use Rattle.std.specs.List.{list_any}
use Rattle.pg_spec.specs.RawMessages.{RawMessage, is_ready, ends_in}
use Rattle.pg_desk.specs.History.{State, is_copying, is_hung_up}
use Rattle.pg_desk.specs.declared.event.Put.TheVariants as putting
use Rattle.pg_desk.specs.declared.event.Event.{Event}
use Rattle.pg_desk.specs.declared.event.Event.TheVariants as call
use Rattle.pg_query.specs.Dialogue.{Dialogue, Answer, Ask, Send, Leave, Read, Put, Finish, Close, HangUp, Call, Hear, fits}
use Rattle.pg_query.specs.Lives.{Deed}
use Rattle.pg_query.specs.declared.desk_call.Cleanup.{Cleanup}
use Rattle.pg_query.specs.declared.desk_call.Cleanup.TheVariants.{Close as CloseFirst}
use Rattle.pg_query.specs.declared.desk_call.Reply.{Reply}
use Rattle.pg_spec.specs.Copies.{is_opened}
use Rattle.pg_spec.specs.Dialogues.{decided_after}
use Rattle.pg_types.specs.declared.error.Error.{Error}
use Rattle.pg_types.specs.declared.error.Error.TheVariants.{OutOfMemory}
use Rattle.pg_query.specs.Meaning.{Place}
use Rattle.pg_core.specs.Lists.{IsReached, got_of}
use Rattle.pg_core.specs.Runs.{of_request, IsTidy, ReadsNothing, MayWait}
use Rattle.pg_core.specs.Trails.{Moment, IsRunning, ran_by}

-- nothing is read before the next request is booked
abbrev pub ReadsNo : {T : Type 0} → Dialogue T → Type 0
ReadsNo (Answer r) = Unit {0}
ReadsNo (Ask copying part d) = Unit {0}
ReadsNo (Send part refused d) = ((e : Error) → ReadsNo (refused e)) × ReadsNo d
ReadsNo (Leave id d) = ReadsNo d
ReadsNo (Read cleanup decides next) = ⊥
ReadsNo (Put cleanup part d) = ReadsNo d
ReadsNo (Finish part d) = ReadsNo d
ReadsNo (Close part d) = ReadsNo d
ReadsNo (HangUp d) = ReadsNo d
ReadsNo (Call q refused next) = ((e : Error) → ReadsNo (refused e)) × ((r : Reply) → fits q r ≡ true → ReadsNo (next r))
ReadsNo (Hear next) = Unit {0}

-- messages that end in a ReadyForQuery decide
abbrev pub DecidesInTime : (List RawMessage → Bool) → Type 0
DecidesInTime decides = (ms : List RawMessage) → ends_in is_ready ms ≡ true → (k : ℕ) × (decided_after decides ms ≡ Some k)

-- Each reading decides in time, and behind a ReadyForQuery nothing is read.
abbrev pub IsInTime : {T : Type 0} → Dialogue T → Type 0
IsInTime (Answer r) = Unit {0}
IsInTime (Ask copying part d) = IsInTime d
IsInTime (Send part refused d) = ((e : Error) → IsInTime (refused e)) × IsInTime d
IsInTime (Leave id d) = IsInTime d
IsInTime (Read cleanup decides next) = DecidesInTime decides × ((ms : List RawMessage) → decided_after decides ms ≡ Some (length ms) → (list_any is_ready ms ≡ true → ReadsNo (next ms)) × IsInTime (next ms))
IsInTime (Put cleanup part d) = IsInTime d
IsInTime (Finish part d) = IsInTime d
IsInTime (Close part d) = IsInTime d
IsInTime (HangUp d) = IsInTime d
IsInTime (Call q refused next) = ((e : Error) → IsInTime (refused e)) × ((r : Reply) → fits q r ≡ true → IsInTime (next r))
IsInTime (Hear next) = Unit {0}

-- where it stands it is in time: no ReadyForQuery is among what it read, or it reads nothing
abbrev pub IsTimely : {T : Type 0} → (ℕ → List RawMessage) → Option ℕ → ℕ → Dialogue T → Type 0
IsTimely came at n d = IsInTime d × (ReadsNo d ⊎ (list_any is_ready (take n (of_request came at)) ≡ false))

-- What becomes of the copy that is read.
pub data Stage : Type 0 where
  -- none is open: the request is no copy, or the copy was ended
  Free : Stage
  -- its opening was sent, and so much came of the reply to that, which doesn't answer it
  Opening : (came : List RawMessage) → Stage
  -- the opening was answered
  Open : Stage

-- at the desk the copy takes parts: it was booked, and isn't ended
abbrev pub takes_parts : Stage → Bool
takes_parts Free = false
takes_parts (Opening came) = true
takes_parts Open = true

-- where a request begins
abbrev pub stage_of : (copying : Bool) → Stage
stage_of true = Opening []
stage_of false = Free

-- no copy that is read is open
abbrev pub IsFree : Stage → Type 0
IsFree Free = Unit {0}
IsFree (Opening came) = ⊥
IsFree Open = ⊥

-- the copy that is read isn't ended
abbrev pub IsUnended : Stage → Type 0
IsUnended Free = ⊥
IsUnended (Opening came) = Unit {0}
IsUnended Open = Unit {0}

-- its opening was answered too
abbrev pub IsOpen : Stage → Type 0
IsOpen Free = ⊥
IsOpen (Opening came) = ⊥
IsOpen Open = Unit {0}

-- no copy is ended by it
abbrev pub EndsNone : List Cleanup → Type 0
EndsNone [] = Unit {0}
EndsNone (CloseFirst part ∷ cs) = ⊥
EndsNone (c ∷ cs) = EndsNone cs

-- What is left to do where it is given up: an open copy is ended first, and no other is.
abbrev pub EndsFirst : (opened : Bool) → List Cleanup → Type 0
EndsFirst true (CloseFirst part ∷ cs) = EndsNone cs
EndsFirst true _ = ⊥
EndsFirst false cs = EndsNone cs

-- From here on. Once a copy is booked, the reply to its opening is read, exactly up to the message that answers it. Then parts are added to it, and
-- nothing is read before it is ended. It is ended before it is hung up, before another request is booked that is read, before the answer, and first of all where the
-- command is given up. Until its opening is answered it is read or ended by `Close`, and nothing else. Behind a hang-up, and behind an end at which
-- what is left of the reply isn't wanted (`Close`), nothing is read before the next request. No `Leave` stands in it (a walk comes to one behind a
-- request that it sent).
abbrev pub IsSane : {T : Type 0} → Stage → Dialogue T → Type 0
IsSane stage (Answer r) = IsFree stage
IsSane stage (Ask copying part d) = IsFree stage × IsSane (stage_of copying) d
IsSane (Opening came) (Send part refused d) = ⊥
IsSane stage (Send part refused d) = ((e : Error) → IsSane stage (refused e)) × IsSane stage d
IsSane stage (Leave id d) = ⊥
IsSane Free (Read cleanup decides next) = EndsFirst false cleanup × ((ms : List RawMessage) → decided_after decides ms ≡ Some (length ms) → IsSane Free (next ms))
IsSane (Opening came) (Read cleanup decides next) =
    EndsFirst true cleanup × ((ms : List RawMessage) → decided_after decides ms ≡ decided_after (λ front. is_opened (came ++ front)) ms)
    × ((ms : List RawMessage) → decided_after decides ms ≡ Some (length ms) → IsSane Open (next ms))
IsSane Open (Read cleanup decides next) = ⊥
IsSane stage (Put cleanup part d) = IsOpen stage × EndsFirst true cleanup × IsSane Open d
IsSane stage (Finish part d) = IsOpen stage × IsSane Free d
IsSane stage (Close part d) = IsUnended stage × ReadsNo d × IsSane Free d
IsSane stage (HangUp d) = IsFree stage × ReadsNo d × IsSane Free d
IsSane (Opening came) (Call q refused next) = ⊥
IsSane stage (Call q refused next) = ((e : Error) → IsSane stage (refused e)) × ((r : Reply) → fits q r ≡ true → IsSane stage (next r))
IsSane stage (Hear next) = Unit {0}

-- the request that is read is booked, and nobody hung it up
pub record IsThere (s : State) (id : ℕ) : Type 0 where
  pub booked : id < length s.book
  pub kept_up : is_hung_up s id ≡ false

-- The request that is read is there where this is read or added to. It is a copy of which the desk takes parts where one that isn't ended stands here, and only there.
abbrev pub IsKept : {T : Type 0} → State → (id : ℕ) → (opened : Bool) → Dialogue T → Type 0
IsKept s id true d = IsThere s id × (is_copying id s.copying ≡ true)
IsKept s id false d = ReadsNo d ⊎ (IsThere s id × (is_copying id s.copying ≡ false))

-- the same where another request is hung up
abbrev pub IsKeptBeside : {T : Type 0} → State → (id sent : ℕ) → (opened : Bool) → Dialogue T → Type 0
IsKeptBeside s id sent true d = IsThere s id × (is_copying id s.copying ≡ true) × (sent ≢ id)
IsKeptBeside s id sent false d = ReadsNo d ⊎ (IsThere s id × (is_copying id s.copying ≡ false) × (sent ≢ id))

-- what was taken of a reply is what came where the opening is read, and doesn't answer that; where the copy is open it does
abbrev pub HasCome : (got : List RawMessage) → Stage → Type 0
HasCome got Free = Unit {0}
HasCome got (Opening came) = (got ≡ came) × (is_opened came ≡ false)
HasCome got Open = is_opened got ≡ true

-- where a walk stands: it reads nothing, or its request is there
abbrev pub Fits : {T : Type 0} → State → Dialogue T → ℕ → Type 0
Fits s (Leave sent d) id = (stage : Stage) × IsSane stage d × IsKeptBeside s id sent (takes_parts stage) d × HasCome (got_of s id) stage
Fits s (Answer r) id = Unit {0}
Fits s (Ask copying part d) id = IsSane (stage_of copying) d
Fits s (Send part refused d) id = (stage : Stage) × IsSane stage (Send part refused d) × IsKept s id (takes_parts stage) (Send part refused d) × HasCome (got_of s id) stage
Fits s (Read cleanup decides next) id = (stage : Stage) × IsSane stage (Read cleanup decides next) × IsKept s id (takes_parts stage) (Read cleanup decides next) × HasCome (got_of s id) stage
Fits s (Put cleanup part d) id = EndsFirst true cleanup × IsSane Open d × IsKept s id true d × HasCome (got_of s id) Open
Fits s (Finish part d) id = IsSane Free d × IsKept s id true d
Fits s (Close part d) id = IsSane Free d × IsKept s id true d
Fits s (HangUp d) id = ReadsNo d × IsSane Free d
Fits s (Call q refused next) id = (stage : Stage) × IsSane stage (Call q refused next) × IsKept s id (takes_parts stage) (Call q refused next) × HasCome (got_of s id) stage
Fits s (Hear next) id = Unit {0}

-- where memory lacked it reads and asks nothing more, and answers that
abbrev pub LacksMemory : {T : Type 0} → Dialogue T → Type 0
LacksMemory (Answer r) = r ≡ Err OutOfMemory
LacksMemory (Send part refused d) = LacksMemory (refused OutOfMemory) × LacksMemory d
LacksMemory (Leave id d) = LacksMemory d
LacksMemory (Close part d) = LacksMemory d
LacksMemory (HangUp d) = LacksMemory d
LacksMemory _ = ⊥

-- Where a request that it sends, or a question, is refused for want of memory, it answers that.
abbrev pub IsFaithful : {T : Type 0} → Dialogue T → Type 0
IsFaithful (Answer r) = Unit {0}
IsFaithful (Ask copying part d) = IsFaithful d
IsFaithful (Send part refused d) = LacksMemory (refused OutOfMemory) × IsFaithful d
IsFaithful (Leave id d) = IsFaithful d
IsFaithful (Read cleanup decides next) = (ms : List RawMessage) → IsFaithful (next ms)
IsFaithful (Put cleanup part d) = IsFaithful d
IsFaithful (Finish part d) = IsFaithful d
IsFaithful (Close part d) = IsFaithful d
IsFaithful (HangUp d) = IsFaithful d
IsFaithful (Call q refused next) = LacksMemory (refused OutOfMemory) × ((r : Reply) → fits q r ≡ true → IsFaithful (next r))
IsFaithful (Hear next) = Unit {0}

-- What the core asks of a command's dialogue, at its begin.
pub record IsCommand {T : Type 0} (d : Dialogue T) : Type 0 where
  pub tidy : IsTidy d
  pub nothing : ReadsNothing d
  pub sane : IsSane Free d
  pub in_time : IsInTime d
  pub faithful : IsFaithful d

-- What is kept of a hub and a running command beside its equations.
pub record IsUpright {T : Type 0} (d : Dialogue T) (trail : List Moment) (s : State) (p : Place T) : Type 0 where
  pub reached : IsReached s
  pub runs : IsRunning d trail (got_of s) p
  pub timely : IsTimely (got_of s) (ran_by d trail).at (ran_by d trail).read (ran_by d trail).left
  pub fits : Fits s p.dialogue p.reads
  pub faithful : IsFaithful p.dialogue

-- an event neither hangs up this request nor adds to it
abbrev pub IsNoHangUp : (request : ℕ) → Event → Type 0
IsNoHangUp k (call.HangUp which (Ok x)) = which ≢ k
IsNoHangUp k (call.Put which part putting.Took) = which ≢ k
IsNoHangUp k (call.EndCopy which part putting.Took) = which ≢ k
IsNoHangUp k _ = Unit {0}

-- none of them does
abbrev pub HangsUpNone : (request : ℕ) → List Deed → Type 0
HangsUpNone k [] = Unit {0}
HangsUpNone k (a ∷ L) = IsNoHangUp k a.event × HangsUpNone k L

-- Where a turn of its own led, in a legal list of an open hub: it waits and is upright, or it answered as its equations say, or memory lacked.
pub data TurnedWell {T : Type 0} (d : Dialogue T) (trail : List Moment) (s : State) (q : Place T) : Type 0 where
  StaysUpright : IsUpright d trail s q → MayWait (ran_by d trail).left → TurnedWell d trail s q
  AnsweredWell : (r : Result T Error) → q.dialogue ≡ Answer r → (ran_by d trail).left ≡ Answer r → TurnedWell d trail s q
  LackedMemory : q.dialogue ≡ Answer (Err OutOfMemory) → TurnedWell d trail s q

-- it is sane, whatever becomes of its copy
abbrev pub IsSaneSo : {T : Type 0} → Dialogue T → Type 0
IsSaneSo d = (stage : Stage) × IsSane stage d

-- A place of another command, as one who reads request `k` sees it: it reads and adds to another, or to none yet, and lets go of another.
abbrev pub IsOff : {T : Type 0} → (k : ℕ) → Dialogue T → ℕ → Type 0
IsOff k (Leave sent d) id = IsSaneSo d × (sent ≢ k) × (ReadsNothing d ⊎ (id ≢ k))
IsOff k (Answer r) id = Unit {0}
IsOff k (Ask copying part d) id = IsSaneSo d
IsOff k (Send part refused d) id = IsSaneSo (Send part refused d) × (ReadsNothing (Send part refused d) ⊎ (id ≢ k))
IsOff k (Read cleanup decides next) id = IsSaneSo (Read cleanup decides next) × (id ≢ k)
IsOff k (Put cleanup part d) id = IsSaneSo d × (id ≢ k)
IsOff k (Finish part d) id = IsSaneSo d × (id ≢ k)
IsOff k (Close part d) id = IsSaneSo d × (id ≢ k)
IsOff k (HangUp d) id = IsSaneSo d × (id ≢ k)
IsOff k (Call q refused next) id = IsSaneSo (Call q refused next) × (ReadsNothing (Call q refused next) ⊎ (id ≢ k))
IsOff k (Hear next) id = Unit {0}
