-- A connection that is polled over its hub, and what its polls do.
use Rattle.std.specs.Prelude.{◌≡◌, ◌⊎◌, ℕ, Bool, true, false, List, [], ◌∷◌, ◌++◌, Option, Some, None, is_none, Result, Ok, Err}
use Rattle.std.specs.Option.{unwrap_or}
use Rattle.futures.specs.declared.task.Poll.{Poll}
use Rattle.futures.specs.declared.task.Poll.TheVariants.{Ready, Pending}
use Rattle.pg_spec.specs.Links.{LinkView}
use Rattle.pg_types.specs.declared.cause.Cause.TheVariants as cause
use Rattle.pg_types.specs.declared.error.Error.{Error}
use Rattle.pg_types.specs.declared.error.Error.TheVariants as error
use Rattle.pg_errors.specs.declared.async_message.AsyncMessage.{AsyncMessage}
use Rattle.pg_wire.specs.LinkCalls.{WaitAnswers}
use Rattle.pg_wire.specs.declared.link.LinkWait.{LinkWait}
use Rattle.pg_wire.specs.declared.link.LinkWait.TheVariants as wait
use Rattle.pg_desk.specs.declared.event.DeskFault.{DeskFault}
use Rattle.pg_desk.specs.declared.event.Event.{Event}
use Rattle.pg_desk.specs.declared.event.Event.TheVariants.{Fail}
use Rattle.pg_connect.specs.declared.streams.Streams.{Streams}
use Rattle.pg_connect.specs.Answers.{PollAnswers}
use Rattle.pg_drive.specs.declared.line.Line.{Line}
use Rattle.pg_drive.specs.declared.line.Lull.{Lull}
use Rattle.pg_drive.specs.declared.line.Lull.TheVariants.{Moved, Still, Waited}

-- what a line stands for: its hub, its connection and link, the messages kept, and how long nothing moved
pub record LineView (H : Type 0) : Type 0 where
  pub hub : H
  pub streams : Streams
  pub link : LinkView
  pub messages : List AsyncMessage
  pub lull : Lull

-- a line, where its link stands for this
abbrev pub seen : {L H : Type 0} → (L → LinkView) → Line L H → LineView H
seen view l = record { hub = l.hub; streams = l.connection.streams; link = view l.connection.link; messages = l.messages.items; lull = l.lull }

-- the polls in which nothing moves are counted anew
abbrev pub anew : {H : Type 0} → LineView H → LineView H
anew l = record l { lull = Moved }

-- before the first poll
abbrev pub new_line : {H : Type 0} → H → Streams → LinkView → LineView H
new_line hub streams link = record { hub = hub; streams = streams; link = link; messages = []; lull = Moved }

-- what a poll of the connection tells: nothing at its end, and else whether it moved anything: it handed a message out, or says so itself
abbrev pub told_by : Poll (Option (Result AsyncMessage Error)) → Streams → Option Bool
told_by Pending streams = Some streams.moved
told_by (Ready None) streams = None
told_by (Ready (Some answer)) streams = Some true

-- whether that moved anything; the end does
abbrev pub has_moved : Option Bool → Bool
has_moved told = unwrap_or told true

-- a message that was handed out is kept behind those before; an error isn't kept
abbrev pub IsKept : Poll (Option (Result AsyncMessage Error)) → (old new : List AsyncMessage) → Type 0
IsKept Pending old new = new ≡ old
IsKept (Ready None) old new = new ≡ old
IsKept (Ready (Some (Ok message))) old new = new ≡ old ++ message ∷ []
IsKept (Ready (Some (Err e))) old new = ⊥

-- The connection was polled and answered no error. It tells this.
pub record Polled {H : Type 0} (becomes : H → List Event → H → Type 0) (a b : LineView H) (told : Option Bool) : Type 0 where
  pub answer : Poll (Option (Result AsyncMessage Error))
  pub polled : PollAnswers becomes a.hub b.hub a.streams b.streams a.link b.link answer
  pub kept : IsKept answer a.messages b.messages
  pub says : told ≡ told_by answer b.streams
  pub lull : b.lull ≡ a.lull

-- It was polled and answered this error.
pub record Failed {H : Type 0} (becomes : H → List Event → H → Type 0) (a b : LineView H) (e : Error) : Type 0 where
  pub polled : PollAnswers becomes a.hub b.hub a.streams b.streams a.link b.link (Ready (Some (Err e)))
  pub messages : b.messages ≡ a.messages

-- It handed out a message for which there was no room, and the hub was made to fail.
pub record Lost {H : Type 0} (becomes : H → List Event → H → Type 0) (a b : LineView H) (e : Error) : Type 0 where
  pub memory : e ≡ error.OutOfMemory
  pub message : AsyncMessage
  pub between : H
  pub polled : PollAnswers becomes a.hub between a.streams b.streams a.link b.link (Ready (Some (Ok message)))
  pub answer : Result (Unit {0}) DeskFault
  pub failed : becomes between (Fail answer ∷ []) b.hub
  pub messages : b.messages ≡ a.messages

-- how a poll of the connection ended
abbrev pub PollEnds : {H : Type 0} → (H → List Event → H → Type 0) → (a b : LineView H) → Result (Option Bool) Error → Type 0
PollEnds becomes a b (Ok told) = Polled becomes a b told
PollEnds becomes a b (Err e) = Failed becomes a b e ⊎ Lost becomes a b e

-- What comes behind a poll in which the count of calls that weren't ready went from one number to another. Where two polls in a
-- row moved nothing the link is waited for once; in vain, one is stalled. Where the poll behind the wait moves nothing either, one
-- is stalled too. `stays`: the link is left as it was; `waits`: it was waited for, and answered so.
abbrev pub PausesSo : Lull → (moved : Bool) → (from to : ℕ) → (stays : Type 0) → (waits : LinkWait → Type 0) → Result Lull Error → Type 0
PausesSo was true from to stays waits next = (next ≡ Ok Moved) × stays
PausesSo Moved false from to stays waits next = (next ≡ Ok Still) × stays
PausesSo Still false from to stays waits (Ok next) = (next ≡ Waited) × waits wait.Ready
PausesSo Still false from to stays waits (Err (error.Stalled before after)) = (before ≡ from) × (after ≡ to) × waits wait.Idle
PausesSo Still false from to stays waits (Err (error.Io cause.Link)) = waits wait.Failed
PausesSo Still false from to stays waits (Err e) = ⊥
PausesSo Waited false from to stays waits next = (next ≡ Err (error.Stalled from to)) × stays

-- the same of a link
abbrev pub PauseEnds : Lull → (moved : Bool) → (from to : ℕ) → LinkView → LinkView → Result Lull Error → Type 0
PauseEnds was moved from to l m next = PausesSo was moved from to (m ≡ l) (WaitAnswers l m) next

-- The connection was polled without an error, and what came behind it ended so.
pub record Paused {H : Type 0} (becomes : H → List Event → H → Type 0) (a b : LineView H) (next : Result Lull Error) : Type 0 where
  pub mid : LineView H
  pub told : Option Bool
  pub polled : Polled becomes a mid told
  pub pause : PauseEnds a.lull (has_moved told) a.link.quiet mid.link.quiet mid.link b.link next
  pub same : b ≡ record mid { link = b.link; lull = b.lull }

-- what a step of a line did: it goes on, or this error ends it
abbrev pub LineSteps : {H : Type 0} → (H → List Event → H → Type 0) → (a b : LineView H) → Result (Unit {0}) Error → Type 0
LineSteps becomes a b (Ok x) = Paused becomes a b (Ok b.lull)
LineSteps becomes a b (Err e) = (Failed becomes a b e ⊎ Lost becomes a b e) ⊎ Paused becomes a b (Err e)

-- A step without an error, which says whether the connection ended in its poll.
pub record Advances {H : Type 0} (becomes : H → List Event → H → Type 0) (a b : LineView H) (over : Bool) : Type 0 where
  pub paused : Paused becomes a b (Ok b.lull)
  pub says : over ≡ is_none paused.told

-- what a step did that says whether the connection ended
abbrev pub LineAdvances : {H : Type 0} → (H → List Event → H → Type 0) → (a b : LineView H) → Result Bool Error → Type 0
LineAdvances becomes a b (Ok over) = Advances becomes a b over
LineAdvances becomes a b (Err e) = LineSteps becomes a b (Err e)
