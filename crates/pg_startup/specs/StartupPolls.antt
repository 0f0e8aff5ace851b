-- How a startup's polls end.
use Rattle.std.specs.Prelude.{◌≡◌, ℕ, ◌+◌, ◌-◌, if◌then◌else◌, ◌≤◌, Bool, true, false, List, [], ◌++◌, None, Some, Result, Ok, Err, IsTrue}
use Rattle.pg_spec.specs.Links.{LinkView, Rose}
use Rattle.futures.specs.declared.task.Poll.{Poll}
use Rattle.futures.specs.declared.task.Poll.TheVariants.{Ready, Pending}
use Rattle.pg_wire.specs.LinkCalls.{Keeps}
use Rattle.pg_spec.specs.RawMessages.{messages, has_bad_header}
use Rattle.pg_spec.specs.Startup.{Login}
use Rattle.pg_types.specs.declared.cause.Cause.TheVariants as cause
use Rattle.pg_types.specs.declared.error.Error.{Error}
use Rattle.pg_types.specs.declared.error.Error.TheVariants as error
use Rattle.pg_connect.specs.Ends.{WasBlocked}
use Rattle.pg_connect.specs.Passes.{Untouched}
use Rattle.pg_connect.specs.declared.streams.Streams.{Streams}
use Rattle.pg_startup.specs.Startups.{Opening, Opened, Failed, HasNone, sends_left}
use Rattle.pg_startup.specs.declared.startup.Startup.{Startup}

-- what a poll answers: the startup is done, it failed, or it goes on
abbrev pub StartupAnswers : (l : Login) (asked : ℕ) (begin now : LinkView) → Startup → Poll (Result (Unit {0}) Error) → Type 0
StartupAnswers l asked begin now s (Ready (Ok x)) = Opened l asked begin now s
StartupAnswers l asked begin now s (Ready (Err e)) = Failed l asked begin now s e
StartupAnswers l asked begin now s Pending = Opening l asked begin now s

-- what hearing and sending came to: where it stands, or that it failed
abbrev pub CaughtUp : (l : Login) (asked : ℕ) (begin now : LinkView) → Startup → Result Bool Error → Type 0
CaughtUp l asked begin now s (Ok caught_up) = Opening l asked begin now s
CaughtUp l asked begin now s (Err e) = Failed l asked begin now s e

-- All frames were taken and passed on. All that came was heard, unless it is done, and what is left of it isn't refused.
pub record IsCaughtUp (s : Startup) : Type 0 where
  pub sent : s.bytes.unsent.items ≡ []
  pub flushed : s.bytes.flushed ≡ true
  pub heard : s.done ≡ false → HasNone s.bytes.buffer.items

-- how hearing and sending ended: it is caught up, or the link wasn't ready
abbrev pub CatchEnds : Startup → LinkView → LinkView → Result Bool Error → Type 0
CatchEnds new before after (Ok true) = IsCaughtUp new
CatchEnds new before after (Ok false) = WasBlocked new.bytes.moved before after
CatchEnds new before after (Err e) = Unit {0}

-- how much is left to do: frames that may still be asked for, bytes to be sent, and bytes that may still come
abbrev pub start_left : Startup → ℕ
start_left s = sends_left s + (s.bytes.max_bytes - s.bytes.given)

-- one, where something moved
abbrev pub step_of : Bool → ℕ
step_of moved = if moved then 1 else 0

-- Hearing and sending read nothing, and less is left where something moved.
pub record CatchesUp (old new : Startup) (before after : LinkView) : Type 0 where
  pub limit : new.bytes.max_bytes ≡ old.bytes.max_bytes
  pub given : new.bytes.given ≡ old.bytes.given
  pub nearer : start_left new + step_of new.bytes.moved ≤ start_left old + step_of old.bytes.moved
  pub still : new.bytes.moved ≡ false → (old.bytes.moved ≡ false) × Untouched before after
  pub keeps : Keeps before after

-- less is left where something moved, and never more
abbrev pub IsNearer : (old new : Startup) → Type 0
IsNearer old new = start_left new + step_of new.bytes.moved ≤ start_left old

-- It waits for more: all frames were taken and passed on, all that came was heard, what is left of it isn't refused, and the
-- link may give nothing now.
pub record IsIdle (s : Startup) (link : LinkView) : Type 0 where
  pub going : s.done ≡ false
  pub sent : s.bytes.unsent.items ≡ []
  pub heard : messages s.bytes.buffer.items ≡ []
  pub header : has_bad_header s.bytes.buffer.items ≡ false
  pub empty : link.due ≡ Some []
  pub flushed : s.bytes.flushed ≡ true

-- A poll that goes on met a link that wasn't ready. Where nothing moved, the link is untouched, and that is a lull of one that
-- was promised to be ready; over a steady link nothing is left to be done.
pub record GoesOn (s : Startup) (before after : LinkView) : Type 0 where
  pub keeps : Keeps before after
  pub quiet : Rose before.quiet after.quiet
  pub lulls : s.bytes.moved ≡ false → IsTrue before.promised → Rose before.lulls after.lulls
  pub still : s.bytes.moved ≡ false → Untouched before after
  pub idle : IsTrue before.steady → IsIdle s after

-- a cause that is the link's came in these calls: one of them failed, or was given the end
abbrev pub FailsNow : (before after : LinkView) → Error → Type 0
FailsNow before after (error.Io cause.Link) = Rose before.faults after.faults
FailsNow before after (error.Io cause.Ended) = Rose before.ends after.ends
FailsNow before after error.Closed = Rose before.ends after.ends
FailsNow before after e = Unit {0}

-- its limit is as before, and frames were only added
pub record SameStart (old new : Startup) : Type 0 where
  pub limit : new.bytes.max_bytes ≡ old.bytes.max_bytes
  pub more : List ℕ
  pub opening : new.opening.items ≡ old.opening.items ++ more

-- The streams of a connection behind its startup: nothing was delivered, and nothing is unsent; what was read behind
-- ReadyForQuery, the notices and the reports go on.
pub record IsFresh (s : Startup) (opening : List ℕ) (t : Streams) : Type 0 where
  pub frames : opening ≡ s.opening.items
  pub buffer : t.buffer.items ≡ s.bytes.buffer.items
  pub held : t.held ≡ None
  pub unread : t.unread ≡ None
  pub delayed : t.delayed.items ≡ s.delayed.items
  pub parameters : t.parameters ≡ s.parameters
  pub given : t.given ≡ s.bytes.given
  pub limit : t.max_bytes ≡ s.bytes.max_bytes
  pub unsent : t.unsent ≡ []
  pub active : t.closing ≡ false
  pub goes_on : t.ended ≡ false
  pub more : t.at_end ≡ false
  pub unmoved : t.moved ≡ false
  pub delivered : t.delivered ≡ 0
