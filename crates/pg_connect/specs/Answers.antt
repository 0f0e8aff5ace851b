-- What a poll of the connection answers.
use Rattle.std.specs.Prelude.{◌≡◌, ◌≤◌, ◌⊎◌, ◌||◌, Bool, true, false, List, [], ◌∷◌, Option, Some, None, is_some, Result, Ok, Err}
use Rattle.futures.specs.declared.task.Poll.{Poll}
use Rattle.futures.specs.declared.task.Poll.TheVariants.{Ready, Pending}
use Rattle.pg_spec.specs.Links.{LinkView}
use Rattle.pg_desk.specs.declared.event.DeskFault.{DeskFault}
use Rattle.pg_desk.specs.declared.event.Event.{Event}
use Rattle.pg_desk.specs.declared.event.Event.TheVariants.{Fail}
use Rattle.pg_errors.specs.declared.async_message.AsyncMessage.{AsyncMessage}
use Rattle.pg_types.specs.declared.error.Error.{Error}
use Rattle.pg_types.specs.declared.error.Error.TheVariants.{Closed, LimitReached}
use Rattle.pg_connect.specs.declared.fault.ConnectionFault.{ConnectionFault}
use Rattle.pg_connect.specs.declared.ends.TurnEnd.{TurnEnd}
use Rattle.pg_connect.specs.declared.ends.TurnEnd.TheVariants.{Handed, Waits, Over}
use Rattle.pg_connect.specs.declared.streams.Streams.{Streams}
use Rattle.pg_connect.specs.Faults.{error_of}
use Rattle.pg_connect.specs.Polls.{Turns}

-- it answered its end or an error, the link gave its end, or a message was left unread
abbrev pub is_over : Streams → Bool
is_over s = (s.ended || s.at_end) || is_some s.unread

-- the state in which a poll begins: nothing has moved yet
abbrev pub fresh : Streams → Streams
fresh s = record s { moved = false }

-- the state in which its turn left it, whether it answered its end then or not
abbrev pub left_open : Streams → Streams
left_open s = record s { ended = false }

-- It was open, made a turn that ended so, and is over or not.
pub record Turned {H : Type 0} (becomes : H → List Event → H → Type 0) (a b : H) (old new : Streams) (before after : LinkView) (end : TurnEnd) (over : Bool) : Type 0 where
  pub was_open : is_over old ≡ false
  pub stands : is_over new ≡ over
  pub turns : Turns becomes a b (fresh old) (left_open new) before after (Ok end)

-- It was open, and its turn ended in a fault, after which the hub was made to fail.
pub record Failed {H : Type 0} (becomes : H → List Event → H → Type 0) (a b : H) (old new : Streams) (before after : LinkView) (e : Error) : Type 0 where
  pub was_open : is_over old ≡ false
  pub fault : ConnectionFault
  pub means : e ≡ error_of fault
  pub between : H
  pub turns : Turns becomes a between (fresh old) (left_open new) before after (Err fault)
  pub answer : Result (Unit {0}) DeskFault
  pub failed : becomes between (Fail answer ∷ []) b

-- It was over, and nothing happened.
pub record StaysClosed {H : Type 0} (a b : H) (old new : Streams) (before after : LinkView) (e : Error) : Type 0 where
  pub was_over : is_over old ≡ true
  pub error : e ≡ Closed
  pub same : new ≡ fresh old
  pub hub : b ≡ a
  pub link : after ≡ before

-- what a poll answers
abbrev pub PollAnswers : {H : Type 0} → (H → List Event → H → Type 0) → H → H → Streams → Streams → LinkView → LinkView →
    Poll (Option (Result AsyncMessage Error)) → Type 0
PollAnswers becomes a b old new before after Pending = Turned becomes a b old new before after Waits false
PollAnswers becomes a b old new before after (Ready None) = Turned becomes a b old new before after Over true
PollAnswers becomes a b old new before after (Ready (Some (Ok message))) = Turned becomes a b old new before after (Handed message) false
PollAnswers becomes a b old new before after (Ready (Some (Err e))) =
    (is_over new ≡ true) × (StaysClosed a b old new before after e ⊎ Failed becomes a b old new before after e)

-- No more than the limit was given, unless the answer is that more were.
abbrev pub IsWithinPoll : Streams → Poll (Option (Result AsyncMessage Error)) → Type 0
IsWithinPoll s (Ready (Some (Err (LimitReached given limit)))) = Unit {0}
IsWithinPoll s other = s.given ≤ s.max_bytes
