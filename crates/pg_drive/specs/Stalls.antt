-- Why a drive is stalled.
use Rattle.std.specs.Prelude.{◌≡◌, ◌⊎◌, ℕ, true, false, List}
use Rattle.futures.specs.declared.task.Poll.TheVariants.{Pending}
use Rattle.pg_spec.specs.Links.{Rose}
use Rattle.pg_desk.specs.declared.event.Event.{Event}
use Rattle.pg_connect.specs.Answers.{PollAnswers}
use Rattle.pg_connect.specs.Ends.{some_is}
use Rattle.pg_connect.specs.Reads.{is_full}
use Rattle.pg_drive.specs.Lines.{LineView}

-- The connection waits behind its last poll, and moved nothing in it nor in the one before. The numbers are how often calls of the link
-- weren't ready, before that poll and behind it. A call that was promised to be ready wasn't, in a wait behind that poll or in it, or a
-- mailbox was full.
pub record IsStalled {H : Type 0} (becomes : H → List Event → H → Type 0) (a b : LineView H) (from to : ℕ) : Type 0 where
  pub polled : LineView H
  pub waits : PollAnswers becomes a.hub polled.hub a.streams polled.streams a.link polled.link Pending
  pub unmoved_before : a.streams.moved ≡ false
  pub unmoved : polled.streams.moved ≡ false
  pub from_is : from ≡ a.link.quiet
  pub to_is : to ≡ polled.link.quiet
  pub why : Rose polled.link.lulls b.link.lulls ⊎ (Rose a.link.lulls polled.link.lulls ⊎ (some_is is_full waits.turns.goes.events ≡ true))
