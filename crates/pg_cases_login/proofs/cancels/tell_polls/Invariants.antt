use Rattle.pg_open.specs.Cancelling.{IsStillOpen}
use Rattle.pg_cases_login.proofs.cancels.tell_polls.Given as goal

abbrev pub invariant-polls : goal.invariant-polls
invariant-polls l = IsStillOpen l.query.stage
