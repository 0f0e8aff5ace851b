use Rattle.pg_open.specs.Opening.{IsOpening}
use Rattle.pg_cases_login.specs.Around.{around}
use Rattle.pg_cases_login.proofs.opens.tell_polls.Given as goal

abbrev pub invariant-polls : goal.invariant-polls
invariant-polls l = IsOpening around l.raw.settings l.raw.stage
