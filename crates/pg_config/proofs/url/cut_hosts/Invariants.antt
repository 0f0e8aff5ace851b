use Rattle.pg_config.specs.UrlReading.{is_of_hosts}
use Rattle.pg_config.proofs.Runs.{IsRunTo}
use Rattle.pg_config.proofs.url.cut_hosts.Given as goal

abbrev pub invariant-loop-at : goal.invariant-loop-at
invariant-loop-at l = IsRunTo is_of_hosts l.at l.text
