use Rattle.pg_config.specs.KeyValueReading.{is_in_run}
use Rattle.pg_config.proofs.Runs.{IsRunTo}
use Rattle.pg_config.proofs.key_value.cut_run.Given as goal

abbrev pub invariant-loop-at : goal.invariant-loop-at
invariant-loop-at l = IsRunTo (is_in_run l.key) l.at l.text
