use Rattle.std.proofs.Common.{◌≡◌, false, drop, string_bytes}
use Rattle.pg_config.specs.KeyValueReading.{value_at}
use Rattle.pg_config.proofs.Runs.{after_bytes}
use Rattle.pg_config.proofs.key_value.read_value.Given as goal

abbrev pub invariant-loop-at : goal.invariant-loop-at
invariant-loop-at l = value_at l.quoted false l.text ≡ after_bytes (string_bytes l.value) (value_at l.quoted l.escaped (drop l.at l.text))
