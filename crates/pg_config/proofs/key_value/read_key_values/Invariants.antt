use Rattle.std.proofs.Common.{length}
use Rattle.pg_config.specs.KeyValueReading.{front_of}
use Rattle.pg_config.specs.Options.{applies}
use Rattle.pg_config.specs.Settings.{defaults}
use Rattle.pg_config.proofs.Readings.{IsReadTo}
use Rattle.pg_config.proofs.key_value.read_key_values.Given as goal

abbrev pub invariant-parameters : goal.invariant-parameters
invariant-parameters l = IsReadTo front_of applies l.text defaults l.rest l.config

abbrev pub decreases-parameters : goal.decreases-parameters
decreases-parameters l = length l.rest
