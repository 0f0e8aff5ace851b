use Rattle.std.proofs.Common.{length}
use Rattle.pg_config.specs.UrlReading.{parameter_at}
use Rattle.pg_config.specs.Urls.{parameter}
use Rattle.pg_config.proofs.Readings.{IsReadTo}
use Rattle.pg_config.proofs.url_parameter.read_parameters.Given as goal

abbrev pub invariant-parameters : goal.invariant-parameters
invariant-parameters l = IsReadTo parameter_at parameter l.text l.fn.config l.rest l.config

abbrev pub decreases-parameters : goal.decreases-parameters
decreases-parameters l = length l.rest
