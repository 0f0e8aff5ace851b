use Rattle.std.specs.Prelude.{[]}
use Rattle.pg_core.specs.Worlds.{tells}
use Rattle.pg_core.specs.Outcomes.{asked}
use Rattle.pg_core.proofs.InWorlds.{comes-of-it}
use Rattle.pg_core.proofs.lookup_laws.what_comes_is_its_outcome.Goals as goal

pub returns : goal.returns
returns c = λ desk d replies. comes-of-it tells desk replies [] (asked d)
