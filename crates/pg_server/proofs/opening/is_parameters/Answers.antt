use Rattle.std.proofs.Common.{◌∙◌}
use Rattle.pg_server.proofs.OpeningLaws.{takes_pair}
use Rattle.pg_server.proofs.opening.is_parameters.Goals as goal

pub loop-behind-preserved : goal.loop-behind-preserved
loop-behind-preserved c = c.loop-behind.invariant ∙ (takes_pair c.loop-behind.rest.now c.in-Some.behind.now c.in-Some.ensures).same

pub loop-behind-smaller : goal.loop-behind-smaller
loop-behind-smaller c = (takes_pair c.loop-behind.rest.now c.in-Some.behind.now c.in-Some.ensures).shorter
