use Rattle.pg_spec.specs.RawMessages.{sync_of, is_ready}
use Rattle.pg_spec.proofs.GroupLaws.{piece-take}
use Rattle.pg_spec.proofs.laws.group_among_the_first.Goals as goal

pub returns : goal.returns
returns c ms n k = piece-take is_ready (sync_of ms) n k
