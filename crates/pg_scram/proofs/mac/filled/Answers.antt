use Rattle.std.proofs.Common.{◌++◌, ap, length}
use Rattle.std.proofs.lemmas.List.{drop-replicate}
use Rattle.pg_scram.proofs.mac.filled.Goals as goal

pub returns : goal.returns
returns c = rw c.copy_from_slice.ensures.after (ap (λ t. c.args.bytes.now ++ t) (drop-replicate (length c.args.bytes.now) 64 0))
