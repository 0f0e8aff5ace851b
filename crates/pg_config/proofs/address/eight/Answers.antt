use Rattle.pg_config.proofs.GroupLaws.{eight_is}
use Rattle.pg_config.proofs.address.eight.Goals as goal

pub returns-in-len8 : goal.returns-in-len8
returns-in-len8 c = eight_is c.args.groups.now c.in-len8.len_at_least c.in-len8.len_below
