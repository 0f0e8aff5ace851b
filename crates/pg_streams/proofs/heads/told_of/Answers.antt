use Rattle.pg_streams.proofs.Heading.{told-so}
use Rattle.pg_streams.proofs.heads.told_of.Goals as goal

pub returns : goal.returns
returns c raw means = told-so _ _ raw c.message.result (c.message.ensures.reads raw means)
