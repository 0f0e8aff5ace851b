use Rattle.pg_tool.proofs.Neither.{never_neither}
use Rattle.pg_tool.proofs.laws.no_text_is_neither.Goals as goal

pub returns : goal.returns
returns c = never_neither
