use Rattle.pg_text.proofs.LineLaws.{no_keyword}
use Rattle.pg_text.proofs.line.keyword_of.Goals as goal

pub returns-in-None : goal.returns-in-None
returns-in-None c = no_keyword c.args.word.now c.in_default.ensures c.in_default-command_keyword_of.ensures c.in_default-level_keyword_of.ensures c.in_default-execution_of.ensures c.in-None.ensures
