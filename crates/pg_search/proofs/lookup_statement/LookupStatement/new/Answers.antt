use Rattle.pg_search.proofs.Behinds.{looks-up}
use Rattle.pg_search.proofs.lookup_statement.LookupStatement.new.Goals as goal

pub returns-clause-dialogue : goal.returns-clause-dialogue
returns-clause-dialogue c = looks-up c.args.which _ c.new.ensures.dialogue
