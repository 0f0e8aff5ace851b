use Rattle.std.proofs.Common.{true}
use Rattle.pg_core.specs.Lookups.{or_second, prepared}
use Rattle.pg_search.proofs.Behinds.{behind-same}
use Rattle.pg_search.proofs.lookup_statement.first_then.Goals as goal

pub returns-clause-dialogue : goal.returns-clause-dialogue
returns-clause-dialogue c = behind-same _ (prepared c.args.which true) (or_second c.args.which) c.prepares_text.ensures.dialogue
