use Rattle.pg_core.specs.Lookups.{lookup_statement}
use Rattle.pg_search.proofs.Behinds.{then-same}
use Rattle.pg_search.proofs.looks_up.looks_up_then.Goals as goal

pub returns-clause-dialogue : goal.returns-clause-dialogue
returns-clause-dialogue g c = then-same _ (lookup_statement c.args.which) (g.G.Go.to c.args.go) c.new.ensures.dialogue
