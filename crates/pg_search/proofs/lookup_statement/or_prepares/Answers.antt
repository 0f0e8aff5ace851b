use Rattle.std.proofs.Common.{sym, ◌∙◌}
use Rattle.pg_search.proofs.Behinds.{second}
use Rattle.pg_search.proofs.lookup_statement.or_prepares.Goals as goal

pub returns-then-is_unknown-clause-dialogue : goal.returns-then-is_unknown-clause-dialogue
returns-then-is_unknown-clause-dialogue c =
    rw c.in-Err.is (second c.args.which c.in-Err.error _ (sym c.is_unknown.ensures ∙ c.if-is_unknown.true) c.prepares_text.ensures.dialogue)
