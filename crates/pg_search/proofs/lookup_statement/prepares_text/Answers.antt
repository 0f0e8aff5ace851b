use Rattle.std.proofs.Common.{ℕ, List, [], ap, ◌∙◌}
use Rattle.pg_core.specs.Prepares.{prepares, known_types}
use Rattle.pg_search.proofs.lookup_statement.prepares_text.Goals as goal

pub returns-clause-dialogue : goal.returns-clause-dialogue
returns-clause-dialogue c = c.new.ensures.dialogue ∙ ap (λ (t : List ℕ). prepares (λ found. known_types found []) t []) c.lookup_text.ensures
