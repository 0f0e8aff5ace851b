use Rattle.std.proofs.Common.{ap, ◌∙◌}
use Rattle.pg_query.specs.Scripts.{cleanup_of}
use Rattle.pg_steps.proofs.Same.{call-clean, means-so}
use Rattle.pg_steps.proofs.call.command.Goals as goal

pub new-command-requires : goal.new-command-requires
new-command-requires c = ap (λ d. cleanup_of d) c.new-script.ensures ∙ call-clean c.args.call

pub returns-clause-asks : goal.returns-clause-asks
returns-clause-asks c = c.new-command.ensures.place ∙ c.new-script.ensures ∙ means-so c.args.call
