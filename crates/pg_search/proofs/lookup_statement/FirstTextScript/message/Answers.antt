use Rattle.pg_search.specs.declared.lookup_statement.FirstText.{FirstText}
use Rattle.pg_search.proofs.Forwarding.{reads-forward}
use Rattle.pg_search.proofs.lookup_statement.FirstTextScript.message.Goals as goal

pub returns-clause-goes_on : goal.returns-clause-goes_on
returns-clause-goes_on c raw means = reads-forward _ _ _ (λ (s : FirstText). s.script.value) raw c.args.self.now c.deref_mut.result.now c.deref_mut.ensures.value c.message.result _ (c.message.ensures.goes_on raw means)

pub returns-clause-stops : goal.returns-clause-stops
returns-clause-stops c raw means waits = c.message.ensures.stops raw means (rw c.deref_mut.ensures.value waits)
