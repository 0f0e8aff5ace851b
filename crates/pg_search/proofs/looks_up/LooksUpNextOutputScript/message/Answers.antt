use Rattle.pg_search.specs.declared.looks_up.LooksUp.{LooksUp}
use Rattle.pg_search.proofs.Forwarding.{reads-forward}
use Rattle.pg_search.proofs.looks_up.LooksUpNextOutputScript.message.Goals as goal

pub returns-clause-goes_on : goal.returns-clause-goes_on
returns-clause-goes_on g c raw means =
    reads-forward _ _ _ (λ (s : LooksUp g.row.G.Denot g.row.G-Next.Denot g.row.G-Next-Output.Denot). s.script.value) raw c.args.self.now c.deref_mut.result.now c.deref_mut.ensures.value c.message.result _ (c.message.ensures.goes_on raw means)

pub returns-clause-stops : goal.returns-clause-stops
returns-clause-stops g c raw means waits = c.message.ensures.stops raw means (rw c.deref_mut.ensures.value waits)
