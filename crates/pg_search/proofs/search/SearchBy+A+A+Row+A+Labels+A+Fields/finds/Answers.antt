use Rattle.pg_search.specs.Steps.{stack_steps}
use Rattle.pg_search.proofs.Went.{moved-ok}
use Rattle.pg_search.proofs.search.SearchBy+A+A+Row+A+Labels+A+Fields.finds.Goals as goal

pub returns-clause-goes_on : goal.returns-clause-goes_on
returns-clause-goes_on g c =
    moved-ok g.A.Row.Script.dialogue g.A.Row.Script.refuses g.A.Row.Script.waits g.A.Labels.Script.dialogue g.A.Labels.Script.refuses g.A.Labels.Script.waits g.A.Fields.Script.dialogue g.A.Fields.Script.refuses g.A.Fields.Script.waits c.turns.result c.turns.new.self _ _ (c.in_ok-turn.ensures.goes) (c.turns.ensures.goes_on)

pub returns-clause-falls : goal.returns-clause-falls
returns-clause-falls g c =
    c.turns.ensures.falls (stack_steps g.A.Asker.most c.args.self.now.stack) (c.in_ok-turn.ensures.steps g.A.Asker.most)
