use Rattle.std.proofs.Common.{◌≤◌, ◌∙◌, sym, ap, subst, arith}
use Rattle.pg_search.specs.declared.stack.Turn.{Turn}
use Rattle.pg_search.specs.Stacks.{turn_dialogue}
use Rattle.pg_search.specs.Steps.{turn_steps}
use Rattle.pg_search.proofs.Went.{moved}
use Rattle.pg_search.proofs.search.SearchBy+A+A+Row+A+Labels+A+Fields.turns.Goals as goal

pub returns-in_ok-next-in-Finds-clause-goes_on : goal.returns-in_ok-next-in-Finds-clause-goes_on
returns-in_ok-next-in-Finds-clause-goes_on g c =
    moved g.A.Row.Script.dialogue g.A.Row.Script.refuses g.A.Row.Script.waits g.A.Labels.Script.dialogue g.A.Labels.Script.refuses g.A.Labels.Script.waits g.A.Fields.Script.dialogue g.A.Fields.Script.refuses g.A.Fields.Script.waits c.wants.result c.wants.new.self _ _ (c.in_ok-next-in-Finds.ensures.goes ∙ ap (turn_dialogue c.args.self.now.stack) (sym c.in-Finds.is)) c.wants.ensures.goes_on

pub returns-in_ok-next-in-Finds-clause-falls : goal.returns-in_ok-next-in-Finds-clause-falls
returns-in_ok-next-in-Finds-clause-falls g c n h =
    let all = subst (λ (x : Turn). turn_steps g.A.Asker.most c.args.self.now.stack x ≤ n) c.in-Finds.is h in
    c.wants.ensures.falls n (omega (arith, all, c.in_ok-next-in-Finds.ensures.steps g.A.Asker.most))

pub returns-in-Goes-clause-goes_on : goal.returns-in-Goes-clause-goes_on
returns-in-Goes-clause-goes_on g c =
    moved g.A.Row.Script.dialogue g.A.Row.Script.refuses g.A.Row.Script.waits g.A.Labels.Script.dialogue g.A.Labels.Script.refuses g.A.Labels.Script.waits g.A.Fields.Script.dialogue g.A.Fields.Script.refuses g.A.Fields.Script.waits c.wants-in-Goes.result c.wants-in-Goes.new.self _ _ (ap (turn_dialogue c.args.self.now.stack) (sym c.in-Goes.is)) c.wants-in-Goes.ensures.goes_on

pub returns-in-Goes-clause-falls : goal.returns-in-Goes-clause-falls
returns-in-Goes-clause-falls g c n h =
    c.wants-in-Goes.ensures.falls n (subst (λ (x : Turn). turn_steps g.A.Asker.most c.args.self.now.stack x ≤ n) c.in-Goes.is h)
