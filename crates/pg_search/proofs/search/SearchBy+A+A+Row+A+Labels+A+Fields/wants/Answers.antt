use Rattle.std.proofs.Common.{◌≤◌, sym, ap, subst, arith}
use Rattle.pg_search.specs.declared.stack.Next.{Next}
use Rattle.pg_search.specs.Stacks.{next_dialogue}
use Rattle.pg_search.specs.Steps.{more_at, next_steps}
use Rattle.pg_search.proofs.Counting.{finding-some}
use Rattle.pg_search.proofs.search.SearchBy+A+A+Row+A+Labels+A+Fields.wants.Goals as goal

pub returns-in-Asks-clause-goes_on : goal.returns-in-Asks-clause-goes_on
returns-in-Asks-clause-goes_on g c = record { is = ap (next_dialogue c.args.self.now.stack) (sym c.in-Asks.is); wanted = record { waiting = tt; there = tt } }

pub returns-in-Asks-clause-falls : goal.returns-in-Asks-clause-falls
returns-in-Asks-clause-falls g c n h =
    let all = subst (λ (x : Next). next_steps g.A.Asker.most c.args.self.now.stack x ≤ n) c.in-Asks.is h in
    let some = finding-some g.A.Asker.most (more_at c.args.self.now.stack) in
    omega (arith, all, some)

pub returns-in-Keeps-clause-goes_on : goal.returns-in-Keeps-clause-goes_on
returns-in-Keeps-clause-goes_on g c = record { is = ap (next_dialogue c.args.self.now.stack) (sym c.in-Keeps.is); wanted = record { waiting = tt; there = tt } }

pub returns-in-Keeps-clause-falls : goal.returns-in-Keeps-clause-falls
returns-in-Keeps-clause-falls g c n h =
    let all = subst (λ (x : Next). next_steps g.A.Asker.most c.args.self.now.stack x ≤ n) c.in-Keeps.is h in
    omega (arith, all)

pub returns-in-Ends-clause-goes_on : goal.returns-in-Ends-clause-goes_on
returns-in-Ends-clause-goes_on g c = record { is = ap (next_dialogue c.args.self.now.stack) (sym c.in-Ends.is); wanted = tt }
