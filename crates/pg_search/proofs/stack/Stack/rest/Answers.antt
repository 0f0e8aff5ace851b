use Rattle.std.proofs.Common.{refl}
use Rattle.pg_search.proofs.Popping.{nothing-popped}
use Rattle.pg_search.proofs.Stacking.{rests-some, rests-none}
use Rattle.pg_search.proofs.Counting.{rests-some-steps}
use Rattle.pg_search.proofs.stack.Stack.rest.Goals as goal

pub returns-in-Some-clause-goes : goal.returns-in-Some-clause-goes
returns-in-Some-clause-goes c = rests-some _ _ c.in-Some.oid c.requires c.requires c.in-Some.ensures.items refl

pub returns-in-Some-clause-steps : goal.returns-in-Some-clause-steps
returns-in-Some-clause-steps c = λ most. rests-some-steps most _ _ c.in-Some.oid c.requires c.requires c.in-Some.ensures.items

pub returns-in-None-clause-goes : goal.returns-in-None-clause-goes
returns-in-None-clause-goes c = rests-none c.args.self.now _ (nothing-popped _ _ c.in-None.ensures.items c.in-None.ensures.rest) (search)
