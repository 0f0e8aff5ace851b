use Rattle.pg_promises.proofs.Wrongly.{asked-beside, astray, cut, early, forgets, late, late-answer, lost, no-answer, no-rollback, nobody, order, other-answer, same-twice, twice}
use Rattle.pg_promises.proofs.example_laws.refused.Goals as goal

pub returns-clause-late : goal.returns-clause-late
returns-clause-late c h = late h

pub returns-clause-early : goal.returns-clause-early
returns-clause-early c h = early h

pub returns-clause-forgets : goal.returns-clause-forgets
returns-clause-forgets c h = forgets h

pub returns-clause-other_answer : goal.returns-clause-other_answer
returns-clause-other_answer c h = other-answer h

pub returns-clause-cut : goal.returns-clause-cut
returns-clause-cut c h = cut h

pub returns-clause-astray : goal.returns-clause-astray
returns-clause-astray c h = astray h

pub returns-clause-no_rollback : goal.returns-clause-no_rollback
returns-clause-no_rollback c h = no-rollback h

pub returns-clause-twice : goal.returns-clause-twice
returns-clause-twice c h = twice h

pub returns-clause-nobody : goal.returns-clause-nobody
returns-clause-nobody c h = nobody h

pub returns-clause-asked_beside : goal.returns-clause-asked_beside
returns-clause-asked_beside c h = asked-beside h

pub returns-clause-late_answer : goal.returns-clause-late_answer
returns-clause-late_answer c h = late-answer h

pub returns-clause-lost : goal.returns-clause-lost
returns-clause-lost c h = lost h

pub returns-clause-no_answer : goal.returns-clause-no_answer
returns-clause-no_answer c h = no-answer h

pub returns-clause-order : goal.returns-clause-order
returns-clause-order c h = order h

pub returns-clause-same_twice : goal.returns-clause-same_twice
returns-clause-same_twice c h = same-twice h
