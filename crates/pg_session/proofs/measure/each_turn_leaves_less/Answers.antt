use Rattle.pg_session.proofs.Nearer.{new-with, turn-leaves}
use Rattle.pg_session.proofs.measure.each_turn_leaves_less.Goals as goal

pub returns-clause-begins : goal.returns-clause-begins
returns-clause-begins g c = new-with

pub returns-clause-goes_on : goal.returns-clause-goes_on
returns-clause-goes_on g c speech bound scripts parts turn s t l m may made h within = turn-leaves speech bound may scripts parts turn s t l m made h within
