use Rattle.pg_session.proofs.Nearer.{new-within, turn-within-bound}
use Rattle.pg_session.proofs.measure.each_turn_is_nearer_within.Goals as goal

pub returns-clause-begins : goal.returns-clause-begins
returns-clause-begins g c = new-within

pub returns-clause-goes_on : goal.returns-clause-goes_on
returns-clause-goes_on g c speech bound scripts turn s t l m may made h within = (turn-within-bound speech bound may scripts turn s t l m made h within).under_way

pub returns-clause-nearer : goal.returns-clause-nearer
returns-clause-nearer g c speech bound scripts turn s t l m may made h within = (turn-within-bound speech bound may scripts turn s t l m made h within).nearer
