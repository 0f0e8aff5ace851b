use Rattle.std.proofs.Common.{false}
use Rattle.pg_session.proofs.Nearer.{nearer-so, new-under-way, none-left, turn-nearer}
use Rattle.pg_session.specs.Turns.{moved_in}
use Rattle.pg_session.proofs.measure.each_turn_is_nearer.Goals as goal

pub returns-clause-left : goal.returns-clause-left
returns-clause-left g c = none-left

pub returns-clause-begins : goal.returns-clause-begins
returns-clause-begins g c = new-under-way

pub returns-clause-goes_on : goal.returns-clause-goes_on
returns-clause-goes_on g c speech scripts turn s t l m none made h within = (turn-nearer speech none scripts turn s t l m made h within).under_way

pub returns-clause-nearer : goal.returns-clause-nearer
returns-clause-nearer g c speech scripts turn s t l m none made h within =
    nearer-so scripts (moved_in speech scripts turn s t l m false made) s t (turn-nearer speech none scripts turn s t l m made h within).falls
