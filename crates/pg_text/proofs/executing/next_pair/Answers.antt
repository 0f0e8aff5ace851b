use Rattle.pg_text.proofs.GivenLaws.{pair_nameless, pair_some, pair_valueless}
use Rattle.pg_text.proofs.executing.next_pair.Goals as goal

pub returns-in-Some-2 : goal.returns-in-Some-2
returns-in-Some-2 c = pair_some c.args.words.now c.type_name.new.self c.next_value.new.words c.in-Some.oid c.in-Some-2.value c.in-Some.ensures (rw c.in-Some-2.is at c.in_ok-value-in-Some.ensures)

pub returns-in-None : goal.returns-in-None
returns-in-None c = pair_nameless c.args.words.now c.type_name.new.self c.in-None.ensures

pub returns-in-None-2 : goal.returns-in-None-2
returns-in-None-2 c = pair_valueless c.args.words.now c.type_name.new.self c.next_value.new.words c.in-Some.oid c.in-Some.ensures (rw c.in-None-2.is at c.in_ok-value-in-Some.ensures)
