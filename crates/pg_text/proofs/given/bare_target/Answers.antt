use Rattle.std.proofs.Common.{None, Some}
use Rattle.pg_text.proofs.GivenLaws.{slot_target}
use Rattle.pg_text.proofs.given.bare_target.Goals as goal

pub returns-in-Some : goal.returns-in-Some
returns-in-Some c = slot_target c.args.words.now c.next_slot.new.words (Some c.in-Some.number) c.in-Some.ensures

pub returns-in-None : goal.returns-in-None
returns-in-None c = slot_target c.args.words.now c.next_slot.new.words None c.in-None.ensures
