use Rattle.std.proofs.Common.{◌∙◌, sym}
use Rattle.pg_text.specs.SessionText.{IsSlot}
use Rattle.pg_text.proofs.GivenLaws.{slot_ends}
use Rattle.pg_text.proofs.LineLaws.{not_one, only_one}
use Rattle.pg_text.proofs.line.only_slot.Goals as goal

pub returns-then-is_done : goal.returns-then-is_done
returns-then-is_done c = only_one IsSlot c.args.words.now c.next_slot-number.new.words c.next_slot-number.result c.next_slot-number.ensures (sym c.is_done.ensures ∙ c.if-is_done.true)

pub returns-else-is_done : goal.returns-else-is_done
returns-else-is_done c = not_one IsSlot slot_ends c.args.words.now c.next_slot-number.new.words c.next_slot-number.result c.next_slot-number.ensures (sym c.is_done.ensures ∙ c.if-is_done.false)
