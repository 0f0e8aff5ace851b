use Rattle.std.proofs.Common.{◌∙◌, sym}
use Rattle.pg_text.specs.Words.{IsTake}
use Rattle.pg_text.proofs.LineLaws.{not_one, only_one, take_ends}
use Rattle.pg_text.proofs.line.take_number.Goals as goal

pub returns-then-is_done : goal.returns-then-is_done
returns-then-is_done c = only_one IsTake c.args.words.now c.next_take-number.new.words c.next_take-number.result c.next_take-number.ensures (sym c.is_done.ensures ∙ c.if-is_done.true)

pub returns-else-is_done : goal.returns-else-is_done
returns-else-is_done c = not_one IsTake take_ends c.args.words.now c.next_take-number.new.words c.next_take-number.result c.next_take-number.ensures (sym c.is_done.ensures ∙ c.if-is_done.false)
