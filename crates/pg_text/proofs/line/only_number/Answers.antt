use Rattle.std.proofs.Common.{◌∙◌, sym}
use Rattle.pg_spec.specs.SessionText.{IsNumber}
use Rattle.pg_text.proofs.WordLaws.{number_ends}
use Rattle.pg_text.proofs.LineLaws.{not_one, only_one}
use Rattle.pg_text.proofs.line.only_number.Goals as goal

pub returns-then-is_done : goal.returns-then-is_done
returns-then-is_done c =
    only_one (IsNumber c.args.most) c.args.words.now c.number-number.new.self c.number-number.result c.number-number.ensures (sym c.is_done.ensures ∙ c.if-is_done.true)

pub returns-else-is_done : goal.returns-else-is_done
returns-else-is_done c =
    not_one (IsNumber c.args.most) (number_ends c.args.most) c.args.words.now c.number-number.new.self c.number-number.result c.number-number.ensures (sym c.is_done.ensures ∙ c.if-is_done.false)
