use Rattle.std.proofs.Common.{◌∙◌, sym}
use Rattle.pg_text.proofs.LineLaws.{simple_alone, simple_none, simple_refused, simple_take}
use Rattle.pg_text.proofs.line.simple_line.Goals as goal

pub returns-then-is_done-clause-line : goal.returns-then-is_done-clause-line
returns-then-is_done-clause-line c =
    simple_alone c.args.words.now c.utf8_text.new.words c.in-Some.text (rw c.in-Some.is at c.in_ok-text.ensures) (sym c.is_done.ensures ∙ c.if-is_done.true)

pub returns-in-Some-take_number-clause-line : goal.returns-in-Some-take_number-clause-line
returns-in-Some-take_number-clause-line c =
    simple_take c.args.words.now c.utf8_text.new.words c.in-Some.text c.in-Some-take_number.take (rw c.in-Some.is at c.in_ok-text.ensures) c.in-Some-take_number.ensures

pub returns-in-None-take_number-clause-line : goal.returns-in-None-take_number-clause-line
returns-in-None-take_number-clause-line c =
    simple_refused c.args.words.now c.utf8_text.new.words c.in-Some.text (rw c.in-Some.is at c.in_ok-text.ensures) (sym c.is_done.ensures ∙ c.if-is_done.false) c.in-None-take_number.ensures

pub returns-in-None-clause-line : goal.returns-in-None-clause-line
returns-in-None-clause-line c = simple_none c.args.words.now c.utf8_text.new.words (rw c.in-None.is at c.in_ok-text.ensures)
