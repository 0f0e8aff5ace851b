use Rattle.std.proofs.Common.{◌∙◌, Some, sym}
use Rattle.pg_text.specs.Words.{IsUtf8Quoted}
use Rattle.pg_text.proofs.LineLaws.{no_one, not_one, utf8_ends}
use Rattle.pg_text.proofs.line.only_text.Goals as goal

pub returns-else-is_done : goal.returns-else-is_done
returns-else-is_done c =
    let taken = rw c.in-Some.is at c.in_ok-text.ensures in
    not_one IsUtf8Quoted utf8_ends c.args.words.now c.utf8_text.new.words (Some c.in-Some.text) taken (sym c.is_done.ensures ∙ c.if-is_done.false)

pub returns-in-None : goal.returns-in-None
returns-in-None c = no_one IsUtf8Quoted c.args.words.now c.utf8_text.new.words (rw c.in-None.is at c.in_ok-text.ensures)
