use Rattle.pg_text.proofs.LineLaws.{utf8_none, utf8_taken}
use Rattle.pg_text.proofs.line.utf8_text.Goals as goal

pub returns-in-Some : goal.returns-in-Some
returns-in-Some c =
    utf8_taken c.args.words.now c.text.new.self c.in-Some.bytes.items c.text_of.result (rw c.in-Some.is at c.in_ok-bytes.ensures) c.text_of.ensures

pub returns-in-None : goal.returns-in-None
returns-in-None c = utf8_none c.args.words.now c.text.new.self (rw c.in-None.is at c.in_ok-bytes.ensures)
