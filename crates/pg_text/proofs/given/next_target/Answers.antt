use Rattle.std.proofs.Common.{None, Some}
use Rattle.pg_text.proofs.GivenLaws.{bare_target, text_target}
use Rattle.pg_text.proofs.given.next_target.Goals as goal

pub returns-in-Some : goal.returns-in-Some
returns-in-Some c = text_target c.args.words.now c.utf8_text.new.words (Some c.in-Some.text) (c.is_at_quote.ensures.0 c.if-is_at_quote.true) (rw c.in-Some.is at c.in_ok-text.ensures)

pub returns-in-None : goal.returns-in-None
returns-in-None c = text_target c.args.words.now c.utf8_text.new.words None (c.is_at_quote.ensures.0 c.if-is_at_quote.true) (rw c.in-None.is at c.in_ok-text.ensures)

pub returns-else-is_at_quote : goal.returns-else-is_at_quote
returns-else-is_at_quote c = bare_target c.args.words.now c.bare_target.new.words c.bare_target.result (λ at. let is = c.is_at_quote.ensures.1 at in cc) c.bare_target.ensures
