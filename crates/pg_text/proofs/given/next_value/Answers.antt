use Rattle.std.proofs.Common.{None, Some}
use Rattle.pg_text.proofs.GivenLaws.{bare_value, text_value}
use Rattle.pg_text.proofs.given.next_value.Goals as goal

pub returns-in-Some : goal.returns-in-Some
returns-in-Some c = text_value c.args.words.now c.utf8_text.new.words (Some c.in-Some.text) (c.is_at_quote.ensures.0 c.if-is_at_quote.true) (rw c.in-Some.is at c.in_ok-text.ensures)

pub returns-in-None : goal.returns-in-None
returns-in-None c = text_value c.args.words.now c.utf8_text.new.words None (c.is_at_quote.ensures.0 c.if-is_at_quote.true) (rw c.in-None.is at c.in_ok-text.ensures)

pub returns-in_ok-found : goal.returns-in_ok-found
returns-in_ok-found c = bare_value c.args.words.now c.bare_value.new.words _ (λ at. let is = c.is_at_quote.ensures.1 at in cc) c.in_ok-found.ensures
