use Rattle.pg_text.proofs.WordLaws.{bytes_quoted}
use Rattle.pg_text.proofs.word.Words.bytes.Goals as goal

pub returns-then-is_at_quote : goal.returns-then-is_at_quote
returns-then-is_at_quote c = bytes_quoted c.args.self.now c.text.new.self _ (c.is_at_quote.ensures.0 c.if-is_at_quote.true) c.in_ok-found.ensures
