use Rattle.pg_text.proofs.Finding.{first_byte}
use Rattle.pg_text.proofs.parse.feed_in.Goals as goal

pub returns : goal.returns
returns c = first_byte _ c.args.bytes.now c.memchr.result c.memchr.ensures
