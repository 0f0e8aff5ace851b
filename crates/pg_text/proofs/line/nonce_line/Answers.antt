use Rattle.pg_text.proofs.LineLaws.{nonce_none, nonce_some}
use Rattle.pg_text.proofs.line.nonce_line.Goals as goal

pub returns-in_default-clause-line : goal.returns-in_default-clause-line
returns-in_default-clause-line c = nonce_none c.args.words.now (rw c.in_default.is at c.in_ok-nonce.ensures)

pub returns-clause-line : goal.returns-clause-line
returns-clause-line c = nonce_some c.args.words.now c.in-Some.nonce.items c.new.result c.new.ensures (rw c.in-Some.is at c.in_ok-nonce.ensures)
