use Rattle.pg_session.proofs.Closing.{broken-open, over-closed}
use Rattle.pg_session.proofs.sent.the_link_stays_open_where_it_failed.Goals as goal

pub returns-clause-later : goal.returns-clause-later
returns-clause-later g c speech settings nonce scripts before after e b = broken-open speech settings nonce scripts before after e b

pub returns-clause-over : goal.returns-clause-over
returns-clause-over g c speech settings nonce scripts before after w = over-closed speech settings nonce scripts before after w
