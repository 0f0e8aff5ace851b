use Rattle.std.proofs.Common.{sym}
use Rattle.pg_search.proofs.looks_up.LooksUpNextOutputScript.reply.Goals as goal

pub returns-clause-falls : goal.returns-clause-falls
returns-clause-falls g c waits = rw (sym c.deref_mut.ensures.value) (c.reply.ensures.falls (rw c.deref_mut.ensures.value waits))
