use Rattle.pg_promises.proofs.Required.{asks-first, asks-nothing}
use Rattle.pg_promises.proofs.laws.what_crosses_where_tls_is_required.Goals as goal

pub returns-clause-asks : goal.returns-clause-asks
returns-clause-asks c call s g t required h = asks-first call s g t required h.front

pub returns-clause-nothing : goal.returns-clause-nothing
returns-clause-nothing c call s g t required direct h = asks-nothing call s g t required direct h.front

pub returns-clause-no_startup : goal.returns-clause-no_startup
returns-clause-no_startup c failure call s g required h = h.0 required

pub returns-clause-none_behind : goal.returns-clause-none_behind
returns-clause-none_behind c failure call s g t required h = h.0 required
