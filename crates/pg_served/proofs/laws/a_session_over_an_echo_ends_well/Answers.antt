use Rattle.pg_served.proofs.Echoing.{echo-calm}
use Rattle.pg_served.proofs.laws.a_session_over_an_echo_ends_well.Goals as goal

pub returns-clause-no_fault : goal.returns-clause-no_fault
returns-clause-no_fault c s nonce startup starts scripts book utf8 may = echo-calm s nonce startup starts scripts book utf8 may

pub returns-clause-ends_well : goal.returns-clause-ends_well
returns-clause-ends_well c asked old new result startup s over made means valid conforms utf8 =
    over.must_end_well tt startup s made means valid conforms (λ book may. echo-calm s asked.nonce startup conforms.starts _ book utf8 may)
