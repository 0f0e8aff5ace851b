use Rattle.pg_core.proofs.Copying.{ended-put, open-read}
use Rattle.pg_core.proofs.laws.what_no_copy_does.Goals as goal

pub returns-clause-hung_up : goal.returns-clause-hung_up
returns-clause-hung_up g c part d h = h.sane.1.0

pub returns-clause-answered : goal.returns-clause-answered
returns-clause-answered g c part r h = h.sane.1

pub returns-clause-put_unopened : goal.returns-clause-put_unopened
returns-clause-put_unopened g c part more left d h = h.sane.1.0

pub returns-clause-ended_unopened : goal.returns-clause-ended_unopened
returns-clause-ended_unopened g c part ending d h = h.sane.1.0

pub returns-clause-asked_unopened : goal.returns-clause-asked_unopened
returns-clause-asked_unopened g c part q refused next h = h.sane.1

pub returns-clause-decided_elsewhere : goal.returns-clause-decided_elsewhere
returns-clause-decided_elsewhere g c part left decides next ms elsewhere h = elsewhere (h.sane.1.1 ms)

pub returns-clause-read_open : goal.returns-clause-read_open
returns-clause-read_open g c part failing parts first left opens decides next later ms decided is h = open-read failing left decides later parts (next ms) is (h.sane.1.2 ms decided)

pub returns-clause-behind_its_end : goal.returns-clause-behind_its_end
returns-clause-behind_its_end g c part ending more first left opens next ms d decided is h = ended-put ending more left d (next ms) is (h.sane.1.2 ms decided)

pub returns-clause-given_up_open : goal.returns-clause-given_up_open
returns-clause-given_up_open g c part left decides next h = h.sane.1.0
