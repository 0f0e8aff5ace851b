use Rattle.pg_session.proofs.Complete.{ends-well, is-answered}
use Rattle.pg_session.proofs.completeness.what_may_fail_over_a_link_that_conforms.Goals as goal

pub returns : goal.returns
returns c call settings plan given taken failure means valid conforms course cause =
    ends-well call settings plan given taken means valid (is-answered call settings plan taken conforms) course failure cause
