use Rattle.pg_query_laws.proofs.OneRun.{answers-in-one-way, asked-in-one-way}
use Rattle.pg_query_laws.proofs.run_laws.asked_in_one_way.Goals as goal

pub returns : goal.returns
returns g c meaning puts scripts turns answers others course other x y =
    (asked-in-one-way meaning puts scripts turns answers others course other x y, answers-in-one-way meaning puts scripts turns answers others course other x y)
