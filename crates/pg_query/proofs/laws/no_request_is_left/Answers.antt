use Rattle.pg_query.proofs.LeavingLaws.{life-lets-go}
use Rattle.pg_query.proofs.laws.no_request_is_left.Goals as goal

pub returns : goal.returns
returns g c begin end turns r k l is none owed = life-lets-go begin turns end r k l is none owed
