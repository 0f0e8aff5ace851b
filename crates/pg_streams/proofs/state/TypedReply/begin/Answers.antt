use Rattle.pg_query.specs.Meaning.{Place}
use Rattle.pg_streams.specs.Heads.{heads}
use Rattle.pg_streams.specs.TypedRawStates.{asks_typed, behind_columns, opens_first}
use Rattle.pg_streams.specs.TypedRaw.{Asked}
use Rattle.std.proofs.Common.{Bool}
use Rattle.pg_streams.proofs.Polling.{polls-joined}
use Rattle.pg_streams.proofs.state.TypedReply.begin.Goals as goal

pub read-requires : goal.read-requires
read-requires g c = c.in-Ok.ensures.empty

pub returns-in-Ok : goal.returns-in-Ok
returns-in-Ok g c text count types vs said =
    let begin : (rows : Bool) → Place (Asked rows) = λ rows. record { dialogue = asks_typed rows text count types vs; reads = 0 } in
    polls-joined g.met.D.Desk.joins begin (λ rows. (heads rows c.in-Ok.request).place (behind_columns rows)) opens_first opens_first (c.in-Ok.ensures.books text count types vs said).0 c.read.new.desk c.read.new.self.stage c.read.result c.read.ensures

pub returns-in-Err : goal.returns-in-Err
returns-in-Err g c text count types vs said = c.in-Err.ensures.books text count types vs said
