use Rattle.std.proofs.Common.{◌≡◌, Some, IfOk, subst}
use Rattle.pg_desk.specs.declared.statement.Described.{Described as Statement}
use Rattle.pg_query.specs.Meaning.{MatchPoll}
use Rattle.pg_streams.specs.Handing.{alone}
use Rattle.pg_streams.specs.RowStates.{IsBegun, IsLiveAt, stage_first, stage_place, stage_statement, statement_of}
use Rattle.pg_streams.proofs.Asking.{handed-on}
use Rattle.pg_streams.proofs.Begun.{rows-stand}
use Rattle.pg_streams.proofs.query_raw.RowReply.begin.Goals as goal

pub open-requires : goal.open-requires
open-requires g c = c.in-Ok.ensures.known.0

pub returns-in-Ok-clause-opens : goal.returns-in-Ok-clause-opens
returns-in-Ok-clause-opens g c vs said n =
    handed-on g.met.D.Desk.joins rows-stand IsBegun (c.in-Ok.ensures.goes vs said n).0 c.open.new.desk (alone (stage_place c.open.new.self.stage) (stage_first c.open.new.self.stage)) (IsLiveAt c.open.new.self.stage) c.open.result c.open.ensures.opens

pub returns-in-Ok-clause-known : goal.returns-in-Ok-clause-known
returns-in-Ok-clause-known g c =
    subst (λ (s : Statement). MatchPoll c.open.result (λ r. IfOk r (λ stream. statement_of stream ≡ s)) (stage_statement c.open.new.self.stage ≡ Some s)) c.in-Ok.ensures.known.1 c.open.ensures.known

pub returns-in-Err-clause-opens : goal.returns-in-Err-clause-opens
returns-in-Err-clause-opens g c vs said n = c.in-Err.ensures.goes vs said n
