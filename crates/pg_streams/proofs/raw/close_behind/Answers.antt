use Rattle.std.proofs.Common.{◌≡◌, ℕ, List, Option, ◌∙◌, ap, subst}
use Rattle.pg_query.specs.Meaning.{MatchPoll}
use Rattle.pg_execute.specs.Executes.{close_part}
use Rattle.pg_streams.specs.Families.{PausesFor}
use Rattle.pg_streams.specs.Handing.{HandsOn, alone}
use Rattle.pg_streams.specs.Hearing.{IsNoItem}
use Rattle.pg_streams.specs.RowStates.{IsBegun, IsLiveAt, asked, stage_first, stage_place}
use Rattle.pg_streams.proofs.Asking.{lacks}
use Rattle.pg_streams.proofs.Begun.{rows-stand}
use Rattle.pg_streams.proofs.raw.close_behind.Goals as goal

pub returns-in_default-clause-opens : goal.returns-in_default-clause-opens
returns-in_default-clause-opens g c vs said n = lacks g.D.Desk.becomes g.met.D.Desk.stays c.args.stamp c.args.desk.now (asked (close_part c.args.statement.name) c.args.statement vs n) (λ first. IsNoItem first.told)

pub returns-in-Err-clause-opens : goal.returns-in-Err-clause-opens
returns-in-Err-clause-opens g c vs said n = lacks g.D.Desk.becomes g.met.D.Desk.stays c.args.stamp c.args.desk.now (asked (close_part c.args.statement.name) c.args.statement vs n) (λ first. IsNoItem first.told)

pub returns-in-Ok-close_bytes-clause-opens : goal.returns-in-Ok-close_bytes-clause-opens
returns-in-Ok-close_bytes-clause-opens g c vs said n =
    let new = c.begin.new.self.stage in
    let is : c.in-Ok-close_bytes.close ≡ close_part c.args.statement.name = c.in-Ok-close_bytes.ensures ∙ ap close_part c.name.ensures in
    subst (λ (o : Option (List ℕ)). MatchPoll c.begin.result
    (λ r. HandsOn g.D.Desk.becomes rows-stand IsBegun c.args.stamp c.args.desk.now (asked o c.args.statement vs n) c.begin.new.desk r)
    (PausesFor g.D.Desk.becomes c.args.stamp c.args.desk.now (asked o c.args.statement vs n) c.begin.new.desk (alone (stage_place new) (stage_first new)) × IsLiveAt new)) is
    (c.begin.ensures.opens vs (rw c.in-Ok.is at said) n)
