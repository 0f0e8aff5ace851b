use Rattle.std.proofs.Common.{◌≡◌, Some, IfOk, sym, ◌∙◌, ap, subst}
use Rattle.pg_desk.specs.declared.statement.Described.{Described as Statement}
use Rattle.pg_query.specs.Meaning.{MatchPoll}
use Rattle.pg_streams.specs.Families.{PausesFor}
use Rattle.pg_streams.specs.Handing.{HandsOn, alone}
use Rattle.pg_streams.specs.RowStates.{IsBegun, IsLiveAt, stage_first, stage_place, stage_statement, statement_of}
use Rattle.pg_streams.specs.declared.query_raw.Stage.{Stage}
use Rattle.pg_streams.proofs.Begun.{rows-stand, same-some}
use Rattle.pg_streams.proofs.query_raw.RowReply.go_on.Goals as goal

pub returns-in-Opens-clause-opens : goal.returns-in-Opens-clause-opens
returns-in-Opens-clause-opens g c =
    let new = c.open.new.self.stage in
    subst (λ (stage : Stage). MatchPoll c.open.result
    (λ r. HandsOn g.D.Desk.becomes rows-stand IsBegun c.args.stamp c.args.desk.now (alone (stage_place stage) (stage_first stage)) c.open.new.desk r)
    (PausesFor g.D.Desk.becomes c.args.stamp c.args.desk.now (alone (stage_place stage) (stage_first stage)) c.open.new.desk (alone (stage_place new) (stage_first new)) × IsLiveAt new))
    (sym (sym c.replace.ensures.value ∙ c.in-Opens.is)) c.open.ensures.opens

pub returns-in-Opens-clause-known : goal.returns-in-Opens-clause-known
returns-in-Opens-clause-known g c k said =
    let same : c.in-Opens.items.giving.statement ≡ k =
    same-some c.in-Opens.items.giving.statement k (sym (ap (λ (stage : Stage). stage_statement stage) (sym c.replace.ensures.value ∙ c.in-Opens.is)) ∙ said) in
    subst (λ (s : Statement). MatchPoll c.open.result (λ r. IfOk r (λ stream. statement_of stream ≡ s)) (stage_statement c.open.new.self.stage ≡ Some s)) same c.open.ensures.known
