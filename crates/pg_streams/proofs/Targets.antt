-- A text or a statement that is queried: its prepare, or its query.
use Rattle.std.proofs.Common.{◌≡◌, List, Option, Some, None, Result, IfOk, sym, ap, subst}
use Rattle.futures.specs.declared.task.Poll.{Poll}
use Rattle.pg_spec.specs.declared.stamps.Stamp.{Stamp}
use Rattle.pg_desk.specs.declared.event.Event.{Event}
use Rattle.pg_desk.specs.declared.statement.Described.{Described}
use Rattle.pg_types.specs.declared.error.Error.{Error}
use Rattle.pg_query.specs.Meaning.{MatchPoll, Place}
use Rattle.pg_execute.specs.Parameters.{Params}
use Rattle.pg_streams.specs.Families.{Family, PausesFor}
use Rattle.pg_streams.specs.Handing.{HandsOn, HandsOnLater, PausesLater, alone, asking, never_whole}
use Rattle.pg_streams.specs.RowStates.{IsBegun, IsLiveAt, IsLiveSo as IsLiveQuery, IsLiveState, stage_first, stage_place, stage_statement, state_first, state_place, state_statement, statement_of, statement_so as statement_of_query}
use Rattle.pg_streams.specs.RowStreams.{RowsGiven}
use Rattle.pg_streams.specs.States.{IsLiveSo, asks_so, finding_so, first_so, place_so, statement_so}
use Rattle.pg_streams.specs.declared.query_raw.RowReply.{RowReply}
use Rattle.pg_streams.specs.declared.query_raw.StatementAsks.{StatementAsks}
use Rattle.pg_streams.specs.declared.query_raw.StatementRawState.{StatementRawState}
use Rattle.pg_streams.specs.declared.raw.TextAsks.{TextAsks}
use Rattle.pg_streams.specs.declared.row_stream.RowStream.{RowStream}
use Rattle.pg_streams.proofs.Begun.{rows-stand, so-stands}

module _ {A P : Type 0} (prep : A → Place Described) (live : A → Type 0) (of : P → Params) {D : Type 0} (becomes : D → List Event → D → Type 0) (stamp : Stamp) (a b : D) where
  -- a text that is prepared
  pub later-so : (old : Option (TextAsks A P)) (t : TextAsks A P) (query new : StatementRawState P) → old ≡ Some t → (text : Option (TextAsks A P)) (r : Poll (Result RowStream Error)) →
      MatchPoll r (λ x. HandsOnLater becomes rows-stand IsBegun statement_of never_whole stamp a (finding_so prep (Some t)) (place_so prep of (Some t) query) (asking (asks_so of (Some t) query) (first_so (Some t) query)) b x)
      (PausesLater becomes stamp a (finding_so prep (Some t)) (place_so prep of (Some t) query) (asking (asks_so of (Some t) query) (first_so (Some t) query)) never_whole b (finding_so prep text) (place_so prep of text new) (asking (asks_so of text new) (first_so text new)) (statement_so text new) × IsLiveSo live text new) →
      MatchPoll r (λ x. HandsOnLater becomes rows-stand IsBegun statement_of never_whole stamp a (finding_so prep old) (place_so prep of old query) (asking (asks_so of old query) (first_so old query)) b x)
      (PausesLater becomes stamp a (finding_so prep old) (place_so prep of old query) (asking (asks_so of old query) (first_so old query)) never_whole b (finding_so prep text) (place_so prep of text new) (asking (asks_so of text new) (first_so text new)) (statement_so text new) × IsLiveSo live text new)
  later-so old t query new is text r k =
      subst (λ (o : Option (TextAsks A P)). MatchPoll r (λ x. HandsOnLater becomes rows-stand IsBegun statement_of never_whole stamp a (finding_so prep o) (place_so prep of o query) (asking (asks_so of o query) (first_so o query)) b x)
      (PausesLater becomes stamp a (finding_so prep o) (place_so prep of o query) (asking (asks_so of o query) (first_so o query)) never_whole b (finding_so prep text) (place_so prep of text new) (asking (asks_so of text new) (first_so text new)) (statement_so text new) × IsLiveSo live text new)) (sym is) k

  -- the query of a text, once it was prepared
  pub prepared-opens : (text : Option (TextAsks A P)) (query : StatementRawState P) (reply : RowReply) → text ≡ None → query.asks ≡ None → (k : Described) (p : Family (Unit {0}) RowsGiven (Unit {0}) (Unit {0})) (r : Poll (Result RowStream Error)) →
      MatchPoll r (λ x. HandsOn becomes rows-stand IsBegun stamp a p b x) (PausesFor becomes stamp a p b (alone (stage_place reply.stage) (stage_first reply.stage)) × IsLiveAt reply.stage) →
      MatchPoll r (λ x. HandsOn becomes rows-stand IsBegun stamp a p b x) (PausesFor becomes stamp a p b (alone (place_so prep of text (record query { reply = reply })) (first_so text (record query { reply = reply }) k)) × IsLiveSo live text (record query { reply = reply }))
  prepared-opens text query reply is none k p r h =
      subst (λ (o : Option (TextAsks A P)). MatchPoll r (λ x. HandsOn becomes rows-stand IsBegun stamp a p b x) (PausesFor becomes stamp a p b (alone (place_so prep of o (record query { reply = reply })) (first_so o (record query { reply = reply }) k)) × IsLiveSo live o (record query { reply = reply }))) (sym is)
      (subst (λ (o : Option (StatementAsks P)). MatchPoll r (λ x. HandsOn becomes rows-stand IsBegun stamp a p b x) (PausesFor becomes stamp a p b (so-stands of o reply.stage) × IsLiveQuery o reply.stage)) (sym none) h)

  -- a query
  pub opens-so : (old text : Option (TextAsks A P)) (query new : StatementRawState P) → old ≡ None → text ≡ None → (k : Described) (r : Poll (Result RowStream Error)) →
      MatchPoll r (λ x. HandsOn becomes rows-stand IsBegun stamp a (alone (state_place of query) (state_first query)) b x) (PausesFor becomes stamp a (alone (state_place of query) (state_first query)) b (alone (state_place of new) (state_first new)) × IsLiveState new) →
      MatchPoll r (λ x. HandsOn becomes rows-stand IsBegun stamp a (alone (place_so prep of old query) (first_so old query k)) b x) (PausesFor becomes stamp a (alone (place_so prep of old query) (first_so old query k)) b (alone (place_so prep of text new) (first_so text new k)) × IsLiveSo live text new)
  opens-so old text query new is same k r h =
      subst (λ (o : Option (TextAsks A P)). MatchPoll r (λ x. HandsOn becomes rows-stand IsBegun stamp a (alone (place_so prep of o query) (first_so o query k)) b x) (PausesFor becomes stamp a (alone (place_so prep of o query) (first_so o query k)) b (alone (place_so prep of text new) (first_so text new k)) × IsLiveSo live text new)) (sym is)
      (subst (λ (o : Option (TextAsks A P)). MatchPoll r (λ x. HandsOn becomes rows-stand IsBegun stamp a (alone (state_place of query) (state_first query)) b x) (PausesFor becomes stamp a (alone (state_place of query) (state_first query)) b (alone (place_so prep of o new) (first_so o new k)) × IsLiveSo live o new)) (sym same) h)

-- its statement stays
pub known-none : {A P : Type 0} (text : Option (TextAsks A P)) (new : StatementRawState P) → text ≡ None → (k : Described) (r : Poll (Result RowStream Error)) →
    MatchPoll r (λ r. IfOk r (λ stream. statement_of stream ≡ k)) (state_statement new ≡ Some k) → MatchPoll r (λ r. IfOk r (λ stream. statement_of stream ≡ k)) (statement_so text new ≡ Some k)
known-none {A} {P} text new is k r h = subst (λ (o : Option (TextAsks A P)). MatchPoll r (λ r. IfOk r (λ stream. statement_of stream ≡ k)) (statement_so o new ≡ Some k)) (sym is) h

pub prepared-known : {A P : Type 0} (text : Option (TextAsks A P)) (query : StatementRawState P) (reply : RowReply) → text ≡ None → query.asks ≡ None → (k : Described) (r : Poll (Result RowStream Error)) →
    MatchPoll r (λ r. IfOk r (λ stream. statement_of stream ≡ k)) (stage_statement reply.stage ≡ Some k) → MatchPoll r (λ r. IfOk r (λ stream. statement_of stream ≡ k)) (statement_so text (record query { reply = reply }) ≡ Some k)
prepared-known {A} {P} text query reply is none k r h =
    known-none text (record query { reply = reply }) is k r (subst (λ (o : Option (StatementAsks P)). MatchPoll r (λ r. IfOk r (λ stream. statement_of stream ≡ k)) (statement_of_query o reply.stage ≡ Some k)) (sym none) h)

-- its query is what goes on, behind what was asked
pub query-none : {A P : Type 0} (text : Option (TextAsks A P)) (query : StatementRawState P) → text ≡ None → statement_so text query ≡ state_statement query
query-none {A} {P} text query is = ap (λ (o : Option (TextAsks A P)). statement_so o query) is
