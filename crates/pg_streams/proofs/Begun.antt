-- A statement that is queried: what was asked, and how far its reply has come.
use Rattle.std.proofs.Common.{◌≡◌, List, false, Option, Some, None, Result, IfOk, sym, ◌∙◌, ap, subst}
use Rattle.futures.specs.declared.task.Poll.{Poll}
use Rattle.pg_spec.specs.declared.stamps.Stamp.{Stamp}
use Rattle.pg_desk.specs.declared.event.Event.{Event}
use Rattle.pg_desk.specs.declared.statement.Described.{Described as Statement}
use Rattle.pg_types.specs.declared.error.Error.{Error}
use Rattle.pg_query.specs.Meaning.{MatchPoll}
use Rattle.pg_execute.specs.Parameters.{Params, execute_request}
use Rattle.pg_streams.specs.Families.{Family, PausesFor}
use Rattle.pg_streams.specs.Handing.{HandsOn, alone}
use Rattle.pg_streams.specs.RowStates.{IsBegun, IsLiveAt, IsLiveSo, asked, asked_first, first_so, handed, place_so, rows_opened, rows_place, stage_first, stage_place, stage_statement, statement_of, statement_so}
use Rattle.pg_streams.specs.RowStreams.{RowsGiven, query_raw, rows_from}
use Rattle.pg_streams.specs.declared.query_raw.Stage.{Stage}
use Rattle.pg_streams.specs.declared.query_raw.StatementAsks.{StatementAsks}
use Rattle.pg_streams.specs.declared.row_stream.RowStream.{RowStream}
use Rattle.pg_streams.proofs.Asking.{none-closed}

-- where a stream stands
abbrev pub rows-stand : RowStream → Family (Unit {0}) RowsGiven (Unit {0}) (Unit {0})
rows-stand s = alone (rows_place s) (rows_opened s)

pub same-some : (s t : Statement) → Some s ≡ Some t → s ≡ t
same-some s t h = cc

-- nothing is closed behind it
asks-only : (s : Statement) (vs : Params) → alone (record { dialogue = query_raw s vs; reads = 0 }) (asked_first s) ≡ asked None s vs 0
asks-only s vs = λ i. alone (record { dialogue = sym (none-closed (execute_request s vs) (rows_from s false None)) i; reads = 0 }) (asked_first s)

module _ {P : Type 0} (of : P → Params) where
  -- where one stands
  abbrev pub so-stands : Option (StatementAsks P) → Stage → Family (Unit {0}) RowsGiven (Unit {0}) (Unit {0})
  so-stands asks stage = alone (place_so of asks stage) (first_so asks stage)

  pub so-asked : (asks : Option (StatementAsks P)) (stage : Stage) (a : StatementAsks P) (s : Statement) → asks ≡ Some a → s ≡ handed a.statement → so-stands asks stage ≡ asked None s (of a.values) 0
  so-asked asks stage a s is same = ap (λ (o : Option (StatementAsks P)). so-stands o stage) is ∙ asks-only (handed a.statement) (of a.values) ∙ ap (λ (s : Statement). asked None s (of a.values) 0) (sym same)

  pub so-goes : (asks : Option (StatementAsks P)) (stage : Stage) → asks ≡ None → so-stands asks stage ≡ alone (stage_place stage) (stage_first stage)
  so-goes asks stage is = ap (λ (o : Option (StatementAsks P)). so-stands o stage) is

  -- what a poll comes to, where its reply goes on
  pub polls-so : {D : Type 0} (becomes : D → List Event → D → Type 0) (stamp : Stamp) (a b : D) (old p : Family (Unit {0}) RowsGiven (Unit {0}) (Unit {0})) → old ≡ p → (asks : Option (StatementAsks P)) (new : Stage) → asks ≡ None → (r : Poll (Result RowStream Error)) →
      MatchPoll r (λ x. HandsOn becomes rows-stand IsBegun stamp a p b x) (PausesFor becomes stamp a p b (alone (stage_place new) (stage_first new)) × IsLiveAt new) →
      MatchPoll r (λ x. HandsOn becomes rows-stand IsBegun stamp a old b x) (PausesFor becomes stamp a old b (so-stands asks new) × IsLiveSo asks new)
  polls-so becomes stamp a b old p is asks new none r k =
      subst (λ (q : Family (Unit {0}) RowsGiven (Unit {0}) (Unit {0})). MatchPoll r (λ x. HandsOn becomes rows-stand IsBegun stamp a q b x) (PausesFor becomes stamp a q b (so-stands asks new) × IsLiveSo asks new)) (sym is)
      (subst (λ (o : Option (StatementAsks P)). MatchPoll r (λ x. HandsOn becomes rows-stand IsBegun stamp a p b x) (PausesFor becomes stamp a p b (so-stands o new) × IsLiveSo o new)) (sym none) k)

-- the statement stays
pub knows-so : {P : Type 0} (asks : Option (StatementAsks P)) (new : Stage) → asks ≡ None → (s k : Statement) → s ≡ k → (r : Poll (Result RowStream Error)) →
    MatchPoll r (λ r. IfOk r (λ stream. statement_of stream ≡ s)) (stage_statement new ≡ Some s) → MatchPoll r (λ r. IfOk r (λ stream. statement_of stream ≡ k)) (statement_so asks new ≡ Some k)
knows-so {P} asks new none s k same r h =
    subst (λ (o : Option (StatementAsks P)). MatchPoll r (λ r. IfOk r (λ stream. statement_of stream ≡ k)) (statement_so o new ≡ Some k)) (sym none)
    (subst (λ (t : Statement). MatchPoll r (λ r. IfOk r (λ stream. statement_of stream ≡ t)) (stage_statement new ≡ Some t)) same h)
