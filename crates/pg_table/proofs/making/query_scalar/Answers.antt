use Rattle.std.proofs.Common.{◌≡◌, List, IfOk, ap, subst, ◌∙◌}
use Rattle.pg_execute.specs.Parameters.{given_of}
use Rattle.pg_execute.specs.Executes as execution
use Rattle.pg_execute.specs.Targets.{on_target}
use Rattle.pg_states.specs.Texts.{prepare_text}
use Rattle.pg_query.specs.Dialogue.{Dialogue}
use Rattle.pg_types.specs.declared.value.Value.{Value}
use Rattle.pg_table.specs.Mapped.{mapped}
use Rattle.pg_table.specs.contracts.state.AnyStatePolled.TheImpl as any
use Rattle.pg_table.specs.Table.{in_scalars}
use Rattle.pg_table.specs.declared.state.AnyAnswer.{AnyAnswer}
use Rattle.pg_table.proofs.Finding.{done-with, done-without}
use Rattle.pg_table.proofs.making.query_scalar.Goals as goal

pub returns-in_ok-state-in-Some-clause-asks : goal.returns-in_ok-state-in-Some-clause-asks
returns-in_ok-state-in-Some-clause-asks c =
    rw c.in_ok-state-in-Some.ensures
    (ap (λ (d : Dialogue (List Value)). mapped in_scalars d)
    (c.query_scalar_state-state.ensures.asks
    ∙ ap (λ (vs : List Value). on_target prepare_text (λ s. execution.query_scalar c.args.how_many s (given_of vs)) c.in-Some.target) c.as_slice.ensures
    ∙ done-with (λ s. execution.query_scalar c.args.how_many s (given_of c.args.values.now)) c.args.slots.now c.args.target.now c.in-Some.target (rw c.in-Some.is at c.in_ok-target.ensures.found)))

pub returns-in-None-clause-asks : goal.returns-in-None-clause-asks
returns-in-None-clause-asks c =
    subst (λ (d : Dialogue AnyAnswer). IfOk c.missing.result (λ state. (any.ghosts.place state).dialogue ≡ d))
    (ap (λ (d : Dialogue (List Value)). mapped in_scalars d) (done-without (λ s. execution.query_scalar c.args.how_many s (given_of c.args.values.now)) c.args.slots.now c.args.target.now (rw c.in-None.is at c.in_ok-target.ensures.found)))
    c.missing.ensures.asks
