use Rattle.std.proofs.Common.{◌≡◌, Option, IfOk, ap, subst, ◌∙◌}
use Rattle.pg_execute.specs.Executes.{close}
use Rattle.pg_query.specs.Dialogue.{Dialogue}
use Rattle.pg_desk.specs.declared.statement.Described.{Described}
use Rattle.pg_table.specs.Mapped.{mapped}
use Rattle.pg_table.specs.contracts.state.AnyStatePolled.TheImpl as any
use Rattle.pg_table.specs.Table.{in_done}
use Rattle.pg_table.specs.Targets.{or_missing}
use Rattle.pg_table.specs.declared.state.AnyAnswer.{AnyAnswer}
use Rattle.pg_table.proofs.making.close.Goals as goal

pub returns-in_ok-state-in-Some-clause-asks : goal.returns-in_ok-state-in-Some-clause-asks
returns-in_ok-state-in-Some-clause-asks c =
    rw c.in_ok-state-in-Some.ensures
    (ap (λ (d : Dialogue (Unit {0})). mapped in_done d) (c.close_owned_state-state.ensures.asks ∙ ap close c.in_ok-statement-in-Some.ensures)
    ∙ ap (λ (o : Option Described). mapped in_done (or_missing close o)) c.in-Some.ensures)

pub returns-in-None-clause-asks : goal.returns-in-None-clause-asks
returns-in-None-clause-asks c =
    subst (λ (d : Dialogue AnyAnswer). IfOk c.missing.result (λ state. (any.ghosts.place state).dialogue ≡ d))
    (ap (λ (o : Option Described). mapped in_done (or_missing close o)) c.in-None.ensures)
    c.missing.ensures.asks
