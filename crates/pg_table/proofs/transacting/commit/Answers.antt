use Rattle.std.proofs.Common.{◌≡◌, ℕ, List, Option, IfOk, ap, subst, ◌∙◌}
use Rattle.pg_client.specs.Done.{batch_execute}
use Rattle.pg_query.specs.Dialogue.{Dialogue}
use Rattle.pg_steps.specs.Transactions.{commits_by}
use Rattle.pg_table.specs.Levels.{level_name}
use Rattle.pg_table.specs.Mapped.{mapped}
use Rattle.pg_table.specs.Table.{in_done}
use Rattle.pg_table.specs.Targets.{or_missing}
use Rattle.pg_table.specs.contracts.state.AnyStatePolled.TheImpl as any
use Rattle.pg_table.specs.declared.levels.Level.{Level}
use Rattle.pg_table.specs.declared.state.AnyAnswer.{AnyAnswer}
use Rattle.pg_table.proofs.transacting.commit.Goals as goal

pub returns-in_ok-text-in-Some-clause-asks : goal.returns-in_ok-text-in-Some-clause-asks
returns-in_ok-text-in-Some-clause-asks c =
    subst (λ (d : Dialogue AnyAnswer). IfOk c.executes.result (λ state. (any.ghosts.place state).dialogue ≡ d))
    (ap (λ (text : List ℕ). mapped in_done (batch_execute text)) c.in_ok-text-in-Some.ensures
    ∙ ap (λ (o : Option Level). mapped in_done (or_missing (λ level. batch_execute (commits_by (level_name level))) o)) c.in-Some.ensures)
    c.executes.ensures.asks

pub returns-in-None-clause-asks : goal.returns-in-None-clause-asks
returns-in-None-clause-asks c =
    subst (λ (d : Dialogue AnyAnswer). IfOk c.missing.result (λ state. (any.ghosts.place state).dialogue ≡ d))
    (ap (λ (o : Option Level). mapped in_done (or_missing (λ level. batch_execute (commits_by (level_name level))) o)) c.in-None.ensures)
    c.missing.ensures.asks
