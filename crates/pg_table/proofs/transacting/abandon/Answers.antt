use Rattle.std.proofs.Common.{◌≡◌, ℕ, List, Option, IfOk, ap, subst, ◌∙◌}
use Rattle.pg_query.specs.Dialogue.{Dialogue}
use Rattle.pg_steps.specs.Transactions.{rolls_back_by}
use Rattle.pg_table.specs.Abandons.{abandons_by}
use Rattle.pg_table.specs.Levels.{level_name}
use Rattle.pg_table.specs.Mapped.{mapped}
use Rattle.pg_table.specs.Table.{in_done}
use Rattle.pg_table.specs.Targets.{or_missing}
use Rattle.pg_table.specs.contracts.state.AnyStatePolled.TheImpl as any
use Rattle.pg_table.specs.declared.levels.Level.{Level}
use Rattle.pg_table.specs.declared.state.AnyAnswer.{AnyAnswer}
use Rattle.pg_table.proofs.transacting.abandon.Goals as goal

pub returns-in_ok-state-in-Some-clause-asks : goal.returns-in_ok-state-in-Some-clause-asks
returns-in_ok-state-in-Some-clause-asks c =
    rw c.in_ok-state-in-Some.ensures
    (ap (λ (d : Dialogue (Unit {0})). mapped in_done d) (c.abandon_state.ensures.asks ∙ ap abandons_by c.in_ok-text-in-Some.ensures)
    ∙ ap (λ (o : Option Level). mapped in_done (or_missing (λ level. abandons_by (rolls_back_by (level_name level))) o)) c.in-Some.ensures)

pub returns-in-None-clause-asks : goal.returns-in-None-clause-asks
returns-in-None-clause-asks c =
    subst (λ (d : Dialogue AnyAnswer). IfOk c.missing.result (λ state. (any.ghosts.place state).dialogue ≡ d))
    (ap (λ (o : Option Level). mapped in_done (or_missing (λ level. abandons_by (rolls_back_by (level_name level))) o)) c.in-None.ensures)
    c.missing.ensures.asks
