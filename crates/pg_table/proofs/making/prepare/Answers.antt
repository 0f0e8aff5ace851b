use Rattle.std.proofs.Common.{ap, ◌∙◌}
use Rattle.pg_core.specs.Lookups.{prepare}
use Rattle.pg_query.specs.Dialogue.{Dialogue}
use Rattle.pg_desk.specs.declared.statement.Described.{Described}
use Rattle.pg_table.specs.Mapped.{mapped}
use Rattle.pg_table.specs.Table.{in_statement}
use Rattle.pg_table.proofs.making.prepare.Goals as goal

pub returns-clause-asks : goal.returns-clause-asks
returns-clause-asks c =
    rw c.in_ok-state.ensures
    (ap (λ (d : Dialogue Described). mapped in_statement d)
    (c.prepare_state.ensures.asks
    ∙ (λ i. prepare (c.as_str.ensures i) (c.as_slice.ensures i))))
