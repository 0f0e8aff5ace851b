use Rattle.std.proofs.Common.{ℕ, length, ap, ◌∙◌}
use Rattle.pg_execute.specs.Parameters.{given_of}
use Rattle.pg_execute.specs.Typed.{execute_typed}
use Rattle.pg_query.specs.Dialogue.{Dialogue}
use Rattle.pg_execute.specs.Types.{built_in_types}
use Rattle.pg_states.specs.Paired.{paired}
use Rattle.pg_table.specs.Mapped.{mapped}
use Rattle.pg_table.specs.Table.{in_count}
use Rattle.pg_table.proofs.making.execute_typed.Goals as goal

pub returns-clause-asks : goal.returns-clause-asks
returns-clause-asks c =
    rw c.in_ok-state.ensures
    (ap (λ (d : Dialogue ℕ). mapped in_count d)
    (c.executed_by_oids-state.ensures.asks
    ∙ (λ i. paired (length (c.as_slice-types.ensures i)) (given_of (c.as_slice-values.ensures i)) (execute_typed (c.as_str-text.ensures i) (built_in_types (c.as_slice-types.ensures i)) (given_of (c.as_slice-values.ensures i))))))
