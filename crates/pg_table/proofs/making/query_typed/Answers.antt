use Rattle.std.proofs.Common.{length, ap, ◌∙◌}
use Rattle.pg_execute.specs.Parameters.{given_of}
use Rattle.pg_execute.specs.Typed.{query_typed}
use Rattle.pg_execute.specs.declared.result_set.ResultSet.{ResultSet}
use Rattle.pg_core.specs.Lookups.{find_all}
use Rattle.pg_query.specs.Dialogue.{Dialogue}
use Rattle.pg_execute.specs.Types.{built_in_types}
use Rattle.pg_states.specs.Paired.{paired}
use Rattle.pg_table.specs.Mapped.{mapped}
use Rattle.pg_table.specs.Table.{in_rows}
use Rattle.pg_table.proofs.making.query_typed.Goals as goal

pub returns-clause-asks : goal.returns-clause-asks
returns-clause-asks c =
    rw c.in_ok-state.ensures
    (ap (λ (d : Dialogue ResultSet). mapped in_rows d)
    (c.queried_by_oids-state.ensures.asks
    ∙ (λ i. paired (length (c.as_slice-types.ensures i)) (given_of (c.as_slice-values.ensures i))
    (query_typed find_all c.args.how_many (c.as_str-text.ensures i) (built_in_types (c.as_slice-types.ensures i)) (given_of (c.as_slice-values.ensures i))))))
