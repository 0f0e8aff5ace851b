use Rattle.pg_values.proofs.NumberLaws.{some_power}
use Rattle.pg_values.proofs.display.split.Goals as goal

pub nonzero_div-result : goal.nonzero_div-result
nonzero_div-result c = some_power c.power-unit.result _ c.power-unit.ensures

pub nonzero_rem-result : goal.nonzero_rem-result
nonzero_rem-result c = some_power c.power-unit.result _ c.power-unit.ensures
