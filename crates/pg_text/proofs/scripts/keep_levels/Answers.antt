use Rattle.std.proofs.Common.{ap, ◌∙◌}
use Rattle.pg_text.specs.Levels.{nests}
use Rattle.pg_text.proofs.NestingLaws.{one_script, some_scripts}
use Rattle.pg_text.proofs.scripts.keep_levels.Goals as goal

pub returns-then-scripts-eq1 : goal.returns-then-scripts-eq1
returns-then-scripts-eq1 c =
    one_script c.args.scripts.now c.index-scripts-0.result c.is_nested.result c.if-scripts-eq1.true c.index-scripts-0.is
    (c.is_nested.ensures ∙ ap (nests 0) c.as_slice.ensures)

pub returns-else-scripts-eq1 : goal.returns-else-scripts-eq1
returns-else-scripts-eq1 c = some_scripts c.args.scripts.now c.any_has_levels.result c.if-scripts-eq1.false c.any_has_levels.ensures
