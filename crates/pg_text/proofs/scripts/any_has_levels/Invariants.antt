use Rattle.std.proofs.Common.{◌≡◌, drop}
use Rattle.std.specs.List.{list_any}
use Rattle.pg_text.specs.Levels.{has_levels}
use Rattle.pg_text.proofs.scripts.any_has_levels.Given as goal

-- some script has levels where one of those left has
abbrev pub invariant-loop-script : goal.invariant-loop-script
invariant-loop-script l = list_any has_levels l.scripts ≡ list_any has_levels (drop l.script-index l.scripts)
