use Rattle.std.proofs.Common.{◌≡◌, drop}
use Rattle.pg_text.specs.Levels.{has_levels}
use Rattle.pg_text.proofs.scripts.some_level.Given as goal

-- some command does where one of those left does
abbrev pub invariant-loop-command : goal.invariant-loop-command
invariant-loop-command l = has_levels l.script ≡ has_levels (drop l.command-index l.script)
