use Rattle.std.proofs.Common.{◌≡◌, ◌≤◌, drop}
use Rattle.pg_text.specs.Levels.{nests}
use Rattle.pg_text.proofs.scripts.is_nested.Given as goal

-- the commands that are left are counted on, and each opened one level at most
abbrev pub invariant-loop-command : goal.invariant-loop-command
invariant-loop-command l = record {
  counted : nests 0 l.script ≡ nests l.depth (drop l.command-index l.script);
  depth : l.depth ≤ l.command-index;
}
