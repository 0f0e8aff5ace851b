use Rattle.std.proofs.Common.{◌≡◌, map}
use Rattle.pg_text.specs.Views.{as_command}
use Rattle.pg_gen.specs.Generated.{script}
use Rattle.pg_gen.proofs.generated.new_script.Given as goal

abbrev pub invariant-loop-i : goal.invariant-loop-i
invariant-loop-i l = l.script.items ≡ map as_command (script l.i l.fn.handle)
