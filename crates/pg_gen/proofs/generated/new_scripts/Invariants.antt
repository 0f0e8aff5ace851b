use Rattle.std.proofs.Common.{◌≡◌, map}
use Rattle.std.specs.List.{range_with_len}
use Rattle.pg_text.specs.Views.{as_scripts}
use Rattle.pg_gen.specs.Generated.{script}
use Rattle.pg_gen.proofs.generated.new_scripts.Given as goal

abbrev pub invariant-loop-handle : goal.invariant-loop-handle
invariant-loop-handle l = l.scripts.items ≡ as_scripts (map (script l.fn.n) (range_with_len 0 l.handle))
