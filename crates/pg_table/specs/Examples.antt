-- What goes out in worked requests, byte by byte.
use Rattle.std.specs.Prelude.{ℕ, List, codes}
use Rattle.pg_spec.specs.Examples.{hex}

-- the text `q`, as the first statement: Parse, Describe, Sync
abbrev pub q_as_s0 : List ℕ
q_as_s0 = hex (codes "500000000b733000710000004400000008537330005300000004")

-- the text `b`, as the second
abbrev pub b_as_s1 : List ℕ
b_as_s1 = hex (codes "500000000b733100620000004400000008537331005300000004")
