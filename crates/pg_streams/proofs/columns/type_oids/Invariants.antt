use Rattle.std.proofs.Common.{◌≡◌, map, take}
use Rattle.pg_spec.specs.Bodies.{Field}
use Rattle.pg_streams.proofs.columns.type_oids.Given as goal

-- the oids of the columns so far
abbrev pub invariant-loop-column : goal.invariant-loop-column
invariant-loop-column l = l.oids.items ≡ map (λ (f : Field). f.type_oid) (take l.column-index l.columns)
