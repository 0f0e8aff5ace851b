use Rattle.std.proofs.Common.{◌≡◌, ◌++◌, take, map}
use Rattle.pg_spec.specs.Bodies.{Field}
use Rattle.pg_core.proofs.description.Description.add_columns.Given as goal

-- the oids of the columns so far were added
abbrev pub invariant-loop-column : goal.invariant-loop-column
invariant-loop-column l = l.oids.items ≡ l.fn.oids.items ++ map (λ (f : Field). f.type_oid) (take l.column-index l.self.columns)
