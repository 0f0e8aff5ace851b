use Rattle.std.proofs.Common.{◌≡◌, ◌++◌, drop}
use Rattle.pg_execute.specs.Types.{built_in_types}
use Rattle.pg_execute.proofs.types.built_in_types.Given as goal

-- those of the oids so far stand in front of the others'
abbrev pub invariant-loop-oid : goal.invariant-loop-oid
invariant-loop-oid l = l.types.items ++ built_in_types (drop l.oid-index l.oids) ≡ built_in_types l.oids
