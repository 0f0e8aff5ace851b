use Rattle.std.proofs.Common.{◌≡◌, map, take}
use Rattle.pg_types.specs.declared.pg_type.PgType.{PgType}
use Rattle.pg_core.proofs.param_types.oids_of.Given as goal

-- the oids of the types so far
abbrev pub invariant-loop-ty : goal.invariant-loop-ty
invariant-loop-ty l = l.oids.items ≡ map (λ (ty : PgType). ty.oid) (take l.ty-index l.types)
