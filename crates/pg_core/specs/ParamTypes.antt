-- The types of a text's first parameters, as they are told.
use Rattle.std.specs.Prelude.{ℕ, List, map}
use Rattle.pg_core.specs.declared.param_types.ParamTypes.{ParamTypes}
use Rattle.pg_core.specs.declared.param_types.ParamTypes.TheVariants.{Oids, Types, Owned}

-- their oids, in order
abbrev pub param_oids : ParamTypes → List ℕ
param_oids (Oids oids) = oids.now
param_oids (Types types) = map (λ ty. ty.oid) types.now
param_oids (Owned types) = map (λ ty. ty.oid) types
