-- The types of values that are given.
use Rattle.std.specs.Prelude.{ℕ, List, filter_map}
use Rattle.pg_types.specs.BuiltIns.{built_in_type}
use Rattle.pg_types.specs.declared.pg_type.PgType.{PgType}
use Rattle.pg_execute.specs.declared.types.Types.{Types}
use Rattle.pg_execute.specs.declared.types.Types.TheVariants.{BuiltIn, Given, Owned}

-- the built-in types of these oids; an oid of no such type is left out
abbrev pub built_in_types : (oids : List ℕ) → List PgType
built_in_types oids = filter_map built_in_type oids

-- the types that are given
abbrev pub types_in : Types → List PgType
types_in (Given types) = types.now
types_in (BuiltIn oids) = built_in_types oids.now
types_in (Owned types) = types
