-- The types that a client knows without asking the server (PostgreSQL documentation, "pg_type"; the
-- numbers are those of the catalog's initial data, pg_type.dat). All others are looked up.
use Rattle.std.specs.Prelude.{ℕ, List, [], ◌∷◌, Option, Some, None, option_map, find, ◌==◌, codes}
use Rattle.pg_types.specs.declared.pg_type.PgType.{PgType}
use Rattle.pg_types.specs.declared.pg_type.Kind.{Kind, Simple, Pseudo, Array}
use Rattle.pg_types.specs.declared.built_ins.Sort.{Sort}
use Rattle.pg_types.specs.declared.built_ins.Sort.TheVariants as sort

-- a row of the table
pub record BuiltIn : Type 0 where
  pub name : List ℕ
  pub oid : ℕ
  pub sort : Sort

abbrev row : List ℕ → ℕ → Sort → BuiltIn
row name oid s = record { name = name; oid = oid; sort = s }

-- the table
abbrev pub built_ins : List BuiltIn
built_ins =
    row (codes "bool") 16 sort.Base ∷ row (codes "bytea") 17 sort.Base
    ∷ row (codes "char") 18 sort.Base ∷ row (codes "name") 19 sort.Base
    ∷ row (codes "int8") 20 sort.Base ∷ row (codes "int2") 21 sort.Base
    ∷ row (codes "int4") 23 sort.Base ∷ row (codes "text") 25 sort.Base
    ∷ row (codes "oid") 26 sort.Base ∷ row (codes "unknown") 705 sort.Base
    ∷ row (codes "bpchar") 1042 sort.Base ∷ row (codes "varchar") 1043 sort.Base
    ∷ row (codes "void") 2278 sort.Pseudo
    ∷ row (codes "_bool") 1000 (sort.ArrayOf 16) ∷ row (codes "_bytea") 1001 (sort.ArrayOf 17)
    ∷ row (codes "_int2") 1005 (sort.ArrayOf 21) ∷ row (codes "_int4") 1007 (sort.ArrayOf 23)
    ∷ row (codes "_text") 1009 (sort.ArrayOf 25) ∷ row (codes "_varchar") 1015 (sort.ArrayOf 1043)
    ∷ row (codes "_int8") 1016 (sort.ArrayOf 20) ∷ row (codes "_oid") 1028 (sort.ArrayOf 26) ∷ []

-- the row of an oid
abbrev pub row_of : ℕ → Option BuiltIn
row_of oid = find (λ r. r.oid == oid) built_ins

-- the schema of them all
abbrev pub pg_catalog : List ℕ
pg_catalog = codes "pg_catalog"

-- the type that a row names, of this kind
abbrev pub typed : BuiltIn → Kind → PgType
typed r kind = record { name = r.name; oid = r.oid; kind = kind; schema = pg_catalog }

-- the kind of an array of the type in this row; each array of the table has such a row
abbrev pub array_kind : Option BuiltIn → Kind
array_kind None = Simple
array_kind (Some element) = Array (typed element Simple)

-- the kind of a sort
abbrev pub kind_of : Sort → Kind
kind_of sort.Base = Simple
kind_of sort.Pseudo = Pseudo
kind_of (sort.ArrayOf element) = array_kind (row_of element)

-- the built-in type of an oid
abbrev pub built_in_type : ℕ → Option PgType
built_in_type oid = option_map (λ r. typed r (kind_of r.sort)) (row_of oid)
