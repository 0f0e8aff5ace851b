-- What follows for the whole table of built-in types, and for values that are written and read back.
use Rattle.std.specs.Prelude.{◌≡◌, ℕ, List, [], ◌∷◌, ◌++◌, Option, Some, None, Ok, codes}
use Rattle.pg_types.specs.declared.fault.ValueFault.{ValueFault}
use Rattle.pg_types.specs.declared.built_ins.Sort.{Sort}
use Rattle.pg_types.specs.declared.built_ins.Sort.TheVariants as sort
use Rattle.pg_types.specs.BuiltIns.{BuiltIn, row_of}
use Rattle.pg_types.specs.Values.{Given}

-- each row has the property
abbrev pub Each : (BuiltIn → Type 0) → List BuiltIn → Type 0
Each holds [] = Unit {0}
Each holds (r ∷ rows) = holds r × Each holds rows

-- the row is the one that is found under its oid: no other row has that oid
abbrev pub IsTheOne : BuiltIn → Type 0
IsTheOne r = row_of r.oid ≡ Some r

-- an array names its element: the row of a base type, whose name stands behind an underscore
abbrev pub NamesElement : List ℕ → Sort → Type 0
NamesElement name sort.Base = Unit {0}
NamesElement name sort.Pseudo = Unit {0}
NamesElement name (sort.ArrayOf oid) =
    (element : BuiltIn) × (row_of oid ≡ Some element) × (element.sort ≡ sort.Base) × (name ≡ codes "_" ++ element.name)

-- bytes that a value gives are read as that value and no other
abbrev pub ReadsBack : {A B : Type 0} → (A → B) → Given → (Option (List ℕ) → A → Type 0) → (Option (List ℕ) → Option ValueFault → Type 0) → A → Type 0
ReadsBack {A = A} seen given spelled refused v =
    (bytes : List ℕ) → given ≡ Ok (Some bytes)
    → refused (Some bytes) None × spelled (Some bytes) v × ((w : A) → spelled (Some bytes) w → seen w ≡ seen v)
