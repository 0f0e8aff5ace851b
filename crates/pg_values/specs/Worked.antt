-- Bytes that values are written in, worked out in full.
use Rattle.std.specs.Prelude.{pos, true, false, List, [], ◌∷◌}
use Rattle.pg_types.specs.declared.pg_type.Kind as k
use Rattle.pg_values.specs.declared.datum.Bound.TheVariants.{Inclusive, Exclusive}
use Rattle.pg_values.specs.declared.datum.Dim.{Dim}
use Rattle.pg_values.specs.declared.datum.Datum as d
use Rattle.pg_values.specs.declared.datum.Datum.{Datum}
use Rattle.pg_values.specs.Spelling.{SpellsKind, IsArray, IsRange}

-- 12345.678: three digits, weight 1, plus, scale 3; 1, 2345 and 6780
abbrev pub WorkedNumeric : Type 0
WorkedNumeric = SpellsKind true 1700 k.Simple (d.Numeric (pos 12345678) 3) (0 ∷ 3 ∷ 0 ∷ 1 ∷ 0 ∷ 0 ∷ 0 ∷ 3 ∷ 0 ∷ 1 ∷ 9 ∷ 41 ∷ 26 ∷ 124 ∷ [])

-- one dimension of two items, from 1 on
abbrev pub two_items : List Dim
two_items = record { len = pos 2; lower = pos 1 } ∷ []

-- the array of int4 of 1 and null: one dimension, flag 1, the number of int4; two items from 1 on; four bytes that spell 1, and null
abbrev pub WorkedArray : Type 0
WorkedArray =
    IsArray true 23 (SpellsKind true 23 k.Simple) (d.Array two_items (d.Int (pos 1) ∷ d.Null ∷ []))
    (0 ∷ 0 ∷ 0 ∷ 1 ∷ 0 ∷ 0 ∷ 0 ∷ 1 ∷ 0 ∷ 0 ∷ 0 ∷ 23 ∷ 0 ∷ 0 ∷ 0 ∷ 2 ∷ 0 ∷ 0 ∷ 0 ∷ 1 ∷ 0 ∷ 0 ∷ 0 ∷ 4 ∷ 0 ∷ 0 ∷ 0 ∷ 1 ∷ 255 ∷ 255 ∷ 255 ∷ 255 ∷ [])

-- the range of int4 from 1 to below 5: the flag of an inclusive lower bound, and both in four bytes each
abbrev pub WorkedRange : Type 0
WorkedRange =
    IsRange true (SpellsKind true 23 k.Simple) (d.Range false Inclusive Exclusive (d.Int (pos 1) ∷ d.Int (pos 5) ∷ []))
    (2 ∷ 0 ∷ 0 ∷ 0 ∷ 4 ∷ 0 ∷ 0 ∷ 0 ∷ 1 ∷ 0 ∷ 0 ∷ 0 ∷ 4 ∷ 0 ∷ 0 ∷ 0 ∷ 5 ∷ [])
