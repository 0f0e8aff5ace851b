use Rattle.std.proofs.Common.{◌≡◌, ◌<◌, ◌++◌, ℕ, List, length, flat_map, w16}
use Rattle.std.specs.Int.{to_be_bytes}
use Rattle.std.specs.List.{AllByRecursion}
use Rattle.pg_values.specs.Numerics.{AreDigits}
use Rattle.pg_values.proofs.numeric.read_digits.Given as goal

abbrev pub invariant-loop-digit : goal.invariant-loop-digit
invariant-loop-digit l = record {
  below : AllByRecursion (λ digit. digit < 10000) l.digits;
  spelled : l.bytes ≡ flat_map (to_be_bytes w16) l.digits ++ l.rest;
  others : (ds : List ℕ) → AreDigits ds l.bytes → (es : List ℕ) × AreDigits es l.rest;
}

abbrev pub decreases-loop-digit : goal.decreases-loop-digit
decreases-loop-digit l = length l.rest
