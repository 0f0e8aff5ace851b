-- The first place of a byte, as the search for it tells.
use Rattle.std.proofs.Common.{◌≡◌, ◌≢◌, ◌<◌, ℕ, List, Option, Some, None, length, slice_index, arith}
use Rattle.std.specs.Prelude.{EachIndex, MatchOption}
use Rattle.std.proofs.lemmas.Bool.{eqb-true, eq-eqb}
use Rattle.memchr.specs.Find.{IsFirstByte, is_byte}

pub first_byte : (byte : ℕ) (s : List ℕ) (r : Option ℕ) → IsFirstByte (is_byte byte) s r →
    MatchOption r (EachIndex s (λ k. slice_index s k ≢ byte)) (λ at. (at < length s) × (slice_index s at ≡ byte) × ((k : ℕ) → k < at → slice_index s k ≢ byte))
first_byte byte s None none = λ k below is. none k (omega arith) below (eq-eqb _ _ is)
first_byte byte s (Some at) found = (found.0.high, eqb-true _ _ found.1, λ k below is. found.0.before k (omega arith) below (eq-eqb _ _ is))
