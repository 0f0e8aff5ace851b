-- What a reader of slices answers, as the definitions' readers have it.
use Rattle.std.specs.Prelude.{ℕ, ℤ, List, ◌++◌, Vec, Option, option_map}
use Rattle.std.specs.Int.{w16}
use Rattle.std.specs.Borrow.{Bor}
use Rattle.pg_spec.specs.Bytes.{◌>>=◌, signed_at, if_all_read}
use Rattle.pg_spec.specs.ClientFrames.{ClientFrame, counted_at, value_at}

-- two slices
abbrev pub both : Option (Bor (List ℕ) × Bor (List ℕ)) → Option (List ℕ × List ℕ)
both read = option_map (λ p. (p.0.now, p.1.now)) read

-- a value and a slice
abbrev pub behind : {A : Type 0} → Option (A × Bor (List ℕ)) → Option (A × List ℕ)
behind read = option_map (λ p. (p.0, p.1.now)) read

-- a slice, or null, and a slice
abbrev pub valued : Option (Option (Bor (List ℕ)) × Bor (List ℕ)) → Option (Option (List ℕ) × List ℕ)
valued read = option_map (λ p. (option_map (λ v. v.now) p.0, p.1.now)) read

-- items and a slice
abbrev pub listed : {A Z : Type 0} → Option (Vec A Z × Bor (List ℕ)) → Option (List A × List ℕ)
listed read = option_map (λ p. (p.0.items, p.1.now)) read

-- items in front of others
abbrev pub onto : {A : Type 0} → List A → Option (List A × List ℕ) → Option (List A × List ℕ)
onto front others = option_map (λ p. (front ++ p.0, p.1)) others

-- the frame of what a Bind says behind its names: the formats of the values, the values, the formats of the result
abbrev pub giving : (List ℤ → List (Option (List ℕ)) → List ℤ → ClientFrame) → List ℕ → Option ClientFrame
giving frame bytes = do
  formats ← counted_at (signed_at w16) bytes
  values ← counted_at value_at formats.1
  results ← counted_at (signed_at w16) values.1
  if_all_read (frame formats.0 values.0 results.0, results.1)
