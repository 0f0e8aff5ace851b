-- The front of a tagged frame.
use Rattle.std.specs.Prelude.{◌≡◌, ℕ, ◌+◌, ◌<◌, ◌≤◌, List, ◌∷◌, ◌++◌}
use Rattle.std.specs.Int.{w32, to_be_bytes}
use Rattle.pg_types.specs.declared.faults.FrameFault.{FrameFault}
use Rattle.pg_types.specs.declared.faults.FrameFault.TheVariants as frame

-- tag and length are appended, and there is room for the body
pub record Begins (tag body : ℕ) (old new : List ℕ) (spare : ℕ) : Type 0 where
  pub fits : 4 + body ≤ 2147483647
  pub header : new ≡ old ++ tag ∷ to_be_bytes w32 (4 + body)
  pub room : body ≤ spare

-- the length field can't hold it, or memory lacks
abbrev pub RefusedFor : ℕ → FrameFault → Type 0
RefusedFor body frame.TooLong = 2147483647 < 4 + body
RefusedFor body frame.OutOfMemory = Unit {0}
RefusedFor body _ = ⊥

-- nothing is appended
pub record RefusesLength (body : ℕ) (old new : List ℕ) (fault : FrameFault) : Type 0 where
  pub same : new ≡ old
  pub cause : RefusedFor body fault
