-- The bytes that a link has read and not given yet.
use Rattle.std.specs.Prelude.{◌≡◌, ◌≤◌, ℕ, List, slice_range, vec_len}
use Rattle.pg_stream.specs.declared.ahead.Ahead.TheInside.{Inside}

-- they stand between two places of the buffer
abbrev pub ahead_of : Inside → List ℕ
ahead_of a = slice_range a.buffer.items a.start a.end

-- The places stand in order in a buffer of 8,192 bytes.
pub record IsAhead (a : Inside) : Type 0 where
  pub ordered : a.start ≤ a.end
  pub within : a.end ≤ 8192
  pub size : vec_len a.buffer ≡ 8192
