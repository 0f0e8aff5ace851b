-- Numbers in the bytes of a value: big-endian, the signed ones in two's complement (PostgreSQL source, pqformat.c).
use Rattle.std.specs.Prelude.{ℕ, ℤ, List}
use Rattle.std.specs.Int.{w16, w32, to_be_bytes, cast_unsigned}

-- a signed number of 2 bytes
abbrev pub i16_bytes : ℤ → List ℕ
i16_bytes z = to_be_bytes w16 (cast_unsigned w16 z)

-- a signed number of 4 bytes
abbrev pub i32_bytes : ℤ → List ℕ
i32_bytes z = to_be_bytes w32 (cast_unsigned w32 z)
