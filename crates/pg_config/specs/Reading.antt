-- How texts are read, step by step.
use Rattle.std.specs.Prelude.{◌&&◌, ◌+◌, ◌*◌, ℕ, List, [], Option, Some, None, nat_le, nat_lt, if◌then◌else◌}
use Rattle.std.specs.Char.{digit_value}
use Rattle.pg_config.specs.Pieces.{pieces}

-- a number with one digit more, unless it grows past the most
abbrev pub next_value : (radix most value digit : ℕ) → Option ℕ
next_value radix most value digit =
    if nat_lt (digit_value digit) radix && nat_le (value * radix + digit_value digit) most then Some (value * radix + digit_value digit) else None

-- the pieces that are left; None: there are no more
abbrev pub pieces_left : (mark : ℕ) → Option (List ℕ) → List (List ℕ)
pieces_left mark None = []
pieces_left mark (Some text) = pieces mark text
