-- When a copy's opening is answered (PostgreSQL documentation, "COPY Operations").
use Rattle.std.specs.Prelude.{List, [], ◌∷◌, length, Bool, true, false, not, ◌&&◌, ◌==◌}
use Rattle.std.specs.Str.{byte}
use Rattle.pg_spec.specs.RawMessages.{RawMessage}

-- Its reply answers it: the first message isn't BindComplete, which has no body, or one stands behind that, CopyInResponse, an error or anything else, a second
-- BindComplete too.
abbrev pub is_opened : List RawMessage → Bool
is_opened [] = false
is_opened (m ∷ []) = not (m.tag == byte "2" && length m.body == 0)
is_opened (m ∷ n ∷ reply) = true
