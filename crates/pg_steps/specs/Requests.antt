-- The requests of texts (PostgreSQL documentation, "Simple Query").
use Rattle.std.specs.Prelude.{ℕ, List, codes}
use Rattle.std.specs.Str.{byte}
use Rattle.pg_spec.specs.Bytes.{text0}
use Rattle.pg_spec.specs.Frames.{tagged}

-- the Query that rolls a transaction back (PostgreSQL documentation, "ROLLBACK")
abbrev pub rollback_frame : List ℕ
rollback_frame = tagged (byte "Q") (text0 (codes "ROLLBACK"))
