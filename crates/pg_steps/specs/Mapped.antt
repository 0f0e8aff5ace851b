-- A command that gives a value of its own where all went well.
use Rattle.std.specs.Prelude.{Ok}
use Rattle.pg_query.specs.Dialogue.{Dialogue}
use Rattle.pg_query.specs.Made.{made}

-- A dialogue that asks the same, and gives this where all went well.
abbrev pub giving : {T : Type 0} → T → Dialogue (Unit {0}) → Dialogue T
giving x d = made (λ _. Ok x) d
