-- What a reply tells.
use Rattle.std.specs.Prelude.{Result, Ok, Err}
use Rattle.pg_types.specs.declared.error.Error.{Error}

-- it is an error
abbrev pub IsFailure : {T : Type 0} → Result T Error → Type 0
IsFailure (Ok x) = ⊥
IsFailure (Err e) = Unit {0}
