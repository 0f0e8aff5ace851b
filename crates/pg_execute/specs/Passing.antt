-- What a script wants, as the one in which it stands wants it.
use Rattle.std.specs.Prelude.{◌≡◌, Ok, Err}
use Rattle.pg_query.specs.declared.script.Want.{Want}
use Rattle.pg_query.specs.declared.script.Want.TheVariants as want

-- an error, an action or a message that the one wants, the other wants too
abbrev pub Passes : {X T : Type 0} → Want X → Want T → Type 0
Passes (want.Answer (Ok x)) passed = ⊥
Passes (want.Answer (Err e)) passed = passed ≡ want.Answer (Err e)
Passes (want.Act action) passed = passed ≡ want.Act action
Passes want.Read passed = passed ≡ want.Read
