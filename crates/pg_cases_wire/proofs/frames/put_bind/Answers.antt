use Rattle.std.proofs.Common.{[], ◌∷◌, Some, None, refl}
use Rattle.pg_cases_wire.proofs.frames.put_bind.Goals as goal

-- the text `hi`, and null
pub bind-requires : goal.bind-requires
bind-requires g = (Some (104 ∷ 105 ∷ []) ∷ None ∷ [], record { counted = refl; spelled = refl })
