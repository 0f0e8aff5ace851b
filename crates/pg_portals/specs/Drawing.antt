-- Where the drawing of a portal's number stands.
use Rattle.std.specs.Prelude.{ℕ, Err, if◌then◌else◌}
use Rattle.pg_types.specs.declared.error.Error.{Error}
use Rattle.pg_query.specs.Dialogue.{Dialogue, Answer, Hear}
use Rattle.pg_core.specs.Numbers.{number_told}
use Rattle.pg_portals.specs.Portals.{draws_portal}
use Rattle.pg_portals.specs.declared.draws_portal.DrawsPortal.{DrawsPortal}

-- what is still asked and answered
abbrev pub draws_at : DrawsPortal → Dialogue ℕ
draws_at s = if s.hears then Hear number_told else draws_portal

-- where the desk refuses the question, its error is the answer
abbrev pub draws_refuses : DrawsPortal → Error → Dialogue ℕ
draws_refuses s e = Answer (Err e)

-- how many steps are left
abbrev pub draws_steps : DrawsPortal → ℕ
draws_steps s = if s.hears then 0 else 1
