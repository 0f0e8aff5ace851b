-- Where the closing of a portal stands.
use Rattle.std.specs.Prelude.{ℕ, Some, None, Ok, Err}
use Rattle.pg_types.specs.declared.error.Error.{Error}
use Rattle.pg_query.specs.Dialogue.{Dialogue, Answer}
use Rattle.pg_execute.specs.Executes.{posts_before}
use Rattle.pg_portals.specs.Portals.{close_portal}
use Rattle.pg_portals.specs.declared.closes.ClosesPortal.{ClosesPortal}
use Rattle.pg_portals.specs.declared.closes.ClosesPortal.TheVariants.{Fresh, Posts}

-- what is still asked and answered
abbrev pub closes_at : ClosesPortal → Dialogue (Unit {0})
closes_at (Fresh portal) = close_portal portal
closes_at (Posts part) = posts_before part (Ok tt)

-- where the desk refuses a request, that error is the answer
abbrev pub closes_refuses : ClosesPortal → Error → Dialogue (Unit {0})
closes_refuses s e = Answer (Err e)

-- how many steps are left
abbrev pub closes_steps : ClosesPortal → ℕ
closes_steps (Fresh portal) = 2
closes_steps (Posts (Some part)) = 1
closes_steps (Posts None) = 0
