-- A command that was made leaves nothing to do before its begin.
use Rattle.std.proofs.Common.{◌≡◌, ℕ, ℤ, List, [], Option, Result, Ok, Err, refl}
use Rattle.pg_types.specs.declared.error.Error.{Error}
use Rattle.pg_query.specs.Dialogue.{Dialogue}
use Rattle.pg_query.specs.Scripts.{cleanup_of}
use Rattle.pg_core.specs.Composing.{asks_for}
use Rattle.pg_core.specs.Lookups.{prepare}
use Rattle.pg_core.specs.Sequences.{then_do}
use Rattle.pg_execute.specs.Executes.{posts_before, sends}
use Rattle.pg_execute.specs.Parameters.{Params}
use Rattle.pg_execute.specs.declared.target.Target.{Target}
use Rattle.pg_execute.specs.declared.target.Target.TheVariants as target
use Rattle.pg_portals.specs.Portals.{bind, close_portal, closed_with, query_portal}
use Rattle.pg_portals.specs.Requests.{close_portal_request, portal_request}
use Rattle.pg_portals.specs.declared.portal.Portal.{Portal}

asks-clean : {T : Type 0} (request : Result (List ℕ) Error) (d : Dialogue T) → cleanup_of (asks_for request d) ≡ []
asks-clean (Ok part) d = refl
asks-clean (Err e) d = refl

-- the rows of a portal
pub query-clean : (p : Portal) (max_rows : ℤ) → cleanup_of (query_portal p max_rows) ≡ []
query-clean p max_rows = asks-clean (portal_request p.number max_rows) _

sends-clean : (request : Result (List ℕ) Error) (part : Option (List ℕ)) → cleanup_of (then_do (sends request) (λ x. posts_before part (Ok x))) ≡ []
sends-clean (Ok request) part = refl
sends-clean (Err e) part = refl

-- a target that is bound
pub bind-clean : (t : Target) (vs : Params) → cleanup_of (bind (λ text. prepare text []) t vs) ≡ []
bind-clean (target.Query text) vs = refl
bind-clean (target.OwnedQuery text) vs = refl
bind-clean (target.Statement s) vs = refl
bind-clean (target.Owned s) vs = refl

-- its end
pub close-clean : (p : Portal) → cleanup_of (close_portal p) ≡ []
close-clean p = sends-clean (close_portal_request p.number) (closed_with p)
