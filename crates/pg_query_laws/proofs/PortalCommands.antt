-- Portals are commands that a session takes.
use Rattle.std.proofs.Common.{◌≡◌, ℕ, List, [], ◌∷◌, length, Bool, true, false, Option, Some, None, Result, Ok, Err, refl, ap}
use Rattle.std.specs.Prelude.{ℤ}
use Rattle.pg_types.specs.declared.error.Error.{Error}
use Rattle.pg_types.specs.declared.error.Error.TheVariants.{OutOfMemory}
use Rattle.pg_desk.specs.declared.statement.Described.{Described}
use Rattle.pg_query.specs.Dialogue.{Dialogue}
use Rattle.pg_query.specs.Reading.{reads}
use Rattle.pg_query.specs.declared.desk_call.Cleanup.TheVariants.{Release}
use Rattle.pg_query.specs.declared.desk_call.DeskCall.TheVariants.{NextPortal}
use Rattle.pg_query.specs.declared.desk_call.Reply.{Reply}
use Rattle.pg_query.specs.declared.desk_call.Reply.TheVariants as reply
use Rattle.pg_core.specs.Composing.{asks_for}
use Rattle.pg_core.specs.Lookups.{prepare}
use Rattle.pg_core.specs.Numbers.{number_told}
use Rattle.pg_core.specs.Sequences.{then_do}
use Rattle.pg_core.specs.Times.{LacksMemory}
use Rattle.pg_execute.specs.Closings.{closed_as, posts_by}
use Rattle.pg_execute.specs.Executes.{close_part, posts, posts_before, sends, whole_rows}
use Rattle.pg_execute.specs.Parameters.{Params}
use Rattle.pg_execute.specs.Rows.{rows_read}
use Rattle.pg_execute.specs.Typed.{columns_came}
use Rattle.pg_execute.specs.declared.closes.Closing.TheVariants.{AtError}
use Rattle.pg_execute.specs.declared.how_many.HowMany.TheVariants.{Any}
use Rattle.pg_execute.specs.declared.target.Target.{Target}
use Rattle.pg_execute.specs.declared.target.Target.TheVariants as target
use Rattle.pg_portals.specs.Portals.{asks_bind, bind, binds, bound, bound_next, close_portal, closed_with, draws_portal, is_text, portal_of, query_portal}
use Rattle.pg_portals.specs.Requests.{bind_request, close_portal_request, portal_request}
use Rattle.pg_portals.specs.declared.portal.Portal.{Portal}
use Rattle.pg_query_laws.specs.Leavings.{left_behind}
use Rattle.pg_query_laws.specs.Taken.{IsTaken}
use Rattle.pg_query_laws.proofs.Commands.{preparing-text}
use Rattle.pg_query_laws.proofs.ExecutionCommands.{posting, posting-lacks, posts-end-none, sending}
use Rattle.pg_query_laws.proofs.ExecutionReadings.{reads-rows}
use Rattle.pg_query_laws.proofs.ExecutionRequests.{whole-close}
use Rattle.pg_query_laws.proofs.PortalRequests.{whole-bind, whole-close-portal, whole-rows, whole-with}
use Rattle.pg_query_laws.proofs.Steps.{AnswersAtReady, reads-stop}
use Rattle.pg_query_laws.proofs.Taken.{answers, asks, behinds, booked, thens}

-- ---- a bind

number-told : (r : Reply) → IsTaken (number_told r)
number-told (reply.Number n) = answers _
number-told other = answers _

bound-last : AnswersAtReady bound_next
bound-last p [] = tt
bound-last p (b ∷ []) = tt
bound-last p (b ∷ c ∷ rest) = tt

asking : (vs : Params) (p : Portal) → IsTaken (asks_bind vs p)
asking vs p = booked (bind_request p.number p.statement vs) (reads true (bound p)) (whole-bind p.number p.statement vs) (reads-stop bound_next p bound-last)

pub binds-taken : (closes : Bool) (vs : Params) (s : Described) → IsTaken (binds closes vs s)
binds-taken closes vs s = thens draws_portal (λ n. asks_bind vs (portal_of closes s n)) (asks NextPortal number_told (λ r fit. number-told r)) (λ n. asking vs (portal_of closes s n))

-- ---- of a text

at-error : {T : Type 0} (name : List ℕ) (r : Result T Error) → IsTaken (posts_by AtError (close_part name) r)
at-error name (Ok x) = answers (Ok x)
at-error name (Err e) = posting (close_part name) (Err e) (whole-close name)

at-error-lacks : {T : Type 0} (part : Option (List ℕ)) (r : Result T Error) → r ≡ Err OutOfMemory → LacksMemory (posts_by AtError part r)
at-error-lacks part (Ok x) is = absurd cc
at-error-lacks part (Err e) is = posting-lacks part (Err e) is

closing : {T : Type 0} (name : List ℕ) (d : Dialogue T) → IsTaken d → IsTaken (closed_as AtError (close_part name) d)
closing name d h = behinds (posts (close_part name)) (posts-end-none (close_part name)) d (posts_by AtError (close_part name)) h (at-error name) (at-error-lacks (close_part name))

text-taken : (text : List ℕ) (vs : Params) → IsTaken (then_do (prepare text []) (λ s. closed_as AtError (close_part s.name) (binds true vs s)))
text-taken text vs = thens (prepare text []) (λ s. closed_as AtError (close_part s.name) (binds true vs s)) (preparing-text text []) (λ s. closing s.name (binds true vs s) (binds-taken true vs s))

pub bind-taken : (t : Target) (vs : Params) → IsTaken (bind (λ text. prepare text []) t vs)
bind-taken (target.Query text) vs = text-taken text.now vs
bind-taken (target.OwnedQuery text) vs = text-taken text vs
bind-taken (target.Statement s) vs = binds-taken false vs s.now
bind-taken (target.Owned s) vs = binds-taken false vs s

-- ---- its rows, and its end

pub queries-taken : (p : Portal) (max_rows : ℤ) → IsTaken (query_portal p max_rows)
queries-taken p max_rows =
    booked (portal_request p.number max_rows) (reads false (rows_read Any (length p.statement.columns) (whole_rows p.statement) columns_came)) (whole-rows p.number max_rows)
    (reads-rows Any (length p.statement.columns) (whole_rows p.statement) columns_came)

pub closes-taken : (p : Portal) → IsTaken (close_portal p)
closes-taken p =
    thens (sends (close_portal_request p.number)) (λ x. posts_before (closed_with p) (Ok x)) (sending (close_portal_request p.number) (whole-close-portal p.number))
    (λ x. posting (closed_with p) (Ok x) (whole-with p))

-- ---- given up

pub bind-released : (closes : Bool) (vs : Params) (s : Described) (part : List ℕ) → bind_request 0 s vs ≡ Ok part → left_behind [] (binds closes vs s) ≡ Release ∷ []
bind-released closes vs s part is = by (bind_request 0 s vs) is
  where
    by : (o : Result (List ℕ) Error) → o ≡ Ok part → left_behind [] (asks_for o (reads true (bound (portal_of closes s 0)))) ≡ Release ∷ []
    by (Ok request) is = refl
    by (Err e) is = absurd cc

pub bind-closed : (closes : Bool) (vs : Params) (s : Described) (part : List ℕ) (close : Option (List ℕ)) → bind_request 0 s vs ≡ Ok part → left_behind [] (closed_as AtError close (binds closes vs s)) ≡ Release ∷ posts close
bind-closed closes vs s part close is = by (bind_request 0 s vs) is
  where
    by : (o : Result (List ℕ) Error) → o ≡ Ok part → left_behind [] (closed_as AtError close (asks_for o (reads true (bound (portal_of closes s 0))))) ≡ Release ∷ posts close
    by (Ok request) is = refl
    by (Err e) is = absurd cc

pub rows-released : (p : Portal) (max_rows : ℤ) (part : List ℕ) → portal_request p.number max_rows ≡ Ok part → left_behind [] (query_portal p max_rows) ≡ Release ∷ []
rows-released p max_rows part is = by (portal_request p.number max_rows) is
  where
    by : (o : Result (List ℕ) Error) → o ≡ Ok part → left_behind [] (asks_for o (reads false (rows_read Any (length p.statement.columns) (whole_rows p.statement) columns_came))) ≡ Release ∷ []
    by (Ok request) is = refl
    by (Err e) is = absurd cc
