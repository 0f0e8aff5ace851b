-- When a session of any commands may answer each failure: as one of simple queries, and it may stall too where a copy's opening isn't
-- answered (PostgreSQL documentation, "COPY Operations").
use Rattle.std.specs.Prelude.{◌≡◌, ℕ, ◌+◌, ◌-◌, ◌^◌, ◌≤◌, ◌<◌, ◌⊎◌, Bool, IsTrue, IsFalse, List, [], Some, None, slice_get, ◌==◌}
use Rattle.std.specs.List.{list_any}
use Rattle.std.specs.Str.{byte}
use Rattle.pg_promises.specs.Causes as landed
use Rattle.pg_promises.specs.Causes.{Behind, OfDialogue, whole_groups}
use Rattle.pg_spec.specs.Faults.{Failure, Stalled}
use Rattle.pg_spec.specs.Links.{Rose, next_count}
use Rattle.pg_spec.specs.RawMessages.{RawMessage, groups, ends_in}
use Rattle.pg_spec.specs.Sent.{units, whole_units}
use Rattle.pg_spec.specs.Settings.{Settings}
use Rattle.pg_spec.specs.Copies.{is_opened}
use Rattle.pg_promises.specs.Calls.{Call, apart}

-- Flush, which gives the server the turn and ends no request (PostgreSQL documentation, "Extended Query")
abbrev pub is_flush : RawMessage → Bool
is_flush frame = frame.tag == byte "H"

-- the last request that was sent is a copy's opening, up to its Flush, and nothing of it is behind that
abbrev pub awaits_opening : List ℕ → Bool
awaits_opening sent = list_any (ends_in is_flush) (units sent)

-- the group behind the whole ones, as far as it came
abbrev pub open_group : List RawMessage → List RawMessage
open_group later = elim (slice_get (groups later) (whole_groups later)) [ None ↦ [] | Some group ↦ group ]

-- All requests that were sent whole are answered, a copy's opening was sent behind them, and it isn't.
pub record IsOpeningAwaited (taken : List ℕ) (later : List RawMessage) : Type 0 where
  pub asked : IsTrue (awaits_opening taken)
  pub others : whole_groups later ≡ whole_units taken
  pub unanswered : IsFalse (is_opened (open_group later))

-- Nothing more can come: as in a session of simple queries, or a copy's opening isn't answered.
abbrev pub IsAwaited : {C : Type 0} → Call C → Settings → List ℕ → List ℕ → Type 0
IsAwaited call s g t = landed.IsAwaited (apart call) s g t ⊎ Behind (apart call) s g (IsOpeningAwaited t)

-- the link had nothing more to give, and what it was to answer was taken
pub record IsStalled {C : Type 0} (call : Call C) (before after : ℕ) : Type 0 where
  pub lulls : Rose call.before.lulls call.after.lulls
  -- the two counts are the link's, in this call
  pub from : call.before.quiet ≤ before
  pub to : after ≤ call.after.quiet
  pub rose : Rose before after
  -- between them one read and at most one other call weren't ready; on a steady link the read alone
  pub round : (after ≤ before + 2) × (IsTrue call.before.steady → after ≤ before + 1)
  -- and behind them at most one call wasn't; on a steady link one
  pub last : call.after.quiet ≤ after + 1
  pub exact : IsTrue call.before.steady → call.before.lulls < 2 ^ 64 - 1 → call.after.quiet ≡ next_count after
  pub awaited : IsTrue call.before.steady → (call.after.due ≡ Some []) × OfDialogue (apart call) (IsAwaited call)

-- the cause of each failure; no other comes
abbrev pub HasCause : {C : Type 0} → Call C → Failure → Type 0
HasCause call (Stalled before after) = IsStalled call before after
HasCause call failure = landed.HasCause (apart call) failure
