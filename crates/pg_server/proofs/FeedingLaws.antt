-- Bytes behind those that were left.
use Rattle.std.proofs.Common.{◌≡◌, ℕ, ◌-◌, List, ◌++◌, Result, Ok, Err, refl, ap, subst, ◌∙◌, true, false, length, drop}
use Rattle.std.specs.Result.{is_err, OnOk}
use Rattle.pg_server.specs.declared.fault.ServerFault.{ServerFault}
use Rattle.pg_server.specs.declared.fault.ServerFault.TheVariants as faults
use Rattle.pg_server.specs.declared.session.Stage.{Stage}
use Rattle.pg_server.specs.declared.session.Stage.TheVariants.{Opening, Serves, Over}
use Rattle.pg_server.specs.Handlers.{Step}
use Rattle.pg_server.specs.Hearing.{Hears, said_to}
use Rattle.pg_server.specs.Servers.{Heard, Takes, Feeds, FeedsAt}
use Rattle.pg_server.specs.Settled.{is_settled}
use Rattle.pg_server.specs.Standings.{Standing}
use Rattle.pg_server.proofs.SettledLaws.{said-settled}

pub takes_fault : {S : Type 0} (step : Step S) (old new : Heard S) (last : Standing S) (all bytes out later : List ℕ) (fault : ServerFault) → all ≡ old.left ++ bytes →
    Hears step old.standing last all out later (Err fault) → Takes step old new bytes out later (Err fault)
takes_fault step old new last all bytes out later fault is hears =
    by_fault fault (subst (λ (b : List ℕ). Hears step old.standing last b out later (Err fault)) is hears)
  where
    by_fault : (fault : ServerFault) → Hears step old.standing last (old.left ++ bytes) out later (Err fault) → Takes step old new bytes out later (Err fault)
    by_fault faults.BadStartup h = h
    by_fault (faults.Version n) h = h
    by_fault faults.Cancel h = h
    by_fault (faults.BadFrame f) h = h
    by_fault (faults.BadEffect n) h = h
    by_fault faults.Ended h = h
    by_fault faults.OutOfMemory h = h

-- the bytes were added
pub added : {T E : Type 0} (r : Result T E) (P : Type 0) → OnOk r P → is_err r ≡ false → P
added (Ok x) P h e = h
added (Err x) P h e = absurd cc

-- it wasn't over, and is now
pub feeds_fault : {S : Type 0} (step : Step S) (old new : Heard S) (bytes out later : List ℕ) (fault : ServerFault) → (old.standing.stage ≡ Over → ⊥) → new.standing.stage ≡ Over →
    Takes step old new bytes out later (Err fault) → Feeds step old new bytes out later (Err fault)
feeds_fault step old new bytes out later fault live over takes = by_stage old.standing.stage live
  where
    by_stage : (stage : Stage) → (stage ≡ Over → ⊥) → FeedsAt step old new bytes out later (Err fault) stage
    by_stage Over live = absurd (live refl)
    by_stage Opening live = (takes, over)
    by_stage Serves live = (takes, over)

-- what is left can't be told yet
pub heard_settled : {S : Type 0} (step : Step S) (old new : Standing S) (all out later left : List ℕ) (n : ℕ) → Hears step old new all out later (Ok n) → left ≡ drop (length all - n) all →
    is_settled new.stage left ≡ true
heard_settled {S = S} step old new all out later left n (fits, none, said, next, behind) left_is =
    ap (λ (at : Standing S). is_settled at.stage left) next ∙ ap (is_settled (said_to step old all).next.stage) (left_is ∙ behind) ∙ said-settled step old all none
