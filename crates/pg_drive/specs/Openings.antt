-- How a connection is opened, by polls behind which its link is waited for as a line's is.
use Rattle.std.specs.Prelude.{◌≡◌, ◌⊎◌, ℕ, zero, suc, Bool, Some, Result, Ok, Err}
use Rattle.futures.specs.declared.task.Poll.{Poll}
use Rattle.futures.specs.declared.task.Poll.TheVariants.{Ready, Pending}
use Rattle.pg_types.specs.declared.error.Error.{Error}
use Rattle.pg_open.specs.Opening.{OpenFails, OpenGoesOn, OpenIdles, Outside, WasOpened, open_quiet}
use Rattle.pg_open.specs.declared.open_stages.Opened.{Opened}
use Rattle.pg_open.specs.declared.open_stages.OpenSettings.{OpenSettings}
use Rattle.pg_open.specs.declared.open_stages.OpenStage.{OpenStage}
use Rattle.pg_drive.specs.declared.line.Lull.{Lull}
use Rattle.pg_drive.specs.declared.line.Lull.TheVariants.{Moved}
use Rattle.pg_drive.specs.Lines.{PausesSo}

-- what comes behind a poll that goes on: where two in a row moved nothing, the link or stream is waited for
abbrev pub OpenPauses : {L T F S E : Type 0} → Outside L T F S E → Lull → (moved : Bool) → (from to : ℕ) → (old new : OpenStage L T F S E) → Result Lull Error → Type 0
OpenPauses o was moved from to old new next = PausesSo was moved from to (new ≡ old) (OpenIdles o old new) next

module _ {L T F S E : Type 0} (o : Outside L T F S E) (want : OpenSettings) (link : L) (tls : T) where
  -- A poll went on, and what came behind it ended so.
  pub record PollsOn (was : Lull) (a b : OpenStage L T F S E) (next : Result Lull Error) : Type 0 where
    pub mid : OpenStage L T F S E
    pub moved : Bool
    pub goes : OpenGoesOn o want link tls moved a mid
    pub from : ℕ
    pub from_is : open_quiet o a ≡ Some from
    pub to : ℕ
    pub to_is : open_quiet o mid ≡ Some to
    pub pause : OpenPauses o was moved from to mid b next

  -- how the last poll ended: the connection is opened; or opening it failed, or the link was waited for in vain
  abbrev pub OpenEnds : (was : Lull) (a b : OpenStage L T F S E) → Result (Opened L T F S E) Error → Type 0
  OpenEnds was a b (Ok opened) = WasOpened o want link tls opened
  OpenEnds was a b (Err e) = OpenFails o want link tls b e ⊎ PollsOn was a b (Err e)

  -- a poll and what came behind it, by what it answers
  abbrev pub OpenSteps : (was : Lull) (a : OpenStage L T F S E) (now : Lull) (b : OpenStage L T F S E) → Poll (Result (Opened L T F S E) Error) → Type 0
  OpenSteps was a now b Pending = PollsOn was a b (Ok now)
  OpenSteps was a now b (Ready r) = OpenEnds was a b r

  -- so many polls, which go on
  abbrev pub PollsBy : ℕ → (was : Lull) (a : OpenStage L T F S E) (now : Lull) (b : OpenStage L T F S E) → Type 0
  PollsBy zero was a now b = (now ≡ was) × (b ≡ a)
  PollsBy (suc n) was a now b = (prior : Lull) × (mid : OpenStage L T F S E) × PollsBy n was a prior mid × PollsOn prior mid b (Ok now)

  -- Some polls went on, and the last one ended so.
  pub record OpenRuns (a b : OpenStage L T F S E) (r : Result (Opened L T F S E) Error) : Type 0 where
    pub count : ℕ
    pub lull : Lull
    pub last : OpenStage L T F S E
    pub polls : PollsBy count Moved a lull last
    pub ends : OpenEnds lull last b r
