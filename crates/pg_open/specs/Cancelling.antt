-- How a request of a session is cancelled (PostgreSQL documentation, "Canceling Requests in Progress" of the message flow).
use Rattle.std.specs.Prelude.{◌≡◌, ℕ, ◌^◌, ◌-◌, IsTrue, true, false, List, [], ◌++◌, MatchOption, Bool, Result, Ok, Err}
use Rattle.pg_spec.specs.Frames.{cancel_request}
use Rattle.pg_spec.specs.Links.{LinkView, Grew, Rose}
use Rattle.futures.specs.declared.task.Poll.{Poll}
use Rattle.futures.specs.declared.task.Poll.TheVariants.{Ready, Pending}
use Rattle.pg_wire.specs.LinkCalls.{Keeps, WaitAnswers}
use Rattle.pg_wire.specs.declared.link.LinkWait.{LinkWait}
use Rattle.pg_types.specs.declared.cause.Cause.TheVariants as cause
use Rattle.pg_types.specs.declared.error.Error.{Error}
use Rattle.pg_types.specs.declared.error.Error.TheVariants as error
use Rattle.pg_connect.specs.Ends.{IsFlushedFrom}
use Rattle.pg_startup.specs.Transfers.{IsFlushed}
use Rattle.pg_startup.specs.declared.transfer.Transfer.{Transfer}
use Rattle.pg_open.specs.declared.maybe_tls.MaybeTls.{MaybeTls}
use Rattle.pg_open.specs.Choosing.{Known, IsChosen, IsOpen, StandsAt, TlsFails, Waits, WaitsOn}
use Rattle.pg_open.specs.declared.cancel_stages.CancelStage.{CancelStage}
use Rattle.pg_open.specs.declared.cancel_stages.CancelStage.TheVariants.{Choosing, Sending, Over}
use Rattle.pg_open.specs.declared.cancel_stages.SessionInfo.{SessionInfo}
use Rattle.pg_open.specs.declared.stages.TlsSettings.{TlsSettings}

-- ---- bytes that are sent, behind which the writing side is ended

-- A front of what was unsent was taken, and nothing was given.
pub record Said (old new : Transfer) (before after : LinkView) : Type 0 where
  pub sent : List ℕ
  pub given : after.given ≡ before.given
  pub taken : Grew before.taken after.taken sent
  pub out : old.unsent.items ≡ sent ++ new.unsent.items
  pub flushed : IsFlushed old before → IsFlushed new after
  pub link : Keeps before after

-- how it ended: all was taken and passed on, and the writing side was ended behind it; the link wasn't ready; or it failed
abbrev pub SaidEnds : (old new : Transfer) (before after : LinkView) → Result Bool Error → Type 0
SaidEnds old new before after (Ok true) = (new.unsent.items ≡ []) × (IsFlushed old before → IsFlushedFrom before after) × IsTrue after.shut
SaidEnds old new before after (Ok false) = Rose before.quiet after.quiet × (after.shut ≡ before.shut)
SaidEnds old new before after (Err (error.Io cause.Link)) = Rose before.faults after.faults × (after.shut ≡ before.shut)
SaidEnds old new before after (Err error.OutOfMemory) = after.shut ≡ before.shut
SaidEnds old new before after (Err _) = ⊥

-- ---- the CancelRequest

-- by what the choice of TLS is made: as for the session, to a host that has a name
abbrev pub cancel_settings : SessionInfo → TlsSettings
cancel_settings info = record { mode = info.ssl_mode; negotiation = info.ssl_negotiation; has_hostname = true; max_bytes = 2 ^ 63 - 1 }

-- the frame
abbrev pub cancel_frame : SessionInfo → List ℕ
cancel_frame info = cancel_request info.process_id info.secret_key

-- A front of a frame was taken and nothing given. The writing side wasn't ended.
pub record Sends (frame : List ℕ) (begin now : LinkView) (unsent : List ℕ) : Type 0 where
  pub sent : List ℕ
  pub given : now.given ≡ begin.given
  pub taken : Grew begin.taken now.taken sent
  pub out : sent ++ unsent ≡ frame
  pub shut : now.shut ≡ begin.shut
  pub link : Keeps begin now

-- A frame was taken whole and passed on, and the writing side was ended behind it. Nothing was given.
pub record Sent (frame : List ℕ) (begin now : LinkView) : Type 0 where
  pub given : now.given ≡ begin.given
  pub taken : Grew begin.taken now.taken frame
  pub flushed : IsFlushedFrom begin now
  pub shut : IsTrue now.shut
  pub link : Keeps begin now

-- why it wasn't sent: a call failed, or memory lacked
abbrev pub SendFailsBy : (begin now : LinkView) → Error → Type 0
SendFailsBy begin now (error.Io cause.Link) = Rose begin.faults now.faults
SendFailsBy begin now error.OutOfMemory = Unit {0}
SendFailsBy begin now e = ⊥

module _ {L T F S E : Type 0} (k : Known L T F S E) (view : MaybeTls L S → LinkView) (info : SessionInfo) (link : L) (tls : T) where
  -- the choice was made, with this link or stream
  abbrev pub IsGiven : MaybeTls L S → Type 0
  IsGiven from = (asked : ℕ) × IsChosen k (cancel_settings info) link tls asked from

  -- The CancelRequest is being sent over what the choice gave.
  pub record IsUnderWay (now : MaybeTls L S) (bytes : Transfer) : Type 0 where
    pub from : MaybeTls L S
    pub given : IsGiven from
    pub sends : Sends (cancel_frame info) (view from) (view now) bytes.unsent.items
    pub flushed : IsFlushed bytes (view now)

  -- And some call wasn't ready since.
  pub record IsSending (now : MaybeTls L S) (bytes : Transfer) : Type 0 where
    pub under_way : IsUnderWay now bytes
    pub quiet : Rose (view under_way.from).quiet (view now).quiet

  -- where it stands
  abbrev pub CancelStands : CancelStage L T F S E → Type 0
  CancelStands (Choosing choice) = (choice.settings ≡ cancel_settings info) × StandsAt k (cancel_settings info) link tls choice.asked choice.stage
  CancelStands (Sending now bytes) = IsSending now bytes
  CancelStands (Over left) = ⊥

  -- The CancelRequest was sent.
  pub record WasSent (now : MaybeTls L S) : Type 0 where
    pub from : MaybeTls L S
    pub given : IsGiven from
    pub sent : Sent (cancel_frame info) (view from) (view now)

  -- A call of the link or stream failed, or memory lacked. A front of the CancelRequest was taken.
  pub record SendFails (now : MaybeTls L S) (e : Error) : Type 0 where
    pub from : MaybeTls L S
    pub given : IsGiven from
    pub unsent : List ℕ
    pub sends : Sends (cancel_frame info) (view from) (view now) unsent
    pub fails : SendFailsBy (view from) (view now) e

  -- what the link or stream is left as
  abbrev pub LeftWith : CancelStage L T F S E → (MaybeTls L S → Type 0) → Type 0
  LeftWith (Over left) P = MatchOption left ⊥ P
  LeftWith stage P = ⊥

  -- why it failed: the choice did, or the link or stream, or memory lacked
  abbrev pub CancelFails : CancelStage L T F S E → Error → Type 0
  CancelFails (Choosing choice) e = TlsFails k (cancel_settings info) link tls choice.asked choice.stage e
  CancelFails stage e = LeftWith stage (λ now. SendFails now e)

  -- what a poll answers
  abbrev pub CancelAnswers : CancelStage L T F S E → Poll (Result (Unit {0}) Error) → Type 0
  CancelAnswers stage (Ready (Ok x)) = LeftWith stage WasSent
  CancelAnswers stage (Ready (Err e)) = CancelFails stage e
  CancelAnswers stage Pending = CancelStands stage

-- it hasn't answered
abbrev pub IsStillOpen : {L T F S E : Type 0} → CancelStage L T F S E → Type 0
IsStillOpen (Choosing choice) = IsOpen choice.stage
IsStillOpen (Sending now bytes) = Unit {0}
IsStillOpen (Over left) = ⊥

module _ {L T F S E : Type 0} (k : Known L T F S E) (view : MaybeTls L S → LinkView) where
  -- A poll goes on as the choice of TLS does, or where a call of the link or stream wasn't ready in it. If the choice was made
  -- in this poll, that call came behind it.
  abbrev pub CancelWaits : (old new : CancelStage L T F S E) → Type 0
  CancelWaits (Choosing before) (Choosing choice) = WaitsOn k choice.moved before.stage choice.stage
  CancelWaits (Choosing before) (Sending now bytes) = Unit {0}
  CancelWaits (Sending before old) (Sending now bytes) = Rose (view before).quiet (view now).quiet
  CancelWaits old new = ⊥

-- the CancelRequest is being sent
abbrev pub IsOnlySending : {L T F S E : Type 0} → CancelStage L T F S E → Type 0
IsOnlySending (Sending now bytes) = Unit {0}
IsOnlySending stage = ⊥

-- what a wait answers and does
abbrev pub CancelIdles : {L T F S E : Type 0} → (L → LinkView) → (MaybeTls L S → LinkView) → (old new : CancelStage L T F S E) → LinkWait → Type 0
CancelIdles raw view (Choosing before) (Choosing choice) answer = (choice ≡ record before { stage = choice.stage }) × Waits raw before.stage choice.stage answer
CancelIdles raw view (Sending before bytes) (Sending now after) answer = (after ≡ bytes) × WaitAnswers (view before) (view now) answer × Keeps (view before) (view now)
CancelIdles raw view old new answer = ⊥
