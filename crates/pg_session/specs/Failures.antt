-- How a session that was opened ends in an error.
use Rattle.std.specs.Prelude.{◌≡◌, ◌⊎◌, ◌<◌, ◌≤◌, ◌+◌, ◌^◌, ℕ, Bool, true, false, IsTrue, List, length, Option, Some, Result, Err}
use Rattle.futures.specs.declared.task.Poll.{Poll}
use Rattle.futures.specs.declared.task.Poll.TheVariants.{Ready}
use Rattle.pg_promises.specs.Causes.{NeedsNoTls}
use Rattle.pg_spec.specs.Links.{LinkView, Rose, next_count}
use Rattle.pg_spec.specs.Settings.{Settings}
use Rattle.pg_spec.specs.Startup.{plain_login}
use Rattle.pg_connect.specs.Answers.{IsWithinPoll, PollAnswers}
use Rattle.pg_connect.specs.Calm.{MissesFew, MissesOne, StaysCalm}
use Rattle.pg_wire.specs.LinkCalls.{Keeps, SameBytes, SameWriting}
use Rattle.pg_startup.specs.Startups.{Opened, Opening}
use Rattle.pg_startup.specs.StartupPolls.{IsFresh, GoesOn}
use Rattle.pg_startup.specs.declared.startup.Startup.{Startup}
use Rattle.pg_connect.specs.declared.streams.Streams.{Streams}
use Rattle.pg_errors.specs.declared.async_message.AsyncMessage.{AsyncMessage}
use Rattle.pg_types.specs.declared.cause.Cause.TheVariants as cause
use Rattle.pg_types.specs.declared.error.Error.{Error}
use Rattle.pg_types.specs.declared.error.Error.TheVariants as error
use Rattle.pg_hub.specs.Fits.{HubBecomes}
use Rattle.pg_hub.specs.Standing.{Standing}
use Rattle.pg_session.specs.Sessions.{IsNewSession, MakesAll, Plays, Rests, StaysAll, numbers}
use Rattle.pg_session.specs.Speeches.{Speech}
use Rattle.pg_session.specs.States.{SessionState}

-- a poll of the connection failed
pub record PollFails {T A E : Type 0} (s : SessionState T A E) (before after : LinkView) (e : Error) : Type 0 where
  pub hub : Standing
  pub streams : Streams
  pub polled : PollAnswers HubBecomes s.hub hub s.streams streams before after (Ready (Some (Err e)))
  pub kept : s.streams.ended ≡ false → IsWithinPoll streams (Ready (Some (Err e)))

-- a poll answered no error
abbrev pub IsFine : Poll (Option (Result AsyncMessage Error)) → Type 0
IsFine (Ready (Some (Err e))) = ⊥
IsFine answer = Unit {0}

-- the connection was polled, and what it answered wasn't noted
pub record WasPolled {T A E : Type 0} (s : SessionState T A E) (before after : LinkView) : Type 0 where
  pub hub : Standing
  pub streams : Streams
  pub answer : Poll (Option (Result AsyncMessage Error))
  pub polled : PollAnswers HubBecomes s.hub hub s.streams streams before after answer
  pub misses : MissesFew before after
  pub fine : IsFine answer

-- Memory lacked in a turn: in a handle's, which crosses no link, or behind a poll of the connection.
pub record LacksMemory {T A E : Type 0} (s : SessionState T A E) (before after : LinkView) (e : Error) : Type 0 where
  pub memory : e ≡ error.OutOfMemory
  pub crossed : (after ≡ before) ⊎ WasPolled s before after

-- why a turn failed
abbrev pub TurnFails : {T A E : Type 0} → SessionState T A E → (before after : LinkView) → Error → Type 0
TurnFails s before after e = LacksMemory s before after e ⊎ PollFails s before after e

-- The link was waited for in vain: that is a lull, and one more call that wasn't ready.
pub record WaitsInVain (before after : LinkView) : Type 0 where
  pub lulls : Rose before.lulls after.lulls
  pub quiet : after.quiet ≡ next_count before.quiet
  pub rests : Rests before after

-- Nothing moved in a round or a poll, and the link was waited for in vain, or the round came behind a wait already.
abbrev pub GivesUp : (waited : Bool) → (before after : LinkView) → Type 0
GivesUp waited before after = WaitsInVain before after ⊎ ((waited ≡ true) × (after ≡ before))

-- Why a pause of the link failed, behind a round or a poll in which nothing moved and its count of calls that weren't
-- ready went from one number to another.
abbrev pub PauseFails : (from to : ℕ) → (waited : Bool) → (before after : LinkView) → Error → Type 0
PauseFails from to waited before after (error.Stalled a b) = (a ≡ from) × (b ≡ to) × GivesUp waited before after
PauseFails from to waited before after (error.Io cause.Link) = Rose before.faults after.faults
PauseFails from to waited before after _ = ⊥

-- A poll of the startup moved nothing, and the pause behind it failed. The poll came behind a wait, or not; up to its end
-- no call was a lull on a steady link.
pub record StopsOpening (settings : Settings) (nonce : List ℕ) (begin now : LinkView) (s : Startup) (e : Error) : Type 0 where
  pub no_tls : NeedsNoTls settings
  pub link : LinkView
  pub keeps : Keeps begin link
  pub polled : LinkView
  pub opening : Opening (plain_login settings nonce) 0 begin polled s
  pub within : s.bytes.given ≤ s.bytes.max_bytes
  pub goes_on : GoesOn s link polled
  pub misses : MissesOne link polled
  pub calm : StaysCalm begin polled
  pub unmoved : s.bytes.moved ≡ false
  pub waited : Bool
  pub promised : waited ≡ true → IsTrue link.promised
  pub fails : PauseFails link.quiet polled.quiet waited polled now e

-- Some turns were made, in which the bytes that came are counted by 64 bits, and memory lacked in the next one.
pub record RunsShort {C T A E : Type 0} (speech : Speech C T A E) (scripts : List (List C)) (s : SessionState T A E) (l m : LinkView) (e : Error) : Type 0 where
  pub turns : List ℕ
  pub state : SessionState T A E
  pub link : LinkView
  pub before : MakesAll speech scripts turns s l state link
  pub counted : state.streams.given < 2 ^ 64
  pub lacks : LacksMemory state link m e

-- some turns were made, in which the bytes that came are counted by 64 bits, and the next one failed
pub record BreaksOff {C T A E : Type 0} (speech : Speech C T A E) (scripts : List (List C)) (s : SessionState T A E) (l m : LinkView) (e : Error) : Type 0 where
  pub turns : List ℕ
  pub state : SessionState T A E
  pub link : LinkView
  pub before : MakesAll speech scripts turns s l state link
  pub counted : state.streams.given < 2 ^ 64
  pub fails : PollFails state link m e

-- Some turns were made, and then a whole round in which nothing moved, and the pause behind it failed. The round came
-- behind a wait, or not; up to its end no call was a lull on a steady link, and the bytes that came are counted by 64 bits.
pub record GivesOut {C T A E : Type 0} (speech : Speech C T A E) (scripts : List (List C)) (s : SessionState T A E) (l m : LinkView) (e : Error) : Type 0 where
  pub turns : List ℕ
  pub state : SessionState T A E
  pub link : LinkView
  pub before : MakesAll speech scripts turns s l state link
  pub last : SessionState T A E
  pub passed : LinkView
  pub round : StaysAll speech scripts (numbers (length scripts + 1)) state link last passed
  pub calm : StaysCalm l passed
  pub within : last.streams.given ≤ last.streams.max_bytes
  pub counted : last.streams.given < 2 ^ 64
  pub bytes : SameBytes passed m
  pub writing : SameWriting passed m
  pub waited : Bool
  pub promised : waited ≡ true → IsTrue link.promised
  pub fails : PauseFails link.quiet passed.quiet waited passed m e

-- why a session that was opened failed
abbrev pub HasFailed : {C T A E : Type 0} → Speech C T A E → List (List C) → SessionState T A E → (before after : LinkView) → Error → Type 0
HasFailed speech scripts s l m e = RunsShort speech scripts s l m e ⊎ (BreaksOff speech scripts s l m e ⊎ GivesOut speech scripts s l m e)

-- a whole session: no TLS is required, it was opened by these settings, and failed behind its startup
pub record HasBroken {C T A E : Type 0} (speech : Speech C T A E) (settings : Settings) (nonce : List ℕ) (scripts : List (List C)) (before after : LinkView) (e : Error) : Type 0 where
  pub no_tls : NeedsNoTls settings
  pub startup : Startup
  pub link : LinkView
  pub opened : Opened (plain_login settings nonce) 0 before link startup
  pub calm : StaysCalm before link
  pub opening : List ℕ
  pub new : SessionState T A E
  pub fresh : IsFresh startup opening new.streams
  pub is_new : IsNewSession speech scripts new
  pub fails : HasFailed speech scripts new link after e

-- a session that was opened, and made no turn
pub record WasOpened (settings : Settings) (nonce : List ℕ) (before after : LinkView) : Type 0 where
  pub no_tls : NeedsNoTls settings
  pub startup : Startup
  pub opened : Opened (plain_login settings nonce) 0 before after startup

-- a session that was opened and played to its end, in which the bytes that came are counted by 64 bits, and wasn't reported
pub record WasOver {C T A E : Type 0} (speech : Speech C T A E) (settings : Settings) (nonce : List ℕ) (scripts : List (List C)) (before after : LinkView) : Type 0 where
  pub no_tls : NeedsNoTls settings
  pub startup : Startup
  pub link : LinkView
  pub opened : Opened (plain_login settings nonce) 0 before link startup
  pub opening : List ℕ
  pub new : SessionState T A E
  pub fresh : IsFresh startup opening new.streams
  pub is_new : IsNewSession speech scripts new
  pub given : List ℕ
  pub last : SessionState T A E
  pub plays : Plays speech scripts given new link last after
  pub counted : last.streams.given < 2 ^ 64
