-- A whole session, whatever its commands are: the startup, the turns one after another, and the report.
use Rattle.std.specs.Prelude.{◌≡◌, ◌<◌, ◌≤◌, ◌+◌, ◌^◌, ◌⊎◌, ℕ, zero, suc, true, false, List, [], ◌∷◌, ◌++◌, length, Some}
use Rattle.pg_promises.specs.Causes.{NeedsNoTls}
use Rattle.pg_spec.specs.Links.{LinkView}
use Rattle.pg_spec.specs.Settings.{Settings}
use Rattle.pg_spec.specs.Startup.{plain_login}
use Rattle.pg_wire.specs.LinkCalls.{SameBytes, SameWriting, Keeps}
use Rattle.pg_desk.specs.History.{start, IsFrontOf}
use Rattle.pg_promises.specs.Endings.{Report}
use Rattle.pg_hub.specs.Fits.{Fits}
use Rattle.pg_hub.specs.Standing.{Standing}
use Rattle.pg_startup.specs.Startups.{Opened}
use Rattle.pg_startup.specs.StartupPolls.{IsFresh}
use Rattle.pg_startup.specs.declared.startup.Startup.{Startup}
use Rattle.pg_session.specs.Reports.{Reports}
use Rattle.pg_session.specs.Speeches.{Speech}
use Rattle.pg_session.specs.States.{SessionState, new_handles, commands_in}
use Rattle.pg_session.specs.Turns.{Closes, Makes, Turns}

-- between two turns the link may be waited for
pub record Rests (before after : LinkView) : Type 0 where
  pub bytes : SameBytes before after
  pub writing : SameWriting before after
  pub keeps : Keeps before after

-- these turns were made one after another, and the connection wasn't shut down in any of them
abbrev pub MakesAll : {C T A E : Type 0} → Speech C T A E → List (List C) → (turns : List ℕ) → SessionState T A E → LinkView → SessionState T A E → LinkView → Type 0
MakesAll speech scripts [] s l t m = (t ≡ s) × Rests l m
MakesAll {C} {T} {A} {E} speech scripts (turn ∷ turns) s l t m =
    (rested : LinkView) × (mid : SessionState T A E) × (passed : LinkView)
    × Rests l rested × Makes speech scripts turn s mid rested passed false × MakesAll speech scripts turns mid passed t m

-- The same, with nothing between two turns, and in none of them anything moved.
abbrev pub StaysAll : {C T A E : Type 0} → Speech C T A E → List (List C) → (turns : List ℕ) → SessionState T A E → LinkView → SessionState T A E → LinkView → Type 0
StaysAll speech scripts [] s l t m = (t ≡ s) × (m ≡ l)
StaysAll {C} {T} {A} {E} speech scripts (turn ∷ turns) s l t m =
    (mid : SessionState T A E) × (passed : LinkView) × Turns speech scripts turn s mid l passed (Some false) × StaysAll speech scripts turns mid passed t m

-- these turns, and the connection was shut down in one more behind them
pub record EndsWith {C T A E : Type 0} (speech : Speech C T A E) (scripts : List (List C)) (turns : List ℕ) (last : ℕ) (s : SessionState T A E) (l : LinkView) (t : SessionState T A E) (m : LinkView) : Type 0 where
  pub state : SessionState T A E
  pub link : LinkView
  pub before : MakesAll speech scripts turns s l state link
  pub over : Makes speech scripts last state t link m true

-- the numbers below n, in order
abbrev pub numbers : ℕ → List ℕ
numbers zero = []
numbers (suc n) = numbers n ++ n ∷ []

-- whole rounds: each handle in order, and then the connection
abbrev pub rounds : (handles count : ℕ) → List ℕ
rounds handles zero = []
rounds handles (suc n) = rounds handles n ++ numbers (handles + 1)

-- the turns that were given, all of them, and then whole rounds and a front of one more
pub record InRounds (given : List ℕ) (handles : ℕ) (turns : List ℕ) (last : ℕ) : Type 0 where
  pub count : ℕ
  pub whole : turns ≡ given ++ rounds handles count ++ numbers last
  pub within : last ≤ handles

-- the turns in their order, the last of which is told apart: a front of those given, or rounds behind them
abbrev pub InOrder : (given : List ℕ) (handles : ℕ) (turns : List ℕ) (last : ℕ) → Type 0
InOrder given handles turns last = IsFrontOf (turns ++ last ∷ []) given ⊎ InRounds given handles turns last

-- the session was played from here to its end
pub record Plays {C T A E : Type 0} (speech : Speech C T A E) (scripts : List (List C)) (given : List ℕ) (s : SessionState T A E) (l : LinkView) (t : SessionState T A E) (m : LinkView) : Type 0 where
  pub turns : List ℕ
  pub last : ℕ
  pub order : InOrder given (length scripts) turns last
  pub ends : EndsWith speech scripts turns last s l t m

-- a session before its first turn
pub record IsNewSession {C T A E : Type 0} (speech : Speech C T A E) (scripts : List (List C)) (s : SessionState T A E) : Type 0 where
  pub hub : Standing
  pub new : Fits (start 0 0) hub
  pub closes : Closes (commands_in scripts) hub s.hub
  pub handles : s.handles ≡ new_handles speech.begins scripts
  pub unanswered : s.unanswered ≡ commands_in scripts
  pub trace : s.trace ≡ []
  pub asynchronous : s.asynchronous ≡ []

-- A whole session: no TLS is required, it was opened by these settings, and played from there to its end, and this is its
-- report. The link gave no more bytes in it than it may, and they are counted by 64 bits.
pub record HasPlayed {C T A E : Type 0} (speech : Speech C T A E) (settings : Settings) (nonce : List ℕ) (scripts : List (List C)) (given : List ℕ) (before after : LinkView) (report : Report A) : Type 0 where
  pub no_tls : NeedsNoTls settings
  pub startup : Startup
  pub link : LinkView
  pub opened : Opened (plain_login settings nonce) 0 before link startup
  pub opening : List ℕ
  pub new : SessionState T A E
  pub fresh : IsFresh startup opening new.streams
  pub is_new : IsNewSession speech scripts new
  pub last : SessionState T A E
  pub plays : Plays speech scripts given new link last after
  pub reports : Reports opening (startup.process_id, startup.secret_key) last report
  pub counted : last.streams.given < 2 ^ 64
  pub within : last.streams.given ≤ startup.bytes.max_bytes
