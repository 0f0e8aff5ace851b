-- How a connection is opened, from a link and a connector to a connection behind its startup, or to an error (PostgreSQL
-- documentation, "Start-up" and "SSL Session Encryption" of the message flow).
use Rattle.std.specs.Prelude.{◌≡◌, ◌⊎◌, ℕ, zero, suc, ◌||◌, Bool, true, false, IsTrue, IsFalse, IsSome, List, [], ◌++◌, Option, None, Some, MatchOption, Result, Ok, Err, nat_lt}
use Rattle.pg_spec.specs.Frames.{ssl_request}
use Rattle.pg_spec.specs.Links.{LinkView}
use Rattle.pg_spec.specs.Passwords.{is_nonce}
use Rattle.pg_spec.specs.Settings.{Settings}
use Rattle.pg_spec.specs.Startup.{Login}
use Rattle.futures.specs.declared.task.Poll.{Poll}
use Rattle.futures.specs.declared.task.Poll.TheVariants.{Ready, Pending}
use Rattle.pg_config.specs.Views.{settings_of}
use Rattle.pg_wire.specs.LinkCalls.{Keeps, WaitAnswers}
use Rattle.pg_wire.specs.declared.link.LinkWait.{LinkWait}
use Rattle.pg_types.specs.declared.cause.Cause.{Cause}
use Rattle.pg_types.specs.declared.cause.Cause.TheVariants as cause
use Rattle.pg_types.specs.declared.error.Error.{Error}
use Rattle.pg_types.specs.declared.error.Error.TheVariants as error
use Rattle.pg_startup.specs.Steps.{Made, frame_of}
use Rattle.pg_connect.specs.Calm.{MissesOne, StaysCalm}
use Rattle.pg_startup.specs.StartupPolls.{GoesOn, IsFresh, IsNearer}
use Rattle.pg_startup.specs.Startups as startups
use Rattle.pg_startup.specs.declared.startup.Startup.{Startup}
use Rattle.pg_open.specs.Links.{binding_of, view_of}
use Rattle.pg_open.specs.declared.maybe_tls.MaybeTls.{MaybeTls}
use Rattle.pg_open.specs.declared.maybe_tls.MaybeTls.TheVariants as maybe
use Rattle.pg_open.specs.Choosing.{IsChosen, Known, StandsAt, TlsFails, Waits, WaitsOn, known, quiet_of}
use Rattle.pg_open.specs.declared.cancel_stages.SessionInfo.{SessionInfo}
use Rattle.pg_open.specs.declared.open_stages.OpenSettings.{OpenSettings}
use Rattle.pg_open.specs.declared.open_stages.OpenStage.{OpenStage}
use Rattle.pg_open.specs.declared.open_stages.OpenStage.TheVariants.{Fresh, Choosing, Starting, Over}
use Rattle.pg_open.specs.declared.open_stages.Opened.{Opened}
use Rattle.pg_open.specs.declared.open_stages.Starting.{Starting as Setup}
use Rattle.pg_open.specs.declared.stages.Stage.{Stage}
use Rattle.pg_open.specs.declared.stages.Stage.TheVariants as choosing
use Rattle.pg_open.specs.declared.stages.TlsSettings.{TlsSettings}

-- ---- what it is opened by

-- whether a startup may begin with these settings and this nonce; or the first reason why not: no user, or a nonce out of form
abbrev pub MayStart : Settings → (nonce : List ℕ) → Result (Unit {0}) Cause → Type 0
MayStart s nonce (Ok x) = IsSome s.user × IsTrue (is_nonce nonce)
MayStart s nonce (Err cause.NoUser) = s.user ≡ None
MayStart s nonce (Err cause.Nonce) = IsSome s.user × IsFalse (is_nonce nonce)
MayStart s nonce (Err other) = ⊥

-- by what the choice of TLS is made
abbrev pub tls_settings : OpenSettings → TlsSettings
tls_settings want = record { mode = want.config.now.ssl_mode; negotiation = want.config.now.ssl_negotiation; has_hostname = want.has_hostname; max_bytes = want.max_bytes }

-- a startup may begin
abbrev pub CanStart : OpenSettings → Type 0
CanStart want = MayStart (settings_of want.config.now) want.nonce.now (Ok tt)

-- it is refused before any byte
abbrev pub IsRefusedFirst : OpenSettings → Error → Type 0
IsRefusedFirst want (error.Config why) = MayStart (settings_of want.config.now) want.nonce.now (Err why)
IsRefusedFirst want e = ⊥

-- the login, whose channel can be bound by this
abbrev pub login_by : OpenSettings → (channel : Option (List ℕ)) → Login
login_by want channel = record { settings = settings_of want.config.now; nonce = want.nonce.now; channel = channel }

-- what is known of the session
abbrev pub info_of : OpenSettings → Startup → SessionInfo
info_of want s = record { process_id = s.process_id; secret_key = s.secret_key; ssl_mode = want.config.now.ssl_mode; ssl_negotiation = want.config.now.ssl_negotiation }

-- what is sent before a startup, where the link gave so many bytes before it: the SSLRequest, if the server was asked
abbrev pub sent_before : (asked : ℕ) → List ℕ
sent_before zero = []
sent_before (suc n) = ssl_request

-- What is handed out behind a startup: by what the session can be cancelled, all that was sent, and a connection that goes on
-- with what the startup left.
pub record HandsOut {L T F S E : Type 0} (want : OpenSettings) (s : Startup) (asked : ℕ) (opened : Opened L T F S E) : Type 0 where
  pub info : opened.info ≡ info_of want s
  pub sent : opened.sent ≡ sent_before asked ++ s.opening.items
  pub streams : IsFresh s s.opening.items opened.connection.streams

-- what follows a startup that is done: all is handed out over this link or stream, or memory lacks and that is left
abbrev pub Finishes : {L T F S E : Type 0} → OpenSettings → Startup → (asked : ℕ) → MaybeTls L S → OpenStage L T F S E → Poll (Result (Opened L T F S E) Error) → Type 0
Finishes want s asked link stage (Ready (Ok opened)) = HandsOut want s asked opened × (opened.connection.link ≡ link)
Finishes want s asked link stage (Ready (Err e)) = (e ≡ error.OutOfMemory) × (stage ≡ Over (Some link))
Finishes want s asked link stage Pending = ⊥

-- ---- what stands outside

-- What is known of links, connectors and handshakes, and of streams: what they mean, and what a login can be bound by.
pub record Outside (L T F S E : Type 0) : Type 1 where
  pub tls : Known L T F S E
  pub stream : S → LinkView
  pub binding : S → Option (List ℕ)

-- the same, by its parts
abbrev pub outside : {L T F S E : Type 0} → (L → LinkView) → (T → Bool) → (T → L → F → Type 0) → (F → F → Poll (Result S E) → Type 0) → (S → LinkView) → (S → Option (List ℕ)) → Outside L T F S E
outside view connects begins polled stream binding = record { tls = known view connects begins polled; stream = stream; binding = binding }

-- before the first poll of a choice
abbrev pub is_first : {L T F S E : Type 0} → Stage L T F S E → Bool
is_first (choosing.Fresh link tls) = true
is_first stage = false

-- what a link or a stream means
abbrev pub seen : {L T F S E : Type 0} → Outside L T F S E → MaybeTls L S → LinkView
seen o = view_of o.tls.view o.stream

-- the login over a link or a stream
abbrev pub login_over : {L T F S E : Type 0} → Outside L T F S E → OpenSettings → MaybeTls L S → Login
login_over o want from = login_by want (binding_of o.binding from)

-- something moved in the poll in which the choice gave this: a byte of the link, or a handshake that was polled
abbrev pub moved_before : {L S : Type 0} → (asked : ℕ) → MaybeTls L S → Bool
moved_before asked (maybe.Raw link) = nat_lt 0 asked
moved_before asked (maybe.Tls stream) = true

-- ---- where it stands

-- less is left of a startup to be done, where something moved, and never more
abbrev pub LeavesLess : {L T F S E : Type 0} → (before : Startup) → (new : OpenStage L T F S E) → Type 0
LeavesLess before (Starting s) = IsNearer before s.startup
LeavesLess before stage = ⊥

module _ {L T F S E : Type 0} (o : Outside L T F S E) (want : OpenSettings) (link : L) (tls : T) where
  -- A startup may begin, and the choice of TLS gave this link or stream; the link had given so many bytes.
  pub record IsReached (asked : ℕ) (from : MaybeTls L S) : Type 0 where
    pub may : CanStart want
    pub chosen : IsChosen o.tls (tls_settings want) link tls asked from

  -- The startup goes on over what the choice gave, under the limit that was set.
  pub record IsStarting (from now : MaybeTls L S) (s : Startup) (asked : ℕ) : Type 0 where
    pub reached : IsReached asked from
    pub limit : s.bytes.max_bytes ≡ want.max_bytes
    pub opening : startups.Opening (login_over o want from) asked (seen o from) (seen o now) s

  -- where it stands
  abbrev pub OpenStands : OpenStage L T F S E → Type 0
  OpenStands (Fresh now connector) = (now ≡ link) × (connector ≡ tls)
  OpenStands (Choosing choice) = CanStart want × (choice.settings ≡ tls_settings want)
      × StandsAt o.tls (tls_settings want) link tls choice.asked choice.stage
  OpenStands (Starting s) = (from : MaybeTls L S) × IsStarting from s.link s.startup s.asked
  OpenStands (Over left) = ⊥

  -- ---- what a poll answers

  -- The startup over what the choice gave is done. The connection goes on over it with all that the startup left.
  pub record WasOpened (opened : Opened L T F S E) : Type 0 where
    pub asked : ℕ
    pub from : MaybeTls L S
    pub reached : IsReached asked from
    pub startup : Startup
    pub limit : startup.bytes.max_bytes ≡ want.max_bytes
    pub done : startups.Opened (login_over o want from) asked (seen o from) (seen o opened.connection.link) startup
    pub hands_out : HandsOut want startup asked opened

  -- The startup frame can't be written. Nothing crossed what the choice gave.
  pub record IsNotWritten (from : MaybeTls L S) (e : Error) : Type 0 where
    pub asked : ℕ
    pub reached : IsReached asked from
    pub made : Made (frame_of (settings_of want.config.now)) (Err e)

  -- The startup failed.
  pub record StartFails (now : MaybeTls L S) (e : Error) : Type 0 where
    pub asked : ℕ
    pub from : MaybeTls L S
    pub reached : IsReached asked from
    pub startup : Startup
    pub limit : startup.bytes.max_bytes ≡ want.max_bytes
    pub failed : startups.Failed (login_over o want from) asked (seen o from) (seen o now) startup e

  -- Why there is no connection: it was refused before any byte, or the choice of TLS or the startup failed. But for a
  -- handshake, the link or stream is left as it was then.
  abbrev pub OpenFails : OpenStage L T F S E → Error → Type 0
  OpenFails (Fresh now connector) e = (now ≡ link) × (connector ≡ tls) × IsRefusedFirst want e
  OpenFails (Choosing choice) e = CanStart want × TlsFails o.tls (tls_settings want) link tls choice.asked choice.stage e
  OpenFails (Starting s) e = ⊥
  OpenFails (Over left) e = MatchOption left ⊥ (λ now. IsNotWritten now e ⊎ StartFails now e)

  -- The startup goes on: a call wasn't ready since the link or stream stood so, at most one, and on a steady one none was a lull.
  -- `early`: something had moved in the poll before.
  abbrev pub StartsOn : (from before : MaybeTls L S) → (asked : ℕ) → (early moved : Bool) → OpenStage L T F S E → Type 0
  StartsOn from before asked early moved (Starting s) = IsStarting from s.link s.startup asked × (s.asked ≡ asked) × (moved ≡ (early || s.startup.bytes.moved))
      × GoesOn s.startup (seen o before) (seen o s.link) × StaysCalm (seen o before) (seen o s.link) × MissesOne (seen o before) (seen o s.link)
  StartsOn from before asked early moved stage = ⊥

  -- A poll goes on: the choice of TLS or the startup does, with less left where something moved. Where the choice was made in this
  -- poll, a call of what it gave wasn't ready since.
  abbrev pub OpenGoesOn : (moved : Bool) → (old new : OpenStage L T F S E) → Type 0
  OpenGoesOn moved (Starting before) new = (from : MaybeTls L S) × StartsOn from before.link before.asked false moved new × LeavesLess before.startup new
  OpenGoesOn moved (Fresh now connector) (Choosing choice) = OpenStands (Choosing choice) × (moved ≡ choice.moved) × WaitsOn o.tls choice.moved (choosing.Fresh now connector) choice.stage
  OpenGoesOn moved (Choosing before) (Choosing choice) = OpenStands (Choosing choice) × (moved ≡ choice.moved) × WaitsOn o.tls choice.moved before.stage choice.stage
  OpenGoesOn moved (Fresh now connector) (Starting s) = (from : MaybeTls L S) × StartsOn from from s.asked (moved_before s.asked from) moved (Starting s)
  OpenGoesOn moved (Choosing before) (Starting s) = (from : MaybeTls L S) × StartsOn from from s.asked (moved_before s.asked from) moved (Starting s)
  OpenGoesOn moved old new = ⊥

  -- what a poll answers: the connection, why there is none, or that it goes on
  abbrev pub OpenAnswers : (moved : Bool) → (old new : OpenStage L T F S E) → Poll (Result (Opened L T F S E) Error) → Type 0
  OpenAnswers moved old new (Ready (Ok opened)) = WasOpened opened
  OpenAnswers moved old new (Ready (Err e)) = OpenFails new e
  OpenAnswers moved old new Pending = OpenGoesOn moved old new

  -- what it answers from the startup on
  abbrev pub StartAnswers : (from before : MaybeTls L S) → (asked : ℕ) → (early moved : Bool) → (new : OpenStage L T F S E) → Poll (Result (Opened L T F S E) Error) → Type 0
  StartAnswers from before asked early moved new (Ready (Ok opened)) = WasOpened opened
  StartAnswers from before asked early moved new (Ready (Err e)) = OpenFails new e
  StartAnswers from before asked early moved new Pending = StartsOn from before asked early moved new

-- it was begun with some link and some connector, and hasn't answered
abbrev pub IsOpening : {L T F S E : Type 0} → Outside L T F S E → OpenSettings → OpenStage L T F S E → Type 0
IsOpening {L} {T} o want stage = (link : L) × (tls : T) × OpenStands o want link tls stage

-- the choice was made, from some link and some connector
abbrev pub WasReached : {L T F S E : Type 0} → Outside L T F S E → OpenSettings → (asked : ℕ) → MaybeTls L S → Type 0
WasReached {L} {T} o want asked from = (link : L) × (tls : T) × IsReached o want link tls asked from

-- a startup goes on over what the choice gave
abbrev pub WasGoing : {L T F S E : Type 0} → Outside L T F S E → OpenSettings → Setup (MaybeTls L S) → Type 0
WasGoing {L} {T} {F} {S} o want s = (link : L) × (tls : T) × (from : MaybeTls L S) × IsStarting o want link tls from s.link s.startup s.asked

-- what a poll answers from the startup on, whatever the choice gave
abbrev pub GoesOnFrom : {L T F S E : Type 0} → Outside L T F S E → OpenSettings → L → T → Setup (MaybeTls L S) → (early moved : Bool) → (new : OpenStage L T F S E) → Poll (Result (Opened L T F S E) Error) → Type 0
GoesOnFrom {L} {T} {F} {S} o want link tls s early moved new answer = (from : MaybeTls L S) → IsStarting o want link tls from s.link s.startup s.asked →
    StartAnswers o want link tls from s.link s.asked early moved new answer

-- nothing was asked of the link
abbrev pub is_untouched : {L T F S E : Type 0} → OpenStage L T F S E → Bool
is_untouched (Fresh link tls) = true
is_untouched (Choosing choice) = is_first choice.stage
is_untouched stage = false

-- it stands as before, unless nothing was asked of the link
abbrev pub OpenStays : {L T F S E : Type 0} → Outside L T F S E → OpenSettings → (old new : OpenStage L T F S E) → Type 0
OpenStays {L} {T} o want old new = is_untouched old ≡ false → (link : L) (tls : T) → OpenStands o want link tls old → OpenStands o want link tls new

-- what a wait answers and does
abbrev pub OpenIdles : {L T F S E : Type 0} → Outside L T F S E → (old new : OpenStage L T F S E) → LinkWait → Type 0
OpenIdles {L} o (Fresh link tls) new answer = (now : L) × (new ≡ Fresh now tls) × WaitAnswers (o.tls.view link) (o.tls.view now) answer × Keeps (o.tls.view link) (o.tls.view now)
OpenIdles o (Choosing before) (Choosing choice) answer = (choice ≡ record before { stage = choice.stage }) × Waits o.tls.view before.stage choice.stage answer
OpenIdles o (Starting before) (Starting s) answer = (s.startup ≡ before.startup) × (s.asked ≡ before.asked)
    × WaitAnswers (seen o before.link) (seen o s.link) answer × Keeps (seen o before.link) (seen o s.link)
OpenIdles o old new answer = ⊥

-- how often a call of the link or stream wasn't ready; while a handshake has the link, how often before that
abbrev pub open_quiet : {L T F S E : Type 0} → Outside L T F S E → OpenStage L T F S E → Option ℕ
open_quiet o (Fresh link tls) = Some (o.tls.view link).quiet
open_quiet o (Choosing choice) = quiet_of o.tls.view choice.stage
open_quiet o (Starting s) = Some (seen o s.link).quiet
open_quiet o (Over left) = None
