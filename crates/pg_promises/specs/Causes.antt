-- When a session may answer each failure.
use Rattle.std.specs.Prelude.{◌≡◌, ◌≢◌, ℕ, ◌+◌, ◌-◌, ◌^◌, ◌≤◌, ◌<◌, ◌⊎◌, take, IsTrue, IsFalse, List, [], ◌∷◌, length, count_by, Some, None, if◌then◌else◌, Result, Ok, Err, IsSome, slice_get, ◌==◌, ⊤}
use Rattle.std.specs.List.{concat}
use Rattle.std.specs.Str.{byte}
use Rattle.pg_config.specs.ConnectionStrings.{ConnectionStringMeans}
use Rattle.pg_promises.specs.ConnectionStrings.{Means}
use Rattle.pg_spec.specs.Asides.{AsideBreaks, AsideUnreadable, out_of_turn}
use Rattle.pg_spec.specs.Faults.{WireFault, BadLength, Cause, Link, Ended, Wire, Fields, NotText, Frame, NoUser, Nonce, NoPassword, Handshake, Method, Mechanism, BindingRequired, NotAscii, Scram, Failure, Io, UnexpectedMessage, Tls, Closed, Db, Parse, Encode, Authentication, ConfigParse, Config, Stalled, LimitReached, OutOfMemory}
use Rattle.pg_spec.specs.Faults as faults
use Rattle.pg_types.specs.declared.faults.WireFault.TheVariants as wire
use Rattle.pg_types.specs.declared.faults.FrameFault.TheVariants as frame
use Rattle.pg_types.specs.declared.cause.ScramFault.TheVariants as scram
use Rattle.pg_spec.specs.Frames.{ssl_request}
use Rattle.pg_spec.specs.Links.{LinkView, Rose, OfBytes, next_count}
use Rattle.pg_spec.specs.Passwords.{is_nonce}
use Rattle.pg_spec.specs.RawMessages.{RawMessage, messages, bytes_left, has_bad_header, groups, is_whole_group}
use Rattle.pg_spec.specs.Sent.{units, whole_units, said_terminate}
use Rattle.pg_spec.specs.Report.{Command}
use Rattle.pg_spec.specs.Settings.{Negotiation, Postgres, Direct, Settings, Require}
use Rattle.pg_spec.specs.Startup.{Startup, Done, Refused, More, startup, session_part}

-- what a session was asked, and its link before and after
pub record Call : Type 0 where
  pub config : List ℕ
  pub nonce : List ℕ
  pub scripts : List (List Command)
  pub turns : List ℕ
  pub limit : ℕ
  pub before : LinkView
  pub after : LinkView

-- the settings that the text says have P
abbrev pub WithSettings : Call → (Settings → Type 0) → Type 0
WithSettings call P = (s : Settings) × Means call.config s × P s

-- P of the settings, and of the bytes given and taken, where the link tells them
abbrev pub OfDialogue : Call → (Settings → List ℕ → List ℕ → Type 0) → Type 0
OfDialogue call P = WithSettings call (λ s. OfBytes call.before call.after (P s))

-- how the startup stands after the bytes given
abbrev pub startup_after : Call → Settings → List ℕ → Startup
startup_after call s g = startup s call.nonce (messages g)

-- no TLS is required, so the session goes over the link as it is
abbrev pub NeedsNoTls : Settings → Type 0
NeedsNoTls s = s.ssl_mode ≢ Require

-- these require none, and P of them and of the bytes given and taken, where the link tells them
abbrev pub OfPlainDialogue : Call → (Settings → List ℕ → List ℕ → Type 0) → Type 0
OfPlainDialogue call P = WithSettings call (λ s. NeedsNoTls s × OfBytes call.before call.after (P s))

-- TLS is required, and an SSLRequest asks for it
abbrev pub MustAskForTls : Settings → Type 0
MustAskForTls s = (s.ssl_mode ≡ Require) × (s.ssl_negotiation ≡ Postgres)

-- the startup ends so
abbrev pub InStartup : Failure → Call → Settings → List ℕ → Type 0
InStartup failure call s g = NeedsNoTls s × ((startup_after call s g).outcome ≡ Refused failure)

-- the messages behind the startup, once it is done
abbrev pub Behind : Call → Settings → List ℕ → (List RawMessage → Type 0) → Type 0
Behind call s g P = NeedsNoTls s × ((used : ℕ) × ((startup_after call s g).outcome ≡ Done used) × P (session_part s call.nonce (messages g)))

-- the message in front of group j came though at most j requests were sent, and means this failure
pub record OutOfTurn (failure : Failure) (taken : List ℕ) (later : List RawMessage) : Type 0 where
  pub before : ℕ
  pub group : List RawMessage
  pub first : RawMessage
  pub stands : slice_get (groups later) before ≡ Some (first ∷ group)
  pub unasked : length (units taken) ≤ before
  pub means : out_of_turn first ≡ failure

-- the input ended inside a message
abbrev pub EndsInside : List ℕ → Type 0
EndsInside g = (bytes_left g ≢ []) × IsFalse (has_bad_header (bytes_left g))

-- how many whole groups came
abbrev pub whole_groups : List RawMessage → ℕ
whole_groups later = count_by is_whole_group (groups later)

-- Nothing more can come: all that startup writes was taken, or a request was taken whole whose reply isn't.
abbrev pub IsAwaited : Call → Settings → List ℕ → List ℕ → Type 0
IsAwaited call s g t =
    (NeedsNoTls s × ((startup_after call s g).outcome ≡ More) × (t ≡ concat (startup_after call s g).frames))
    ⊎ (MustAskForTls s × (t ≡ ssl_request) × (g ≡ []))
    ⊎ Behind call s g (λ later. whole_groups later < whole_units t)

-- the link had nothing more to give, and what it was to answer was taken
pub record IsStalled (call : Call) (before after : ℕ) : Type 0 where
  pub lulls : Rose call.before.lulls call.after.lulls
  -- the two counts are the link's, in this call
  pub from : call.before.quiet ≤ before
  pub to : after ≤ call.after.quiet
  pub rose : Rose before after
  -- between them one read and at most one other call weren't ready; on a steady link the read alone
  pub round : (after ≤ before + 2) × (IsTrue call.before.steady → after ≤ before + 1)
  -- and behind them at most one call wasn't; on a steady link one
  pub last : call.after.quiet ≤ after + 1
  pub exact : IsTrue call.before.steady → call.before.lulls < 2 ^ 64 - 1 → call.after.quiet ≡ next_count after
  pub awaited : IsTrue call.before.steady → (call.after.due ≡ Some []) × OfDialogue call (IsAwaited call)

-- more bytes were given than the limit
pub record IsPastLimit (call : Call) (given limit : ℕ) : Type 0 where
  pub asked : limit ≡ call.limit
  pub more : limit < given
  pub counted : OfBytes call.before call.after (λ g t. length g ≡ given)

-- why TLS can't be had, over a connector that has none: it is begun at once, before any byte, or after the server's `S`,
-- which answers the SSLRequest, and fails; or the server's byte is another
abbrev pub NoTlsFor : Cause → Negotiation → (given taken : List ℕ) → Type 0
NoTlsFor cause Direct [] t = (cause ≡ Handshake) × (t ≡ [])
NoTlsFor cause Direct other t = ⊥
NoTlsFor cause Postgres (b ∷ []) t = (cause ≡ (if b == byte "S" then Handshake else faults.Refused)) × (t ≡ ssl_request)
NoTlsFor cause Postgres other t = ⊥

-- the causes that may stand in each failure, also over a link that tells no bytes: of TLS
abbrev pub IsOfTls : Cause → Type 0
IsOfTls faults.Refused = ⊤
IsOfTls Handshake = ⊤
IsOfTls other = ⊥

-- of a body; want of memory is never a cause
abbrev pub IsOfBody : Cause → Type 0
IsOfBody (Wire wire.OutOfMemory) = ⊥
IsOfBody (Wire fault) = ⊤
IsOfBody Fields = ⊤
IsOfBody NotText = ⊤
IsOfBody other = ⊥

-- of a login
abbrev pub IsOfLogin : Cause → Type 0
IsOfLogin Method = ⊤
IsOfLogin Mechanism = ⊤
IsOfLogin BindingRequired = ⊤
IsOfLogin NotAscii = ⊤
IsOfLogin (Scram scram.OutOfMemory) = ⊥
IsOfLogin (Scram fault) = ⊤
IsOfLogin other = ⊥

-- the cause of each failure; no other comes
abbrev pub HasCause : Call → Failure → Type 0
HasCause call (ConfigParse cause) = ConnectionStringMeans call.config (Err cause)
HasCause call (Config NoUser) = WithSettings call (λ s. s.user ≡ None)
HasCause call (Config Nonce) = WithSettings call (λ s. IsSome s.user) × IsFalse (is_nonce call.nonce)
HasCause call (Config NoPassword) = OfPlainDialogue call (λ s g t. InStartup (Config NoPassword) call s g)
HasCause call (Tls cause) = IsOfTls cause × WithSettings call (λ s. (s.ssl_mode ≡ Require)
    × (s.ssl_negotiation ≡ Postgres → IsFalse call.before.shut → IsTrue call.after.flushed)
    × OfBytes call.before call.after (λ g t. NoTlsFor cause s.ssl_negotiation g t))
HasCause call (Encode (Frame frame.OutOfMemory)) = ⊥
HasCause call (Encode (Frame fault)) = OfPlainDialogue call (λ s g t. InStartup (Encode (Frame fault)) call s g)
HasCause call (Authentication cause) = IsOfLogin cause × OfPlainDialogue call (λ s g t. InStartup (Authentication cause) call s g)
HasCause call (Db error) = OfPlainDialogue call (λ s g t. InStartup (Db error) call s g ⊎ Behind call s g (OutOfTurn (Db error) t))
HasCause call UnexpectedMessage = OfPlainDialogue call (λ s g t. InStartup UnexpectedMessage call s g ⊎ Behind call s g (OutOfTurn UnexpectedMessage t))
HasCause call (Parse cause) = IsOfBody cause × OfPlainDialogue call (λ s g t.
    InStartup (Parse cause) call s g ⊎ AsideUnreadable cause (messages g) ⊎ Behind call s g (OutOfTurn (Parse cause) t))
HasCause call (Io Link) = Rose call.before.faults call.after.faults
HasCause call (Io Ended) = Rose call.before.ends call.after.ends × WithSettings call (λ s.
    (NeedsNoTls s × OfBytes call.before call.after (λ g t. EndsInside g))
    ⊎ (MustAskForTls s × OfBytes call.before call.after (λ g t. (t ≡ ssl_request) × (g ≡ []))))
HasCause call (Io (Wire wire.OutOfMemory)) = ⊥
HasCause call (Io (Wire fault)) = OfPlainDialogue call (λ s g t.
    ((fault ≡ BadLength) × IsTrue (has_bad_header (bytes_left g)))
    ⊎ InStartup (Io (Wire fault)) call s g ⊎ Behind call s g (AsideBreaks fault))
HasCause call Closed = Rose call.before.ends call.after.ends
    × OfPlainDialogue call (λ s g t. (bytes_left g ≡ []) × IsFalse (said_terminate t))
HasCause call (Stalled before after) = IsStalled call before after
HasCause call (LimitReached given limit) = IsPastLimit call given limit
HasCause call OutOfMemory = ⊤
HasCause call other = ⊥

-- a result that want of memory alone may replace
abbrev pub Unless : {R : Type 0} → (Failure → Type 0) → Result R Failure → Type 0
Unless P (Ok report) = ⊥
Unless P (Err OutOfMemory) = ⊤
Unless P (Err failure) = P failure

-- this failure or want of memory, over a link that is as it was before
pub record RefusedFor {R : Type 0} (failure : Failure) (call : Call) (result : Result R Failure) : Type 0 where
  pub answer : (result ≡ Err failure) ⊎ (result ≡ Err OutOfMemory)
  pub untouched : call.after ≡ call.before

-- What is refused before any byte, in this order: the string's first fault, no user, a nonce out of form, and TLS that
-- is required and begins at once, over a connector that has none.
pub record MustRefuse {R : Type 0} (call : Call) (result : Result R Failure) : Type 0 where
  pub text : (cause : Cause) → ConnectionStringMeans call.config (Err cause) → RefusedFor (ConfigParse cause) call result
  pub user : WithSettings call (λ s. s.user ≡ None) → RefusedFor (Config NoUser) call result
  pub nonce : WithSettings call (λ s. IsSome s.user) → IsFalse (is_nonce call.nonce) → RefusedFor (Config Nonce) call result
  pub direct : WithSettings call (λ s. IsSome s.user × (s.ssl_mode ≡ Require) × (s.ssl_negotiation ≡ Direct)) → IsTrue (is_nonce call.nonce) → RefusedFor (Tls Handshake) call result
