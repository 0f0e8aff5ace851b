-- How the choice of TLS goes on, from a link and a connector to a link or a stream, or to an error (PostgreSQL
-- documentation, "SSL Session Encryption" of the message flow).
use Rattle.std.specs.Prelude.{◌≡◌, ◌⊎◌, ℕ, ◌^◌, ◌-◌, min, Bool, true, List, [], ◌∷◌, Option, Some, None, MatchOption, Result, Ok, Err}
use Rattle.pg_spec.specs.Links.{LinkView}
use Rattle.futures.specs.declared.task.Poll.{Poll}
use Rattle.futures.specs.declared.task.Poll.TheVariants.{Ready, Pending}
use Rattle.pg_config.specs.Views.{ssl_mode, ssl_negotiation}
use Rattle.pg_wire.specs.LinkCalls.{Keeps, WaitAnswers}
use Rattle.pg_wire.specs.declared.link.LinkWait.{LinkWait}
use Rattle.pg_wire.specs.declared.link.LinkWait.TheVariants as waits
use Rattle.pg_types.specs.declared.cause.Cause.TheVariants as cause
use Rattle.pg_types.specs.declared.error.Error.{Error}
use Rattle.pg_types.specs.declared.error.Error.TheVariants as error
use Rattle.pg_connect.specs.Calm.{MissesOne, StaysCalm}
use Rattle.pg_startup.specs.SslRequests.{AskFailed, Asked, Asking as IsAsking, AsksLess, AsksOn}
use Rattle.pg_startup.specs.declared.ssl_request.SslRequest.{SslRequest}
use Rattle.pg_open.specs.Choices as choices
use Rattle.pg_open.specs.declared.choice.TlsChoice.{TlsChoice}
use Rattle.pg_open.specs.declared.choice.TlsChoice.TheVariants as choice
use Rattle.pg_open.specs.declared.maybe_tls.MaybeTls.{MaybeTls}
use Rattle.pg_open.specs.declared.maybe_tls.MaybeTls.TheVariants as maybe
use Rattle.pg_open.specs.declared.stages.Question.{Question}
use Rattle.pg_open.specs.declared.stages.Stage.{Stage}
use Rattle.pg_open.specs.declared.stages.Stage.TheVariants.{Fresh, Asking, Shaking, Over}
use Rattle.pg_open.specs.declared.stages.TlsSettings.{TlsSettings}

-- What is known of links, connectors and handshakes: what a link means, whether a connector can connect, which handshakes
-- it begins over a link, and what a poll makes of a handshake and answers.
pub record Known (L T F S E : Type 0) : Type 1 where
  pub view : L → LinkView
  pub connects : T → Bool
  pub begins : T → L → F → Type 0
  pub polled : F → F → Poll (Result S E) → Type 0

-- the same, by its parts
abbrev pub known : {L T F S E : Type 0} → (L → LinkView) → (T → Bool) → (T → L → F → Type 0) → (F → F → Poll (Result S E) → Type 0) → Known L T F S E
known view connects begins polled = record { view = view; connects = connects; begins = begins; polled = polled }

-- a handshake was pending in each of its polls since it was begun; where it stood before each, the last one first
abbrev pub WasPending : {F S E : Type 0} → (F → F → Poll (Result S E) → Type 0) → (began : F) → List F → (now : F) → Type 0
WasPending polled began [] now = began ≡ now
WasPending polled began (before ∷ polls) now = WasPending polled began polls before × polled before now Pending

-- the most bytes that the link may give: a limit past 2^63 - 1 counts as that
abbrev pub limit_of : TlsSettings → ℕ
limit_of want = min want.max_bytes (2 ^ 63 - 1)

-- the choice before a byte
abbrev pub first_of : TlsSettings → (can : Bool) → TlsChoice
first_of want can = choices.first_choice (ssl_mode want.mode) (ssl_negotiation want.negotiation) can want.has_hostname

-- the choice by the byte
abbrev pub later_of : TlsSettings → ℕ → TlsChoice
later_of want byte = choices.after_byte (ssl_mode want.mode) want.has_hostname byte

module _ {L T F S E : Type 0} (k : Known L T F S E) (want : TlsSettings) (link : L) (tls : T) where
  -- The server was asked, and its byte makes this choice.
  pub record ByByte (now : L) (made : TlsChoice) : Type 0 where
    pub asks : first_of want (k.connects tls) ≡ choice.Asks
    pub byte : ℕ
    pub request : SslRequest
    pub limit : request.bytes.max_bytes ≡ limit_of want
    pub asked : Asked (k.view link) (k.view now) request byte
    pub makes : later_of want byte ≡ made

  -- The choice was made: with the link as it was handed in, or by the byte. `asked`: how many bytes the link gave.
  abbrev pub Chose : (now : L) (asked : ℕ) → TlsChoice → Type 0
  Chose now asked made = ((first_of want (k.connects tls) ≡ made) × (now ≡ link) × (asked ≡ 0)) ⊎ (ByByte now made × (asked ≡ 1))

  -- The server is asked.
  pub record IsAsked (q : Question L T) (asked : ℕ) : Type 0 where
    pub asks : first_of want (k.connects tls) ≡ choice.Asks
    pub same : q.tls ≡ tls
    pub none : asked ≡ 0
    pub limit : q.request.bytes.max_bytes ≡ limit_of want
    pub request : IsAsking (k.view link) (k.view q.link) q.request

  -- The handshake was begun by the connector over the link, as the choice left it, and was pending in each of its polls.
  -- `quiet`: the link's count of calls that weren't ready.
  pub record IsBegun (asked quiet : ℕ) (now : F) : Type 0 where
    pub over : L
    pub chose : Chose over asked choice.Shakes
    pub quiet_then : quiet ≡ (k.view over).quiet
    pub began : F
    pub begins : k.begins tls over began
    pub polls : List F
    pub pending : WasPending k.polled began polls now

  -- where a choice stands that began with this link and this connector
  abbrev pub StandsAt : (asked : ℕ) → Stage L T F S E → Type 0
  StandsAt asked (Fresh now connector) = (now ≡ link) × (connector ≡ tls) × (asked ≡ 0)
  StandsAt asked (Asking q) = IsAsked q asked
  StandsAt asked (Shaking now quiet) = IsBegun asked quiet now
  StandsAt asked (Over left) = ⊥

  -- The handshake answered so.
  pub record Shook (asked : ℕ) (answer : Result S E) : Type 0 where
    pub quiet : ℕ
    pub before : F
    pub begun : IsBegun asked quiet before
    pub after : F
    pub polled : k.polled before after (Ready answer)

  -- The link gave no byte, for this.
  pub record NotAnswered (now : L) (e : Error) : Type 0 where
    pub asks : first_of want (k.connects tls) ≡ choice.Asks
    pub request : SslRequest
    pub limit : request.bytes.max_bytes ≡ limit_of want
    pub failed : AskFailed (k.view link) (k.view now) request e

  -- where the link is left by an error
  abbrev pub LeftSo : Stage L T F S E → (L → Type 0) → Type 0
  LeftSo (Over left) P = MatchOption left ⊥ P
  LeftSo stage P = ⊥

  -- Why there is neither a link nor a stream: the handshake failed, the choice is an error, memory lacked, or no byte came. But
  -- for a handshake, the link is left as it was then; where memory lacked before the SSLRequest, as it was handed in.
  abbrev pub TlsFails : (asked : ℕ) → Stage L T F S E → Error → Type 0
  TlsFails asked stage (error.Tls cause.Handshake) = (fault : E) × Shook asked (Err fault)
  TlsFails asked stage (error.Tls why) = LeftSo stage (λ now. Chose now asked (choice.Fails why))
  TlsFails asked stage error.OutOfMemory = LeftSo stage (λ now. (now ≡ link) ⊎ NotAnswered now error.OutOfMemory)
  TlsFails asked stage e = LeftSo stage (λ now. NotAnswered now e)

  -- the link as the choice left it, or the stream that the handshake gave
  abbrev pub IsChosen : (asked : ℕ) → MaybeTls L S → Type 0
  IsChosen asked (maybe.Raw now) = Chose now asked choice.Raw
  IsChosen asked (maybe.Tls stream) = Shook asked (Ok stream)

  -- what a poll answers: the link or the stream, why there is neither, or that it goes on
  abbrev pub TlsAnswers : (asked : ℕ) → Stage L T F S E → Poll (Result (MaybeTls L S) Error) → Type 0
  TlsAnswers asked stage (Ready (Ok chosen)) = IsChosen asked chosen
  TlsAnswers asked stage (Ready (Err e)) = TlsFails asked stage e
  TlsAnswers asked stage Pending = StandsAt asked stage

-- it hasn't answered
abbrev pub IsOpen : {L T F S E : Type 0} → Stage L T F S E → Type 0
IsOpen (Over left) = ⊥
IsOpen stage = Unit {0}

-- the link, while no handshake has it
abbrev pub link_in : {L T F S E : Type 0} → Stage L T F S E → Option L
link_in (Fresh link tls) = Some link
link_in (Asking q) = Some q.link
link_in (Shaking now quiet) = None
link_in (Over left) = None

-- the handshake that was polled stood so before: it had been begun, or was begun in this poll
abbrev pub StoodSo : {L T F S E : Type 0} → Stage L T F S E → F → Type 0
StoodSo (Shaking now quiet) before = now ≡ before
StoodSo stage before = Unit {0}

-- less is left to be sent of a request that was made before the poll, where something moved, and never more
abbrev pub AsksLessThan : {L T F S E : Type 0} → (old : Stage L T F S E) → SslRequest → Type 0
AsksLessThan (Asking before) now = AsksLess before.request now
AsksLessThan stage now = Unit {0}

-- A poll of the request went on between these: a call wasn't ready, at most one, and on a steady link none was a lull.
pub record AsksCalmly (s : SslRequest) (before after : LinkView) : Type 0 where
  pub on : AsksOn s before after
  pub calm : StaysCalm before after
  pub one : MissesOne before after

module _ {L T F S E : Type 0} (k : Known L T F S E) where
  -- a poll goes on only where a call of the link wasn't ready in it, or the handshake was pending in it
  abbrev pub WaitsOn : (moved : Bool) (old new : Stage L T F S E) → Type 0
  WaitsOn moved old (Fresh link tls) = ⊥
  WaitsOn moved old (Asking q) = (moved ≡ q.request.bytes.moved) × MatchOption (link_in old) ⊥ (λ before. AsksCalmly q.request (k.view before) (k.view q.link)) × AsksLessThan old q.request
  WaitsOn moved old (Shaking now quiet) = (moved ≡ true) × ((before : F) × StoodSo old before × k.polled before now Pending)
  WaitsOn moved old (Over left) = ⊥

-- what a wait answers and does: it is the link's; while a handshake has that, Ready comes at once
abbrev pub Waits : {L T F S E : Type 0} → (L → LinkView) → (old new : Stage L T F S E) → LinkWait → Type 0
Waits {L} {T} view (Fresh link tls) new answer = (now : L) × (new ≡ Fresh now tls) × WaitAnswers (view link) (view now) answer × Keeps (view link) (view now)
Waits {L} {T} view (Asking q) new answer = (now : Question L T) × (new ≡ Asking now) × (now.tls ≡ q.tls) × (now.request ≡ q.request)
    × WaitAnswers (view q.link) (view now.link) answer × Keeps (view q.link) (view now.link)
Waits view (Shaking handshake quiet) new answer = (new ≡ Shaking handshake quiet) × (answer ≡ waits.Ready)
Waits view (Over left) new answer = ⊥

-- how often a call of the link wasn't ready; while a handshake has it, how often before that
abbrev pub quiet_of : {L T F S E : Type 0} → (L → LinkView) → Stage L T F S E → Option ℕ
quiet_of view (Fresh link tls) = Some (view link).quiet
quiet_of view (Asking q) = Some (view q.link).quiet
quiet_of view (Shaking now quiet) = Some quiet
quiet_of view (Over left) = None
