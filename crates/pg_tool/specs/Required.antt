-- How a session that requires TLS ends, over the connector that can't connect (PostgreSQL documentation, "SSL Session
-- Encryption" of the message flow).
use Rattle.std.specs.Prelude.{◌≡◌, ◌⊎◌, ℕ, ◌≤◌, Bool, true, false, IsTrue, Result, Ok, Err}
use Rattle.pg_spec.specs.Links.{LinkView}
use Rattle.pg_spec.specs.Settings.{Require, Settings}
use Rattle.pg_connect.specs.Calm.{MissesOne, StaysCalm}
use Rattle.pg_wire.specs.LinkCalls.{Keeps}
use Rattle.pg_types.specs.declared.cause.Cause.TheVariants as cause
use Rattle.pg_types.specs.declared.error.Error.{Error}
use Rattle.pg_types.specs.declared.error.Error.TheVariants as error
use Rattle.pg_session.specs.Failures.{PauseFails}
use Rattle.pg_startup.specs.SslRequests.{AskFailed, Asked, Asking, AsksOn}
use Rattle.pg_startup.specs.declared.ssl_request.SslRequest.{SslRequest}
use Rattle.pg_open.specs.Choices.{after_byte, first_choice}
use Rattle.pg_open.specs.declared.choice.TlsChoice.{TlsChoice}
use Rattle.pg_open.specs.declared.choice.TlsChoice.TheVariants.{Fails}

-- the error of a choice of TLS: its own, or that the handshake failed
abbrev pub tls_error : TlsChoice → Error
tls_error (Fails cause) = error.Tls cause
tls_error choice = error.Tls cause.Handshake

-- the choice before a byte, over the connector that can't connect, to a host that has a name
abbrev pub choice_of : Settings → TlsChoice
choice_of s = first_choice s.ssl_mode s.ssl_negotiation false true

-- the same behind the byte that answers the SSLRequest
abbrev pub choice_behind : ℕ → TlsChoice
choice_behind b = after_byte Require true b

-- A poll of the request moved nothing, and the pause behind it failed. The poll came behind a wait, or not.
pub record StopsAsking (begin now : LinkView) (s : SslRequest) (e : Error) : Type 0 where
  pub link : LinkView
  pub keeps : Keeps begin link
  pub polled : LinkView
  pub asking : Asking begin polled s
  pub within : s.bytes.given ≤ s.bytes.max_bytes
  pub asks_on : AsksOn s link polled
  pub misses : MissesOne link polled
  pub calm : StaysCalm begin polled
  pub unmoved : s.bytes.moved ≡ false
  pub waited : Bool
  pub promised : waited ≡ true → IsTrue link.promised
  pub fails : PauseFails link.quiet polled.quiet waited polled now e

-- how the request ends: by a byte, with no lull on a steady link, stalled behind a poll that moved nothing, or it failed
abbrev pub AskEnds : (begin now : LinkView) → SslRequest → Result ℕ Error → Type 0
AskEnds begin now s (Ok b) = Asked begin now s b × StaysCalm begin now
AskEnds begin now s (Err (error.Stalled before after)) = StopsAsking begin now s (error.Stalled before after)
AskEnds begin now s (Err e) = AskFailed begin now s e

-- The server's byte came, and the handshake failed or TLS was refused; or no byte came.
abbrev pub AsksInVain : (begin now : LinkView) → SslRequest → Error → Type 0
AsksInVain begin now s e = ((b : ℕ) × Asked begin now s b × StaysCalm begin now × (e ≡ tls_error (choice_behind b))) ⊎ AskEnds begin now s (Err e)

-- the same under a limit of the bytes, unless memory lacked before it
abbrev pub AsksWithin : (limit : ℕ) → (begin now : LinkView) → Error → Type 0
AsksWithin limit begin now e =
    ((e ≡ error.OutOfMemory) × (now ≡ begin)) ⊎ ((s : SslRequest) × (s.bytes.max_bytes ≡ limit) × AsksInVain begin now s e)
