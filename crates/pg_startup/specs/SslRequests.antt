-- The request for TLS and the byte that answers it (PostgreSQL documentation, "SSL Session Encryption" of the message flow).
use Rattle.std.specs.Prelude.{◌≡◌, ◌⊎◌, ℕ, ◌+◌, ◌≤◌, ◌<◌, IsTrue, true, false, List, [], ◌∷◌, ◌++◌, length, Some, Result, Ok, Err}
use Rattle.pg_spec.specs.Frames.{ssl_request}
use Rattle.pg_spec.specs.Links.{LinkView, Grew, Rose}
use Rattle.futures.specs.declared.task.Poll.{Poll}
use Rattle.futures.specs.declared.task.Poll.TheVariants.{Ready, Pending}
use Rattle.pg_wire.specs.LinkCalls.{Keeps}
use Rattle.pg_types.specs.declared.cause.Cause.TheVariants as cause
use Rattle.pg_types.specs.declared.error.Error.{Error}
use Rattle.pg_types.specs.declared.error.Error.TheVariants as error
use Rattle.pg_connect.specs.Ends.{IsFlushedFrom}
use Rattle.pg_connect.specs.Passes.{Untouched}
use Rattle.pg_startup.specs.StartupPolls.{step_of}
use Rattle.pg_startup.specs.Transfers.{IsFlushed, IsWithinLimit}
use Rattle.pg_startup.specs.declared.ssl_request.SslRequest.{SslRequest}

-- A front of the SSLRequest was taken, and nothing was given. The link wasn't shut down.
pub record Asking (begin now : LinkView) (s : SslRequest) : Type 0 where
  pub sent : List ℕ
  pub given : Grew begin.given now.given []
  pub taken : Grew begin.taken now.taken sent
  pub out : sent ++ s.bytes.unsent.items ≡ ssl_request
  pub empty : s.bytes.buffer.items ≡ []
  pub flushed : IsFlushed s.bytes now
  pub shut : now.shut ≡ begin.shut
  pub count : s.bytes.given ≡ 0
  pub link : Keeps begin now

-- The SSLRequest was taken and passed on, and this byte was given. The link wasn't shut down.
pub record Asked (begin now : LinkView) (s : SslRequest) (b : ℕ) : Type 0 where
  pub given : Grew begin.given now.given (b ∷ [])
  pub taken : Grew begin.taken now.taken ssl_request
  pub flushed : IsFlushedFrom begin now
  pub shut : now.shut ≡ begin.shut
  pub count : s.bytes.given ≡ 1
  pub within : s.bytes.given ≤ s.bytes.max_bytes
  pub link : Keeps begin now

-- the end in place of the byte is one inside what the server says
abbrev pub inside_of : Error → Error
inside_of error.Closed = error.Io cause.Ended
inside_of e = e

-- why it failed, by the bytes that were given and the counts of the link
abbrev pub AskFailsBy : (most : ℕ) → (begin now : LinkView) → (got sent : List ℕ) → Error → Type 0
AskFailsBy most begin now got sent (error.Io cause.Link) = Rose begin.faults now.faults
AskFailsBy most begin now got sent error.OutOfMemory = Unit {0}
AskFailsBy most begin now got sent (error.Io cause.Ended) = Rose begin.ends now.ends × (got ≡ []) × (sent ≡ ssl_request) × IsFlushedFrom begin now
AskFailsBy most begin now got sent (error.LimitReached given limit) = (given ≡ length got) × (limit ≡ most) × (limit < given)
AskFailsBy most begin now got sent e = ⊥

-- It failed: what the link gave and took, and why. Nothing was read before the SSLRequest was taken and passed on. The link
-- wasn't shut down.
pub record AskFailed (begin now : LinkView) (s : SslRequest) (e : Error) : Type 0 where
  pub got : List ℕ
  pub sent : List ℕ
  pub unsent : List ℕ
  pub given : Grew begin.given now.given got
  pub taken : Grew begin.taken now.taken sent
  pub out : sent ++ unsent ≡ ssl_request
  pub one : length got ≤ 1
  pub behind : (got ≡ []) ⊎ ((sent ≡ ssl_request) × IsFlushedFrom begin now)
  pub shut : now.shut ≡ begin.shut
  pub count : s.bytes.given ≡ length got
  pub link : Keeps begin now
  pub fails : AskFailsBy s.bytes.max_bytes begin now got sent e
  pub within : IsWithinLimit e (length got) s.bytes.max_bytes

-- what a poll answers: the byte, why there is none, or that it goes on
abbrev pub AskAnswers : (begin now : LinkView) → SslRequest → Poll (Result ℕ Error) → Type 0
AskAnswers begin now s (Ready (Ok b)) = Asked begin now s b
AskAnswers begin now s (Ready (Err e)) = AskFailed begin now s e
AskAnswers begin now s Pending = Asking begin now s

-- A poll that goes on met a link that wasn't ready. Where nothing moved, the link is untouched, and that is a lull of one that
-- was promised to be ready; over a steady link the byte alone is missing, the link may give nothing now, and the request was
-- passed on.
pub record AsksOn (s : SslRequest) (before after : LinkView) : Type 0 where
  pub keeps : Keeps before after
  pub quiet : Rose before.quiet after.quiet
  pub lulls : s.bytes.moved ≡ false → IsTrue before.promised → Rose before.lulls after.lulls
  pub still : s.bytes.moved ≡ false → Untouched before after
  pub idle : IsTrue before.steady → (s.bytes.unsent.items ≡ []) × (after.due ≡ Some []) × (s.bytes.flushed ≡ true)

-- less is left to be sent where something moved, and never more
abbrev pub AsksLess : (old new : SslRequest) → Type 0
AsksLess old new = length new.bytes.unsent.items + step_of new.bytes.moved ≤ length old.bytes.unsent.items
