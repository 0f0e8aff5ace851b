-- A server that answers the frames of a client one after another, over any states (PostgreSQL documentation, "Message Flow":
-- "Simple Query", "Extended Query", "Pipelining", "COPY Operations").
use Rattle.std.specs.Prelude.{ℕ, Bool, false, List, [], ◌∷◌, ◌++◌, Option, Some, None, ◌==◌, if◌then◌else◌}
use Rattle.std.specs.List.{list_any, flat_map}
use Rattle.std.specs.Str.{byte}
use Rattle.pg_spec.specs.RawMessages.{RawMessage}
use Rattle.pg_machine.specs.declared.serving.Mode.{Mode}
use Rattle.pg_machine.specs.declared.serving.Mode.TheVariants.{Normal, Skip, CopyIn}
use Rattle.pg_machine.specs.declared.serving.Kind.{Kind}
use Rattle.pg_machine.specs.declared.serving.Kind.TheVariants.{Query, Sync, Flush, CopyData, CopyDone, CopyFail, Terminate, Other}
use Rattle.pg_machine.specs.declared.serving.Turn.{Turn}
use Rattle.pg_machine.specs.declared.serving.Turn.TheVariants.{Silent, Ready, AnswersReady, Answers, TakesData, EndsCopy, Refuses}

-- What a frame is answered, and whether that opens a copy.
pub record Effect : Type 0 where
  pub reply : List RawMessage
  pub opens : Bool

-- What a server says by itself; `S` are its states. The rules of the protocol are not its business.
pub record Service (S : Type 0) : Type 0 where
  -- its answer to a frame and its state then, None where it has none
  pub answers : S → RawMessage → Option (Effect × S)
  -- its answer to a frame that it has none for, or that may not come then
  pub refuses : S → RawMessage → Effect × S

-- a server at a moment
pub record Serving (S : Type 0) : Type 0 where
  pub state : S
  pub mode : Mode

-- the kind of a frame, by its tag
abbrev pub kind_by_tag : ℕ → Kind
kind_by_tag tag =
    if tag == byte "Q" then Query
    else if tag == byte "S" then Sync
    else if tag == byte "H" then Flush
    else if tag == byte "d" then CopyData
    else if tag == byte "c" then CopyDone
    else if tag == byte "f" then CopyFail
    else if tag == byte "X" then Terminate
    else Other

-- the kind of a frame
abbrev pub kind_of : RawMessage → Kind
kind_of frame = kind_by_tag frame.tag

-- What is done with each kind of frame in each mode ("Extended Query" on what follows an error, "COPY Operations" on what a copy
-- takes).
abbrev pub turn : Mode → Kind → Turn
turn Normal Query = AnswersReady
turn Normal Sync = Ready
turn Normal Other = Answers
-- Flush and Terminate get no answer, nor does what belongs to a copy where none is open
turn Normal kind = Silent
-- behind an error all is discarded up to Sync
turn Skip Sync = Ready
turn Skip kind = Silent
-- a copy takes data up to CopyDone; CopyFail ends it in error, and so does any frame that isn't the copy's
turn CopyIn CopyData = TakesData
turn CopyIn CopyDone = EndsCopy
turn CopyIn Query = Refuses
turn CopyIn CopyFail = Refuses
turn CopyIn Other = Refuses
-- Flush and Sync are ignored meanwhile
turn CopyIn kind = Silent

-- ErrorResponse
abbrev pub is_error : RawMessage → Bool
is_error m = m.tag == byte "E"

-- ReadyForQuery, idle
abbrev pub ready : RawMessage
ready = record { tag = byte "Z"; body = byte "I" ∷ [] }

-- an error leads to Skip, any other answer to this mode
abbrev pub unless_error : Mode → Effect → Mode
unless_error mode effect = if list_any is_error effect.reply then Skip else mode

-- the same, where an answer may open a copy
abbrev pub or_opened : Effect → Mode
or_opened effect = unless_error (if effect.opens then CopyIn else Normal) effect

-- what was replied, and the server then
pub record Replied (S : Type 0) : Type 0 where
  pub reply : List RawMessage
  pub next : Serving S

-- an answer is given, and decides the mode
abbrev pub said : {S : Type 0} → (Effect → Mode) → Effect × S → Replied S
said mode answer = record { reply = answer.0.reply; next = record { state = answer.1; mode = mode answer.0 } }

-- nothing is said, and nothing changes
abbrev pub silent : {S : Type 0} → S → Mode → Replied S
silent state mode = record { reply = []; next = record { state = state; mode = mode } }

-- ReadyForQuery behind it
abbrev pub then_ready : {S : Type 0} → Replied S → Replied S
then_ready r = record { reply = r.reply ++ ready ∷ []; next = r.next }

-- its answer, or else the refusal
abbrev pub own_or_refusal : {S : Type 0} → Service S → S → RawMessage → Effect × S
own_or_refusal service state frame = elim (service.answers state frame) [ None ↦ service.refuses state frame | Some answer ↦ answer ]

-- its answer, or else nothing
abbrev pub own_or_nothing : {S : Type 0} → Service S → S → RawMessage → Effect × S
own_or_nothing service state frame = elim (service.answers state frame) [ None ↦ (record { reply = []; opens = false }, state) | Some answer ↦ answer ]

-- what is said, and how it goes on
abbrev pub replied : {S : Type 0} → Service S → S → Mode → Turn → RawMessage → Replied S
replied service state mode Silent frame = silent state mode
replied service state mode Ready frame = then_ready (silent state Normal)
replied service state mode AnswersReady frame = then_ready (said (λ e. Normal) (own_or_refusal service state frame))
replied service state mode Answers frame = said or_opened (own_or_refusal service state frame)
replied service state mode TakesData frame = said (unless_error CopyIn) (own_or_nothing service state frame)
replied service state mode EndsCopy frame = said (unless_error Normal) (own_or_refusal service state frame)
replied service state mode Refuses frame = said (λ e. Skip) (service.refuses state frame)

-- what a frame does
abbrev pub serve : {S : Type 0} → Service S → Serving S → RawMessage → Replied S
serve service at frame = replied service at.state at.mode (turn at.mode (kind_of frame)) frame

-- a reply in front of another
abbrev pub in_front : {S : Type 0} → List RawMessage → Replied S → Replied S
in_front reply later = record { reply = reply ++ later.reply; next = later.next }

-- what frames do, one after another
abbrev pub served : {S : Type 0} → Service S → Serving S → List RawMessage → Replied S
served service at [] = record { reply = []; next = at }
served service at (frame ∷ frames) = in_front (serve service at frame).reply (served service (serve service at frame).next frames)

-- lists, one behind another
abbrev pub joined : {X : Type 0} → List (List X) → List X
joined lists = flat_map (λ list. list) lists

-- what each request is replied where they are fed one at a time: the whole reply to one, and then the next ("Pipelining")
abbrev pub one_at_a_time : {S : Type 0} → Service S → Serving S → List (List RawMessage) → List (List RawMessage)
one_at_a_time service at [] = []
one_at_a_time service at (frames ∷ requests) = (served service at frames).reply ∷ one_at_a_time service (served service at frames).next requests
