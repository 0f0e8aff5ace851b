-- Where a startup stands, and what its polls answer (PostgreSQL documentation, "Start-up").
use Rattle.std.specs.Prelude.{◌≡◌, ◌≢◌, ◌⊎◌, ℕ, ◌+◌, ◌*◌, ◌^◌, ◌<◌, ◌≤◌, Bool, true, false, List, [], ◌∷◌, ◌++◌, length, map, ℤ, Option, Some, None, Result, Ok, Err}
use Rattle.std.specs.List.{concat, flat_map}
use Rattle.std.specs.Str.{byte}
use Rattle.pg_spec.specs.Links.{LinkView, Grew, Rose}
use Rattle.pg_spec.specs.Messages as said
use Rattle.pg_spec.specs.Parameters.{parameter_reports}
use Rattle.pg_spec.specs.RawMessages.{RawMessage, messages, bytes_left, has_bad_header, async_of}
use Rattle.pg_spec.specs.Startup as startups
use Rattle.pg_spec.specs.Startup.{Login}
use Rattle.pg_wire.specs.LinkCalls.{Keeps}
use Rattle.pg_wire.specs.Messages.{message_view}
use Rattle.pg_wire.specs.declared.message.Message.{Message}
use Rattle.pg_types.specs.declared.cause.Cause.TheVariants as cause
use Rattle.pg_types.specs.declared.error.Error.{Error}
use Rattle.pg_types.specs.declared.error.Error.TheVariants as error
use Rattle.pg_types.specs.declared.faults.WireFault.{WireFault}
use Rattle.pg_types.specs.declared.faults.WireFault.TheVariants as wire
use Rattle.pg_startup.specs.Stages.{Stage}
use Rattle.pg_startup.specs.Steps.{frame_of}
use Rattle.pg_connect.specs.Ends.{IsFlushedFrom}
use Rattle.pg_connect.specs.Kept.{keep, keep_all}
use Rattle.pg_connect.specs.Passes.{notice_of}
use Rattle.pg_connect.specs.Reads.{piece_size}
use Rattle.pg_startup.specs.Frames.{frames_of}
use Rattle.pg_startup.specs.Transfers.{IsFlushed, IsWithinLimit}
use Rattle.pg_startup.specs.declared.startup.Heard.{Heard}
use Rattle.pg_startup.specs.declared.startup.Heard.TheVariants as heard
use Rattle.pg_startup.specs.declared.startup.Startup.{Startup}

-- ---- the dialogue over the messages that were read

-- a dialogue in front of which messages stand that were answered by these frames, one list for each
abbrev pub behind : List (List (List ℕ)) → startups.Startup → startups.Startup
behind [] rest = rest
behind (frames ∷ answers) rest = startups.after_one frames (behind answers rest)

-- the bytes of all answers
abbrev pub bytes_of : List (List (List ℕ)) → List ℕ
bytes_of answers = flat_map concat answers

-- These messages lead to that phase, and these bytes answer them.
pub record Leads (l : Login) (read : List RawMessage) (at : startups.Phase) (wrote : List ℕ) : Type 0 where
  pub answers : List (List (List ℕ))
  pub bytes : wrote ≡ bytes_of answers
  pub each : length answers ≡ length read
  pub on : (more : List RawMessage) → startups.dialogue l startups.First (read ++ more) ≡ behind answers (startups.dialogue l at more)

-- The dialogue is done with these messages, whatever follows, and these bytes answer them.
pub record Ends (l : Login) (read : List RawMessage) (wrote : List ℕ) : Type 0 where
  pub frames : List (List ℕ)
  pub bytes : wrote ≡ concat frames
  pub over : (more : List RawMessage) → startups.dialogue l startups.First (read ++ more) ≡ record { frames = frames; outcome = startups.Done (length read) }

-- where a dialogue waits for more, or is done
abbrev pub Reaches : Login → (read : List RawMessage) → (wrote : List ℕ) → (done : Bool) → Option Stage → Type 0
Reaches l read wrote true None = Ends l read wrote
Reaches l read wrote false (Some stage) = (stage.login ≡ l) × Leads l read stage.phase wrote
Reaches l read wrote done stage = ⊥

-- The dialogue stands behind these messages, and the frames that answer them were written behind its first frame.
pub record Speaks (l : Login) (first : List ℕ) (read : List RawMessage) (s : Startup) : Type 0 where
  pub wrote : List ℕ
  pub opening : s.opening.items ≡ first ++ wrote
  pub reaches : Reaches l read wrote s.done s.dialogue

-- what was kept of these messages: notices in order, the last report for each name, the last key
pub record Noted (read : List RawMessage) (s : Startup) : Type 0 where
  pub delayed : map notice_of s.delayed.items ≡ async_of read
  pub parameters : s.parameters ≡ keep_all [] (parameter_reports read)
  pub key : (s.process_id, s.secret_key) ≡ startups.cancel_key read

-- A startup stands behind these messages.
pub record StandsAt (l : Login) (first : List ℕ) (read : List RawMessage) (s : Startup) : Type 0 where
  pub speaks : Speaks l first read s
  pub noted : Noted read s

-- ---- messages that are heard

-- the next message is refused for this
abbrev pub IsRefusedNext : Login → startups.Phase → (rest : List RawMessage) → Error → Type 0
IsRefusedNext l at [] e = ⊥
IsRefusedNext l at (m ∷ rest) e = startups.startup_move l at m ≡ startups.Refuses e

-- Why it stops in front of these messages, behind which these bytes are left: a header that is none stands behind them
-- all, the next message is refused, or memory lacks.
abbrev pub IsStop : Login → startups.Phase → (rest : List RawMessage) → (left : List ℕ) → Error → Type 0
IsStop l at rest left error.OutOfMemory = Unit {0}
IsStop l at rest left (error.Io (cause.Wire wire.BadLength)) = (rest ≡ []) × (has_bad_header left ≡ true)
IsStop l at rest left e = IsRefusedNext l at rest e

-- It stopped among these messages, behind some of them.
pub record Stops (l : Login) (first : List ℕ) (read ms : List RawMessage) (left : List ℕ) (s : Startup) (e : Error) : Type 0 where
  pub front : List RawMessage
  pub rest : List RawMessage
  pub stands : ms ≡ front ++ rest
  pub at : startups.Phase
  pub wrote : List ℕ
  pub opening : s.opening.items ≡ first ++ wrote
  pub leads : Leads l (read ++ front) at wrote
  pub why : IsStop l at rest left e

-- How hearing some messages ended, where the startup stood behind others: all were heard, the last of those heard was
-- ReadyForQuery, or it stopped among them.
abbrev pub Hears : (l : Login) (first : List ℕ) (read ms rest : List RawMessage) (left : List ℕ) → Startup → Result Heard Error → Type 0
Hears l first read ms rest left s (Ok heard.More) = (rest ≡ []) × (s.done ≡ false) × StandsAt l first (read ++ ms) s
Hears l first read ms rest left s (Ok heard.Done) = (front : List RawMessage) × (ms ≡ front ++ rest) × (s.done ≡ true) × StandsAt l first (read ++ front) s
Hears l first read ms rest left s (Err e) = Stops l first read ms left s e

-- what one message made of the dialogue
abbrev pub IsTold : (l : Login) (first : List ℕ) (read : List RawMessage) (raw : RawMessage) → Startup → Result Heard Error → Type 0
IsTold l first read raw s (Ok heard.More) = (s.done ≡ false) × Speaks l first (read ++ raw ∷ []) s
IsTold l first read raw s (Ok heard.Done) = (s.done ≡ true) × Speaks l first (read ++ raw ∷ []) s
IsTold l first read raw s (Err e) = Stops l first read (raw ∷ []) [] s e

-- only ReadyForQuery ends the startup
abbrev pub WasLast : Message → Result Heard Error → Type 0
WasLast message (Ok heard.Done) = (status : ℕ) × (message_view message ≡ said.ReadyForQuery status)
WasLast message _ = Unit {0}

-- a notification has no place in a startup
abbrev pub HasPlace : said.Message → Type 0
HasPlace (said.NotificationResponse process_id channel payload) = ⊥
HasPlace message = Unit {0}

-- with this key, if it is one
abbrev pub with_key : Startup → Option (ℤ × ℤ) → Startup
with_key s None = s
with_key s (Some key) = record s { process_id = key.0; secret_key = key.1 }

-- a notice is delayed, a report kept in the place of its name
abbrev pub KeepsAside : (old new : Startup) → said.Message → Type 0
KeepsAside old new (said.NoticeResponse fields) = (map notice_of new.delayed.items ≡ map notice_of old.delayed.items ++ (record { tag = byte "N"; body = fields }) ∷ [])
    × (new ≡ record old { delayed = new.delayed })
KeepsAside old new (said.ParameterStatus name value) = new ≡ record old { parameters = keep old.parameters (name, value) }
KeepsAside old new other = new ≡ old

-- all that was buffered was heard: no whole message is left, and no header that is none
pub record HeardAll (l : Login) (first : List ℕ) (read : List RawMessage) (old new : List ℕ) (s : Startup) : Type 0 where
  pub left : bytes_left new ≡ bytes_left old
  pub none : messages new ≡ []
  pub whole : bytes_left new ≡ new
  pub header : has_bad_header new ≡ false
  pub going : s.done ≡ false
  pub stands : StandsAt l first (read ++ messages old) s

-- no whole message is left in front, and no header that is none
abbrev pub HasNone : List ℕ → Type 0
HasNone left = (messages left ≡ []) × (bytes_left left ≡ left) × (has_bad_header left ≡ false)

-- where it waits for more, nothing is left to be heard
abbrev pub LeavesNone : List ℕ → Result Heard Error → Type 0
LeavesNone left (Ok heard.More) = HasNone left
LeavesNone left _ = Unit {0}

-- the same of all that is buffered
abbrev pub HearsAll : (l : Login) (first : List ℕ) (read : List RawMessage) (old new : List ℕ) → Startup → Result Heard Error → Type 0
HearsAll l first read old new s (Ok heard.More) = HeardAll l first read old new s
HearsAll l first read old new s (Ok heard.Done) = (bytes_left new ≡ bytes_left old) × Hears l first read (messages old) (messages new) [] s (Ok heard.Done)
HearsAll l first read old new s (Err e) = Stops l first read (messages old) (bytes_left old) s e

-- why a message that can't be read ends the startup
abbrev pub refusal_of : WireFault → Error
refusal_of wire.OutOfMemory = error.OutOfMemory
refusal_of fault = error.Io (cause.Wire fault)

-- these bytes were added to the frames that were written, and to those that are unsent
pub record Adds (old new : Startup) (added : List ℕ) : Type 0 where
  pub opening : new.opening.items ≡ old.opening.items ++ added
  pub unsent : new.bytes.unsent.items ≡ old.bytes.unsent.items ++ added
  pub flushed : new.bytes.flushed ≡ true → (added ≡ []) × (old.bytes.flushed ≡ true)

-- some bytes were
abbrev pub Queues : (old new : Startup) → Type 0
Queues old new = (added : List ℕ) × Adds old new added

-- queueing a frame changes only these
abbrev pub QueuesOnly : (old new : Startup) → Type 0
QueuesOnly old new = new ≡ record old {
  bytes = record old.bytes { unsent = new.bytes.unsent; flushed = new.bytes.flushed };
  opening = new.opening;
}

-- keeping a message aside changes only these
abbrev pub KeepsOnly : (old new : Startup) → Type 0
KeepsOnly old new = new ≡ record old { delayed = new.delayed; parameters = new.parameters }

-- that it is done is marked behind ReadyForQuery alone
abbrev pub MarksEnd : (old new : Startup) → Result Heard Error → Type 0
MarksEnd old new (Ok heard.Done) = new.done ≡ true
MarksEnd old new other = new.done ≡ old.done

-- telling a message to the dialogue changes only these
abbrev pub TellsOnly : (old new : Startup) → Type 0
TellsOnly old new = new ≡ record old {
  dialogue = new.dialogue;
  done = new.done;
  bytes = record old.bytes { unsent = new.bytes.unsent; flushed = new.bytes.flushed };
  opening = new.opening;
}

-- of what crosses the link hearing changes only what is unsent
abbrev pub HearsOnly : (old new : Startup) → Type 0
HearsOnly old new = new.bytes ≡ record old.bytes { unsent = new.bytes.unsent; flushed = new.bytes.flushed }

-- hearing what is buffered changes that too
abbrev pub HearsBuffer : (old new : Startup) → Type 0
HearsBuffer old new = new.bytes ≡ record old.bytes { buffer = new.bytes.buffer; unsent = new.bytes.unsent; flushed = new.bytes.flushed }

-- how much is left to be sent: frames that may still be asked for, each of less than 2^32 bytes, and bytes that are unsent
abbrev pub sends_left : Startup → ℕ
sends_left s = frames_of s.dialogue * 2 ^ 32 + length s.bytes.unsent.items

-- ---- polls

-- what was given, and the messages read off it
pub record Came (read : List RawMessage) (got buffer : List ℕ) : Type 0 where
  pub messages : messages got ≡ read ++ messages buffer
  pub left : bytes_left got ≡ bytes_left buffer

-- these frames were taken, and passed on unless more was taken since
pub record WasAnswered (begin now : LinkView) (sent frames : List ℕ) : Type 0 where
  pub later : List ℕ
  pub taken : sent ≡ frames ++ later
  pub flushed : later ≡ [] → IsFlushedFrom begin now

-- The last piece was read only while the dialogue waited for more, no header that is none lay there, and all frames that
-- answer what came before were taken and passed on.
pub record LastPiece (l : Login) (first : List ℕ) (begin now : LinkView) (got sent : List ℕ) : Type 0 where
  pub front : List ℕ
  pub piece : List ℕ
  pub all : got ≡ front ++ piece
  pub fits : length piece ≤ piece_size
  pub at : startups.Phase
  pub wrote : List ℕ
  pub leads : Leads l (messages front) at wrote
  pub header : has_bad_header (bytes_left front) ≡ false
  pub answered : (got ≡ []) ⊎ WasAnswered begin now sent (first ++ wrote)

-- What the link gave and took since the startup began, before which `asked` bytes were given, and where the startup
-- stands. The link wasn't shut down.
pub record Opening (l : Login) (asked : ℕ) (begin now : LinkView) (s : Startup) : Type 0 where
  pub got : List ℕ
  pub sent : List ℕ
  pub read : List RawMessage
  pub first : List ℕ
  pub frame : frame_of l.settings ≡ Ok first
  pub given : Grew begin.given now.given got
  pub taken : Grew begin.taken now.taken sent
  pub came : Came read got s.bytes.buffer.items
  pub last : LastPiece l first begin now got sent
  pub out : sent ++ s.bytes.unsent.items ≡ s.opening.items
  pub stands : StandsAt l first read s
  pub flushed : IsFlushed s.bytes now
  pub shut : now.shut ≡ begin.shut
  pub count : s.bytes.given ≡ asked + length got
  pub link : Keeps begin now

-- The startup is done: its frames were taken and passed on, and the messages up to ReadyForQuery were read. The link wasn't
-- shut down.
pub record Opened (l : Login) (asked : ℕ) (begin now : LinkView) (s : Startup) : Type 0 where
  pub got : List ℕ
  pub read : List RawMessage
  pub first : List ℕ
  pub wrote : List ℕ
  pub frame : frame_of l.settings ≡ Ok first
  pub opening : s.opening.items ≡ first ++ wrote
  pub given : Grew begin.given now.given got
  pub taken : Grew begin.taken now.taken s.opening.items
  pub came : Came read got s.bytes.buffer.items
  pub last : LastPiece l first begin now got s.opening.items
  pub done : Ends l read wrote
  pub noted : Noted read s
  pub flushed : IsFlushedFrom begin now
  pub shut : now.shut ≡ begin.shut
  pub count : s.bytes.given ≡ asked + length got
  pub within : s.bytes.given ≤ s.bytes.max_bytes
  pub link : Keeps begin now

-- where the dialogue is done, or waits in this phase
abbrev pub IsAt : Login → (read : List RawMessage) → (wrote : List ℕ) → (done : Bool) → startups.Phase → Type 0
IsAt l read wrote true at = Ends l read wrote
IsAt l read wrote false at = Leads l read at wrote

-- The cause of each failure, by the bytes that were given and the counts of the link: a dialogue that is done fails only
-- by the link or for want of memory, and where the link ends, or a header is none, no message is unheard.
abbrev pub FailsBy : Login → (asked limit : ℕ) → (begin now : LinkView) → (got : List ℕ) → (done : Bool) → startups.Phase → (rest : List RawMessage) → Error → Type 0
FailsBy l asked most begin now got done at rest (error.Io cause.Link) = Rose begin.faults now.faults
FailsBy l asked most begin now got done at rest error.OutOfMemory = Unit {0}
FailsBy l asked most begin now got done at rest (error.Io cause.Ended) = (done ≡ false) × (rest ≡ [])
    × Rose begin.ends now.ends × (bytes_left got ≢ []) × (has_bad_header (bytes_left got) ≡ false)
FailsBy l asked most begin now got done at rest error.Closed = (done ≡ false) × (rest ≡ []) × Rose begin.ends now.ends × (bytes_left got ≡ [])
FailsBy l asked most begin now got done at rest (error.Io (cause.Wire wire.BadLength)) = (done ≡ false) × (rest ≡ []) × (has_bad_header (bytes_left got) ≡ true)
FailsBy l asked most begin now got done at rest (error.LimitReached given limit) = (done ≡ false)
    × (given ≡ asked + length got) × (limit ≡ most) × (limit < given) × (given ≤ limit + piece_size)
FailsBy l asked most begin now got done at rest e = (done ≡ false) × IsRefusedNext l at rest e

-- It failed: what the link gave and took, and why. What was taken is a front of the frames that answer the messages that
-- were read. The link wasn't shut down.
pub record Failed (l : Login) (asked : ℕ) (begin now : LinkView) (s : Startup) (e : Error) : Type 0 where
  pub got : List ℕ
  pub sent : List ℕ
  pub unsent : List ℕ
  pub read : List RawMessage
  pub rest : List RawMessage
  pub first : List ℕ
  pub wrote : List ℕ
  pub done : Bool
  pub at : startups.Phase
  pub frame : frame_of l.settings ≡ Ok first
  pub given : Grew begin.given now.given got
  pub taken : Grew begin.taken now.taken sent
  pub came : messages got ≡ read ++ rest
  pub last : LastPiece l first begin now got sent
  pub out : sent ++ unsent ≡ first ++ wrote
  pub stands : IsAt l read wrote done at
  pub shut : now.shut ≡ begin.shut
  pub count : s.bytes.given ≡ asked + length got
  pub link : Keeps begin now
  pub fails : FailsBy l asked s.bytes.max_bytes begin now got done at rest e
  pub within : IsWithinLimit e (asked + length got) s.bytes.max_bytes
