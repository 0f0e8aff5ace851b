-- How much is left to do in a session: numbers of which the first that changes falls, in each turn in which something moves.
use Rattle.std.specs.Prelude.{◌≡◌, ◌⊎◌, ◌<◌, ◌≤◌, ℕ, suc, ◌+◌, ◌-◌, ◌*◌, Bool, true, false, if◌then◌else◌, List, [], ◌∷◌, drop, length, Option, Some, None}
use Rattle.pg_types.specs.declared.error.Error.{Error}
use Rattle.pg_spec.specs.RawMessages.{RawMessage}
use Rattle.pg_connect.specs.declared.streams.Streams.{Streams}
use Rattle.pg_connect.specs.Passes.{waiting, delayed_in, goodbye}
use Rattle.pg_desk.specs.declared.event.Booking.{Booking}
use Rattle.pg_desk.specs.History.{State}
use Rattle.pg_hub.specs.Fits.{Fits}
use Rattle.pg_hub.specs.Rests.{Rest}
use Rattle.pg_hub.specs.Standing.{Standing}
use Rattle.pg_hub.specs.Waiting.{undelivered_of}
use Rattle.pg_core.specs.Runs.{MayWait}
use Rattle.pg_query.specs.Dialogue.{Dialogue, Answer, Ask, Send, Leave, Read, Put, Finish, Close, HangUp, Call, Hear, fits}
use Rattle.pg_query.specs.Meaning.{Place}
use Rattle.pg_query.specs.Scripts.{IsRead}
use Rattle.pg_query.specs.declared.desk_call.Reply.{Reply}
use Rattle.pg_session.specs.Handles.{HandleState}
use Rattle.pg_session.specs.Speeches.{Speech}
use Rattle.pg_session.specs.States.{SessionState}

-- ---- commands

-- What commands of a script still do. One that hasn't begun counts two, since it begins and answers; the one that runs counts one.
abbrev pub script_left : {C T : Type 0} → List C → Option (Place T) → (answered : ℕ) → ℕ
script_left script None answered = 2 * (length script - answered)
script_left script (Some place) answered = suc (2 * (length script - suc answered))

-- the same of each handle
abbrev pub scripts_left : {C T A E : Type 0} → List (List C) → List (HandleState T A E) → ℕ
scripts_left (script ∷ scripts) (handle ∷ handles) = script_left script handle.running (length handle.answers) + scripts_left scripts handles
scripts_left _ _ = 0

-- ---- parts of copies

-- From here on a dialogue puts at most `n` parts, whatever comes and whatever it is told.
abbrev pub PutsAtMost : {T : Type 0} → (n : ℕ) → Dialogue T → Type 0
PutsAtMost n (Answer r) = Unit {0}
PutsAtMost n (Ask copying part d) = PutsAtMost n d
PutsAtMost n (Send part refused d) = ((e : Error) → PutsAtMost n (refused e)) × PutsAtMost n d
PutsAtMost n (Leave id d) = PutsAtMost n d
PutsAtMost n (Read cleanup decides next) = (ms : List RawMessage) → PutsAtMost n (next ms)
PutsAtMost n (Put cleanup part d) = (0 < n) × PutsAtMost (n - 1) d
PutsAtMost n (Finish part d) = PutsAtMost n d
PutsAtMost n (Close part d) = PutsAtMost n d
PutsAtMost n (HangUp d) = PutsAtMost n d
PutsAtMost n (Call q refused next) = ((e : Error) → PutsAtMost n (refused e)) × ((r : Reply) → fits q r ≡ true → PutsAtMost n (next r))
PutsAtMost n (Hear next) = Unit {0}

-- each command puts at most as many parts as are its
abbrev pub PutWithin : {C T A E : Type 0} → Speech C T A E → (bound : C → ℕ) → Type 0
PutWithin {C} {T} {A} {E} speech bound = (own : E) (c : C) → PutsAtMost (bound c) (speech.says own c)

-- no command puts a part
abbrev pub PutNone : {C T A E : Type 0} → Speech C T A E → Type 0
PutNone {C} {T} {A} {E} speech = (own : E) (c : C) → PutsAtMost 0 (speech.says own c)

-- how many parts these commands may put
abbrev pub bounds_of : {C : Type 0} → (bound : C → ℕ) → List C → ℕ
bounds_of bound [] = 0
bounds_of bound (c ∷ cs) = bound c + bounds_of bound cs

-- How many parts commands of a script may still put: those that haven't begun, and the one that runs.
abbrev pub MayPut : {C T : Type 0} → (bound : C → ℕ) → List C → Option (Place T) → (answered n : ℕ) → Type 0
MayPut bound script None answered n = n ≡ bounds_of bound (drop answered script)
MayPut bound script (Some place) answered n = (own : ℕ) × PutsAtMost own place.dialogue × (n ≡ own + bounds_of bound (drop (suc answered) script))

-- the same of all handles together; one that has no script has no command left
abbrev pub AllMayPut : {C T A E : Type 0} → (bound : C → ℕ) → List (List C) → List (HandleState T A E) → (n : ℕ) → Type 0
AllMayPut bound scripts [] n = n ≡ 0
AllMayPut bound [] (handle ∷ handles) n = (own : ℕ) × (others : ℕ) × MayPut bound [] handle.running (length handle.answers) own × AllMayPut bound [] handles others × (n ≡ own + others)
AllMayPut bound (script ∷ scripts) (handle ∷ handles) n =
    (own : ℕ) × (others : ℕ) × MayPut bound script handle.running (length handle.answers) own × AllMayPut bound scripts handles others × (n ≡ own + others)

-- How many parts were put in a request: all behind its opening, but its end where it is ended. One that is no copy has one part.
abbrev pub put_to : Booking → (copying : Bool) → ℕ
put_to b copying = length b.parts - (if copying then 1 else 2)

-- the same of all requests, by what of each hasn't gone out
abbrev pub put_in : List Booking → List Rest → ℕ
put_in [] rs = 0
put_in (b ∷ bs) [] = 0
put_in (b ∷ bs) (r ∷ rs) = put_to b r.copying + put_in bs rs

-- of a hub
abbrev pub put_of : Standing → ℕ
put_of hub = put_in hub.book hub.outgoing

-- how many parts the commands of all scripts may put, from the first to the last
abbrev pub bounds_in : {C : Type 0} → (bound : C → ℕ) → List (List C) → ℕ
bounds_in bound [] = 0
bounds_in bound (script ∷ scripts) = bounds_of bound script + bounds_in bound scripts

-- how many of them are still to be put, over a hub in which some were
abbrev pub still_to_put : {C : Type 0} → (bound : C → ℕ) → List (List C) → Standing → ℕ
still_to_put bound scripts hub = bounds_in bound scripts - put_of hub

-- ---- the connection

-- A byte that may still come counts two, and one once it is buffered. A message leaves five there or more: one that
-- is held counts two, since its batch counts one where it waits, and a notice that is delayed counts one.
abbrev pub reading_left : Streams → ℕ
reading_left s = 2 * (s.max_bytes - s.given) + (length s.buffer.items + (2 * length (waiting s.held) + length (delayed_in s)))

-- the bytes that the link hasn't taken, and those of Terminate, where it isn't queued yet
abbrev pub unsent_left : Streams → ℕ
unsent_left s = length s.unsent + length (goodbye s.closing true)

-- ---- the session

-- What is left to do. A batch that is taken lowers the first number; a command that begins or answers, or puts a part, the second; and
-- what is written the last, which a booking and a part raise.
pub record Left : Type 0 where
  -- what may still be read: bytes that may come or are buffered, messages that are held, and batches that readers haven't taken
  pub unread : ℕ
  -- what commands still do, and the parts that they may still put
  pub commands : ℕ
  -- what is still to be sent: the bytes of the parts that haven't gone out and one more for each part, and what the connection has
  pub unsent : ℕ

-- of a session whose commands may still put so many parts
abbrev pub left_with : {C T A E : Type 0} → List (List C) → (parts : ℕ) → SessionState T A E → Left
left_with scripts parts s = record {
  unread = undelivered_of s.hub + reading_left s.streams;
  commands = scripts_left scripts s.handles + parts;
  unsent = s.hub.unsent + unsent_left s.streams;
}

-- of a session whose commands put at most so many parts each, by the parts that were put
abbrev pub left_within : {C T A E : Type 0} → (bound : C → ℕ) → List (List C) → SessionState T A E → Left
left_within bound scripts s = left_with scripts (still_to_put bound scripts s.hub) s

-- of a session whose commands put none
abbrev pub left_to_do : {C T A E : Type 0} → List (List C) → SessionState T A E → Left
left_to_do scripts s = record {
  unread = undelivered_of s.hub + reading_left s.streams;
  commands = scripts_left scripts s.handles;
  unsent = s.hub.unsent + unsent_left s.streams;
}

-- the first number that differs is less
pub data IsLess (x y : Left) : Type 0 where
  LessUnread : x.unread < y.unread → IsLess x y
  FewerCommands : x.unread ≡ y.unread → x.commands < y.commands → IsLess x y
  LessUnsent : x.unread ≡ y.unread → x.commands ≡ y.commands → x.unsent < y.unsent → IsLess x y

-- less is left to do where something moved, and never more
abbrev pub Nears : (moved : Bool) → (before after : Left) → Type 0
Nears true before after = IsLess after before
Nears false before after = IsLess after before ⊎ (after ≡ before)

-- the same of a session whose commands put at most so many parts each
abbrev pub IsNearerWithin : {C T A E : Type 0} → (bound : C → ℕ) → List (List C) → (moved : Bool) → SessionState T A E → SessionState T A E → Type 0
IsNearerWithin bound scripts moved s t = Nears moved (left_within bound scripts s) (left_within bound scripts t)

-- the same of a session whose commands put no part
abbrev pub IsNearer : {C T A E : Type 0} → List (List C) → (moved : Bool) → SessionState T A E → SessionState T A E → Type 0
IsNearer scripts true s t = IsLess (left_to_do scripts t) (left_to_do scripts s)
IsNearer scripts false s t = IsLess (left_to_do scripts t) (left_to_do scripts s) ⊎ (left_to_do scripts t ≡ left_to_do scripts s)

-- the link gave no more bytes than it may
abbrev pub IsWithinLimit : {T A E : Type 0} → SessionState T A E → Type 0
IsWithinLimit s = s.streams.given ≤ s.streams.max_bytes

-- ---- what holds between two turns

-- a command that runs waits for a message, or for room for a part
abbrev pub RunWaits : {T : Type 0} → Option (Place T) → Type 0
RunWaits None = Unit {0}
RunWaits (Some place) = MayWait place.dialogue

-- the same of each handle
abbrev pub AllWait : {T A E : Type 0} → List (HandleState T A E) → Type 0
AllWait [] = Unit {0}
AllWait (handle ∷ handles) = RunWaits handle.running × AllWait handles

-- A session between two turns, whose commands may still put so many parts: its hub stands for what was done to it, and each command that
-- runs waits.
pub record IsUnderWayWith {C T A E : Type 0} (bound : C → ℕ) (scripts : List (List C)) (parts : ℕ) (s : SessionState T A E) : Type 0 where
  pub state : State
  pub fits : Fits state s.hub
  pub waits : AllWait s.handles
  pub puts : AllMayPut bound scripts s.handles parts

-- The same, and no more parts were put and may still be than the commands of its scripts may put.
pub record IsUnderWayWithin {C T A E : Type 0} (bound : C → ℕ) (scripts : List (List C)) (s : SessionState T A E) : Type 0 where
  pub parts : ℕ
  pub under_way : IsUnderWayWith bound scripts parts s
  pub few : parts + put_of s.hub ≤ bounds_in bound scripts

-- a command that runs waits for a message, and puts no part
abbrev pub RunReads : {T : Type 0} → Option (Place T) → Type 0
RunReads None = Unit {0}
RunReads (Some place) = IsRead place.dialogue × PutsAtMost 0 place.dialogue

-- the same of each handle
abbrev pub AllRead : {T A E : Type 0} → List (HandleState T A E) → Type 0
AllRead [] = Unit {0}
AllRead (handle ∷ handles) = RunReads handle.running × AllRead handles

-- The same of a session whose commands put none: each that runs waits for a message.
pub record IsUnderWay {T A E : Type 0} (s : SessionState T A E) : Type 0 where
  pub state : State
  pub fits : Fits state s.hub
  pub handles : AllRead s.handles

-- Behind a turn commands may still put so many parts, no more than before, and less is left to do where something moved.
pub record LeavesLess {C T A E : Type 0} (bound : C → ℕ) (scripts : List (List C)) (parts : ℕ) (moved : Bool) (s t : SessionState T A E) : Type 0 where
  pub left : ℕ
  pub no_more : left ≤ parts
  pub under_way : IsUnderWayWith bound scripts left t
  pub nearer : Nears moved (left_with scripts parts s) (left_with scripts left t)
