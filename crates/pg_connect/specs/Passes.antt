-- What some calls of a connection passed on, from the link to the hub and from the hub to the link.
use Rattle.std.specs.Prelude.{◌≡◌, ℕ, ◌+◌, ◌-◌, ◌^◌, ◌⊎◌, min, max, Bool, true, false, not, ◌||◌, IsTrue, List, [], ◌∷◌, ◌++◌, length, map, Option, Some, None, Ok}
use Rattle.std.specs.List.{list_all, list_any}
use Rattle.std.specs.Str.{byte}
use Rattle.pg_spec.specs.Batches.{is_nothing}
use Rattle.pg_spec.specs.Asides.{is_readable}
use Rattle.pg_spec.specs.Frames.{terminate_frame}
use Rattle.pg_spec.specs.Links.{LinkView, Grew, Rose}
use Rattle.pg_spec.specs.Messages.{message_of}
use Rattle.pg_spec.specs.Parameters.{parameter_reports}
use Rattle.pg_spec.specs.RawMessages.{RawMessage, messages, bytes_left, is_aside, sync_of, async_of}
use Rattle.pg_wire.specs.declared.body.ErrorResponseBody.{ErrorResponseBody}
use Rattle.pg_wire.specs.declared.message.Message.{Message}
use Rattle.pg_wire.specs.LinkCalls.{Keeps, SameBytes}
use Rattle.pg_wire.specs.Messages.{message_view}
use Rattle.pg_desk.specs.declared.event.Event.{Event}
use Rattle.pg_connect.specs.declared.streams.Held.{Held}
use Rattle.pg_connect.specs.declared.streams.Streams.{Streams}
use Rattle.pg_connect.specs.Kept.{keep_all}
use Rattle.pg_connect.specs.Passed.{AllEngineCalls, delivered_by, bytes_out_by, last_part, moves_in, parts_out_by}

-- the messages of a batch that is held
abbrev pub waiting : Option Held → List RawMessage
waiting None = []
waiting (Some held) = held.batch

-- the bytes that were given and aren't decoded
abbrev pub held_bytes : Streams → List ℕ
held_bytes s = s.buffer.items

-- a notice as it stood on the wire
abbrev pub notice_of : ErrorResponseBody → RawMessage
notice_of body = record { tag = byte "N"; body = body.fields }

-- the notices that are delayed
abbrev pub delayed_in : Streams → List RawMessage
delayed_in s = map notice_of s.delayed.items

-- a message that no request asked for came off, and this is it
pub record CameOff (message : Message) (off : List RawMessage) : Type 0 where
  pub raw : RawMessage
  pub alone : off ≡ raw ∷ []
  pub aside : is_aside raw ≡ true
  pub means : message_of raw ≡ Ok (message_view message)

-- the message that came off and couldn't be read, if there is one
abbrev pub IsUnread : Option Message → List RawMessage → Type 0
IsUnread None off = off ≡ []
IsUnread (Some message) off = CameOff message off

-- what is queued where a connection begins to close: Terminate
abbrev pub goodbye : Bool → Bool → List ℕ
goodbye true later = []
goodbye false true = terminate_frame
goodbye false false = []

-- the same, as the parts that are queued
abbrev pub farewell : Bool → Bool → List (List ℕ)
farewell true later = []
farewell false true = terminate_frame ∷ []
farewell false false = []

-- a byte was given or taken, a message handed out, a batch delivered or discarded, or a part taken out
abbrev pub moves : (got sent : List ℕ) (handed : List RawMessage) (events : List Event) → Bool
moves got sent handed events = (not (is_nothing got) || not (is_nothing sent)) || (not (is_nothing handed) || list_any moves_in events)

-- a count of 64 bits after n more: it stays at its last value
abbrev pub risen : ℕ → ℕ → ℕ
risen count n = max count (min (count + n) (2 ^ 64 - 1))

-- The link gave and took nothing, may give what it might before, and is promised as before.
pub record Untouched (before after : LinkView) : Type 0 where
  pub bytes : SameBytes before after
  pub promised : after.promised ≡ before.promised

-- these are the last of all
abbrev pub StandsLast : {X : Type 0} → (last all : List X) → Type 0
StandsLast {X} last all = (front : List X) × (all ≡ front ++ last)

-- The batch that is held is the one that was, and nothing came off, or it is the last of what came off.
abbrev pub HoldsLast : (before now off : List RawMessage) → Type 0
HoldsLast before now off = ((now ≡ before) × (off ≡ [])) ⊎ StandsLast now off

-- In these calls the link gave and took bytes, messages were read, the hub took messages and handed out
-- parts by these events, and these messages were handed out.
pub record Passes (old new : Streams) (before after : LinkView) (events : List Event) (handed : List RawMessage) : Type 0 where
  pub got : List ℕ
  pub sent : List ℕ
  pub read : List RawMessage
  -- the message that couldn't be read, which ends the connection
  pub lost : List RawMessage
  -- the link gave its end
  pub over : Bool
  pub given : Grew before.given after.given got
  pub taken : Grew before.taken after.taken sent
  -- messages are read off the bytes in order
  pub came_off : messages (old.buffer.items ++ got) ≡ read ++ (lost ++ messages new.buffer.items)
  pub rest : bytes_left (old.buffer.items ++ got) ≡ bytes_left new.buffer.items
  pub all_read : old.unread ≡ None
  pub unread : IsUnread new.unread lost
  -- and each that no request asked for can be read
  pub readable : IsTrue (list_all is_readable read)
  -- what was held or read is delivered in order, or held
  pub delivered : waiting old.held ++ sync_of read ≡ delivered_by events ++ waiting new.held
  -- the batch that is held was so before, or came off last
  pub held_last : HoldsLast (waiting old.held) (waiting new.held) (read ++ lost)
  -- what was delayed or read is handed out in order, or delayed
  pub handed_out : delayed_in old ++ async_of read ≡ handed ++ delayed_in new
  -- of the reports that were read the last for each name is kept
  pub kept : new.parameters ≡ keep_all old.parameters (parameter_reports read)
  -- what was unsent or went out is taken in order, or unsent; Terminate comes last
  pub out : (old.unsent ++ bytes_out_by events) ++ goodbye old.closing new.closing ≡ sent ++ new.unsent
  -- and no more than the rest of one part is unsent: a part goes out once the one before was taken
  pub one_part : StandsLast new.unsent (last_part old.unsent (parts_out_by events ++ farewell old.closing new.closing))
  pub still_closing : IsTrue old.closing → IsTrue new.closing
  pub nothing_more : IsTrue old.closing → bytes_out_by events ≡ []
  pub count : new.given ≡ old.given + length got
  pub delivered_count : new.delivered ≡ risen old.delivered (length (delivered_by events))
  pub limit : new.max_bytes ≡ old.max_bytes
  pub flag : new.ended ≡ old.ended
  pub moved : new.moved ≡ (old.moved || (moves got sent handed events || over))
  pub at_end : new.at_end ≡ (old.at_end || over)
  pub ended_there : over ≡ true → Rose before.ends after.ends
  pub still : new.moved ≡ false → Untouched before after
  pub link : Keeps before after

-- the same, and what was handed out is so
pub record PassesOn (old new : Streams) (before after : LinkView) (events : List Event) (which : List RawMessage → Type 0) : Type 0 where
  pub handed : List RawMessage
  pub is : which handed
  pub passes : Passes old new before after events handed

-- By some calls of an engine the hub became another, these passed on what they did, and they ended so.
pub record Goes {H : Type 0} (becomes : H → List Event → H → Type 0) (a b : H) (old new : Streams) (before after : LinkView)
    (handed : List RawMessage) (ends : List Event → Type 0) : Type 0 where
  pub events : List Event
  pub calls : AllEngineCalls events
  pub became : becomes a events b
  pub passes : Passes old new before after events handed
  pub ended : ends events

-- the same, and these messages were handed out
pub record Hands {H : Type 0} (becomes : H → List Event → H → Type 0) (a b : H) (old new : Streams) (before after : LinkView)
    (which : List RawMessage → Type 0) (ends : List Event → Type 0) : Type 0 where
  pub handed : List RawMessage
  pub is : which handed
  pub goes : Goes becomes a b old new before after handed ends

-- Nothing was read in these calls.
pub record OnlySends (old new : Streams) (before after : LinkView) : Type 0 where
  pub given : after.given ≡ before.given
  pub count : new.given ≡ old.given
  pub buffer : new.buffer.items ≡ old.buffer.items
  pub held : new.held ≡ old.held
  pub delayed : delayed_in new ≡ delayed_in old
  pub unread : new.unread ≡ old.unread
  pub at_end : new.at_end ≡ old.at_end

-- Nothing was sent in these calls, and the link wasn't shut down.
pub record OnlyReads (old new : Streams) (before after : LinkView) : Type 0 where
  pub taken : after.taken ≡ before.taken
  pub closing : new.closing ≡ old.closing
  pub shut : after.shut ≡ before.shut
