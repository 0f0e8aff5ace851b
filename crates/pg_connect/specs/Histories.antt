-- All that passed through a connection since its startup began, and what a connection that stands there
-- holds. A session speaks of histories and events alone: buffers and bytes stand only in `Stands`.
use Rattle.std.specs.Prelude.{◌≡◌, ℕ, ◌+◌, true, false, IsTrue, List, [], ◌++◌, length}
use Rattle.std.specs.List.{list_all}
use Rattle.pg_spec.specs.Asides.{is_readable}
use Rattle.pg_spec.specs.Links.{LinkView, Grew}
use Rattle.pg_spec.specs.Parameters.{parameter_reports}
use Rattle.pg_spec.specs.RawMessages.{RawMessage, messages, bytes_left, sync_of, async_of}
use Rattle.pg_wire.specs.LinkCalls.{Keeps}
use Rattle.pg_desk.specs.declared.event.Event.{Event}
use Rattle.pg_connect.specs.declared.streams.Streams.{Streams}
use Rattle.pg_connect.specs.Ends.{IsFlushedFrom, last_is, has_none}
use Rattle.pg_connect.specs.Kept.{keep_all}
use Rattle.pg_connect.specs.Passed.{delivered_by, bytes_out_by}
use Rattle.pg_connect.specs.Passes.{held_bytes, waiting, delayed_in, IsUnread, goodbye, risen}
use Rattle.pg_connect.specs.Polls.{NothingDueBefore}
use Rattle.pg_connect.specs.Reads.{AllDecoded}

-- what passed through a connection
pub record History : Type 0 where
  -- how many bytes were given before the startup: the one that answers an SSLRequest, or none
  pub asked : ℕ
  -- the bytes of the startup's frames, and the messages that the startup read
  pub opening : List ℕ
  pub startup : List RawMessage
  -- the messages read since then
  pub read : List RawMessage
  -- the connection's calls of the hub
  pub events : List Event
  -- the notices and notifications handed out
  pub handed : List RawMessage

-- the history behind a startup, before the first poll
abbrev pub new_history : (asked : ℕ) (opening : List ℕ) (startup : List RawMessage) → History
new_history asked opening startup = record { asked = asked; opening = opening; startup = startup; read = []; events = []; handed = [] }

-- the history with what passed in a poll
abbrev pub extended : History → List RawMessage → List Event → List RawMessage → History
extended h read events handed = record h { read = h.read ++ read; events = h.events ++ events; handed = h.handed ++ handed }

-- The connection stands behind this history, over a link that was so when the startup began.
pub record Stands (s : Streams) (base link : LinkView) (h : History) : Type 0 where
  -- all bytes given and taken since then, also where the link doesn't tell them
  pub given : List ℕ
  pub taken : List ℕ
  -- the message that couldn't be read, if there is one
  pub lost : List RawMessage
  pub gave : Grew base.given link.given given
  pub took : Grew base.taken link.taken taken
  pub keeps : Keeps base link
  pub came_off : messages given ≡ (h.startup ++ h.read) ++ (lost ++ messages (held_bytes s))
  pub rest : bytes_left given ≡ bytes_left (held_bytes s)
  pub unread : IsUnread s.unread lost
  pub readable : IsTrue (list_all is_readable h.read)
  pub out : (h.opening ++ bytes_out_by h.events) ++ goodbye false s.closing ≡ taken ++ s.unsent
  pub delivered : sync_of h.read ≡ delivered_by h.events ++ waiting s.held
  pub handed : async_of (h.startup ++ h.read) ≡ h.handed ++ delayed_in s
  pub kept : s.parameters ≡ keep_all [] (parameter_reports (h.startup ++ h.read))
  pub count : s.given ≡ h.asked + length given
  pub counted : s.delivered ≡ risen 0 (length (delivered_by h.events))

-- Over a steady link a poll that had to wait, and met no full mailbox, left nothing to be done: the link took
-- all that went out and was flushed, the hub has no part, all that came is decoded, and what the plan lets come by the bytes
-- taken before was given.
pub record Settled (s : Streams) (before after : LinkView) (events : List Event) : Type 0 where
  pub active : s.closing ≡ false
  pub sent : s.unsent ≡ []
  pub none_left : last_is has_none events ≡ true
  pub flushed : IsFlushedFrom before after
  pub decoded : AllDecoded s
  pub nothing_due : NothingDueBefore before after
