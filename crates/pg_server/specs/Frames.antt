-- The frames of a client, and what reading one answers (PostgreSQL documentation, "Message Formats").
use Rattle.std.specs.Prelude.{◌≡◌, ℕ, Bool, true, false, not, ◌&&◌, ◌==◌, List, [], ◌∷◌, Option, Some, None, Result, Ok, Err, if◌then◌else◌}
use Rattle.std.specs.List.{list_all, list_any}
use Rattle.std.specs.Str.{byte, is_utf8}
use Rattle.pg_spec.specs.ClientFrames as spec
use Rattle.pg_spec.specs.RawMessages.{RawMessage, message_at, has_bad_header}
use Rattle.pg_types.specs.declared.faults.WireFault.{WireFault}
use Rattle.pg_types.specs.declared.faults.WireFault.TheVariants as wire
use Rattle.pg_server.specs.declared.frame.Frame.{Frame}
use Rattle.pg_server.specs.declared.frame.Frame.TheVariants as frames

-- a frame as the layouts have it
abbrev pub frame_view : Frame → spec.ClientFrame
frame_view (frames.Query text) = spec.Query text
frame_view (frames.Parse name text oids) = spec.Parse name text oids
frame_view (frames.Bind portal statement formats values results) = spec.Bind portal statement formats values results
frame_view (frames.Describe variant name) = spec.Describe variant name
frame_view (frames.Execute portal max_rows) = spec.Execute portal max_rows
frame_view (frames.Close variant name) = spec.Close variant name
frame_view frames.Sync = spec.Sync
frame_view frames.Flush = spec.Flush
frame_view (frames.CopyData piece) = spec.CopyData piece
frame_view frames.CopyDone = spec.CopyDone
frame_view (frames.CopyFail message) = spec.CopyFail message
frame_view frames.Terminate = spec.Terminate

-- the texts of a frame
abbrev pub texts_in : spec.ClientFrame → List (List ℕ)
texts_in (spec.Query text) = text ∷ []
texts_in (spec.Parse name text oids) = name ∷ text ∷ []
texts_in (spec.Bind portal statement formats values results) = portal ∷ statement ∷ []
texts_in (spec.Describe variant name) = name ∷ []
texts_in (spec.Close variant name) = name ∷ []
texts_in (spec.Execute portal max_rows) = portal ∷ []
texts_in (spec.CopyFail message) = message ∷ []
texts_in other = []

-- they are UTF-8
abbrev pub is_text : spec.ClientFrame → Bool
is_text frame = list_all is_utf8 (texts_in frame)

-- a tag of one of these frames; an answer to a request for authentication is none of them
abbrev pub is_known : ℕ → Bool
is_known tag = list_any (λ layout. layout.tag == tag) spec.layouts && not (tag == byte "p")

-- what was laid out is a frame where its texts are UTF-8
abbrev pub with_texts : Option spec.ClientFrame → Result spec.ClientFrame WireFault
with_texts None = Err wire.Layout
with_texts (Some frame) = if is_text frame then Ok frame else Err wire.NotUtf8

-- The frame of a tag and a body, or what is wrong with them: the tag, then the layout, then the texts.
abbrev pub frame_or_fault : RawMessage → Result spec.ClientFrame WireFault
frame_or_fault raw = if is_known raw.tag then with_texts (spec.client_frame_of raw) else Err wire.UnknownTag

-- the whole frame in front came off, and is this one
pub record TakesFrame (old new : List ℕ) (frame : Frame) : Type 0 where
  pub raw : RawMessage
  pub front : message_at old ≡ Some (raw, new)
  pub means : frame_or_fault raw ≡ Ok (frame_view frame)

-- the whole frame in front is refused, and the bytes are as they were
pub record RefusesFrame (old new : List ℕ) (fault : WireFault) : Type 0 where
  pub same : new ≡ old
  pub raw : RawMessage
  pub rest : List ℕ
  pub front : message_at old ≡ Some (raw, rest)
  pub means : frame_or_fault raw ≡ Err fault

-- no whole frame stands in front, and the bytes are as they were
pub record FindsNone (old new : List ℕ) (bad : Bool) : Type 0 where
  pub same : new ≡ old
  pub none : message_at old ≡ None
  pub header : has_bad_header old ≡ bad

-- what `parse` answers; want of memory changes nothing
abbrev pub Parses : List ℕ → List ℕ → Result (Option Frame) WireFault → Type 0
Parses old new (Ok None) = FindsNone old new false
Parses old new (Ok (Some frame)) = TakesFrame old new frame
Parses old new (Err wire.BadLength) = FindsNone old new true
Parses old new (Err wire.OutOfMemory) = new ≡ old
Parses old new (Err fault) = RefusesFrame old new fault

-- the frame of a tag and a body, or what is wrong with them; memory may lack
abbrev pub IsFrame : RawMessage → Result Frame WireFault → Type 0
IsFrame raw (Ok frame) = frame_or_fault raw ≡ Ok (frame_view frame)
IsFrame raw (Err wire.BadLength) = ⊥
IsFrame raw (Err wire.OutOfMemory) = Unit {0}
IsFrame raw (Err fault) = frame_or_fault raw ≡ Err fault

-- the same of a body that was laid out, or not
abbrev pub ReadsFrame : Option spec.ClientFrame → Result Frame WireFault → Type 0
ReadsFrame found (Ok frame) = with_texts found ≡ Ok (frame_view frame)
ReadsFrame found (Err wire.Layout) = with_texts found ≡ Err wire.Layout
ReadsFrame found (Err wire.NotUtf8) = with_texts found ≡ Err wire.NotUtf8
ReadsFrame found (Err wire.OutOfMemory) = Unit {0}
ReadsFrame found (Err other) = ⊥

-- a text of its own, or why it is none
abbrev pub ReadsText : List ℕ → Result (List ℕ) WireFault → Type 0
ReadsText bytes (Ok text) = (text ≡ bytes) × (is_utf8 bytes ≡ true)
ReadsText bytes (Err wire.NotUtf8) = is_utf8 bytes ≡ false
ReadsText bytes (Err wire.OutOfMemory) = Unit {0}
ReadsText bytes (Err other) = ⊥
