-- The requests of a client, and what a server must keep to for each of them to get one reply (PostgreSQL documentation,
-- "Message Flow": "Simple Query", "Extended Query", "COPY Operations").
use Rattle.std.specs.Prelude.{◌≡◌, ◌⊎◌, Bool, true, false, not, ◌||◌, ◌&&◌, List, [], ◌∷◌, ◌++◌, Option, Some, None, IfSome, IsTrue, IsFalse, ⊤, ◌==◌, ◌+◌, ◌^◌, nat_lt, length, if◌then◌else◌}
use Rattle.std.specs.List.{AllByRecursion, list_any, list_all}
use Rattle.std.specs.Str.{byte}
use Rattle.pg_spec.specs.RawMessages.{RawMessage, is_ready, ends_in}
use Rattle.pg_spec.specs.Sent.{ends_unit}
use Rattle.pg_machine.specs.declared.serving.Mode.{Mode}
use Rattle.pg_machine.specs.declared.serving.Mode.TheVariants.{CopyIn}
use Rattle.pg_machine.specs.declared.serving.Kind.TheVariants.{Query, Sync, CopyDone, CopyFail}
use Rattle.pg_machine.specs.declared.serving.Turn.{Turn}
use Rattle.pg_machine.specs.declared.serving.Turn.TheVariants.{Silent, Ready, AnswersReady, Answers, TakesData, EndsCopy, Refuses}
use Rattle.pg_machine.specs.Serving.{Effect, Service, Serving, kind_of, turn, is_error, serve, served, own_or_refusal}

-- ---- what a service may answer

-- CopyInResponse
abbrev pub is_copy_in : RawMessage → Bool
is_copy_in m = m.tag == byte "G"

-- Execute
abbrev pub is_execute : RawMessage → Bool
is_execute frame = frame.tag == byte "E"

-- a message fits its length field
abbrev pub fits : RawMessage → Bool
fits m = nat_lt (4 + length m.body) (2 ^ 31)

-- Whole messages without ReadyForQuery. Only Execute opens a copy: its answer ends in CopyInResponse and has no error. No
-- other answer has a CopyInResponse.
abbrev pub is_sound : RawMessage → Effect → Bool
is_sound frame effect =
    list_all (λ m. fits m && not (is_ready m)) effect.reply
    && (if effect.opens then is_execute frame && ends_in is_copy_in effect.reply && not (list_any is_error effect.reply)
    else not (list_any is_copy_in effect.reply))

-- the effect that a frame has, where the service is asked for one
abbrev pub asked : {S : Type 0} → Service S → S → Turn → RawMessage → Option (Effect × S)
asked service state Silent frame = None
asked service state Ready frame = None
asked service state TakesData frame = service.answers state frame
asked service state Refuses frame = Some (service.refuses state frame)
asked service state AnswersReady frame = Some (own_or_refusal service state frame)
asked service state Answers frame = Some (own_or_refusal service state frame)
asked service state EndsCopy frame = Some (own_or_refusal service state frame)

-- each effect that these frames have is sound
abbrev pub SoundAlong : {S : Type 0} → Service S → Serving S → List RawMessage → Type 0
SoundAlong service at [] = ⊤
SoundAlong service at (frame ∷ frames) =
    IfSome (asked service at.state (turn at.mode (kind_of frame)) frame) (λ a. IsTrue (is_sound frame a.0))
    × SoundAlong service (serve service at frame).next frames

-- ---- requests

-- a Query alone
pub record IsQuery (frames : List RawMessage) : Type 0 where
  pub frame : RawMessage
  pub is : frames ≡ frame ∷ []
  pub query : kind_of frame ≡ Query

-- frames without Query and Sync, and a Sync behind them
pub record IsSynced (frames : List RawMessage) : Type 0 where
  pub front : List RawMessage
  pub last : RawMessage
  pub is : frames ≡ front ++ last ∷ []
  pub no_other : AllByRecursion (λ frame. IsFalse (ends_unit frame)) front
  pub sync : kind_of last ≡ Sync

-- The request of a copy: the last but one frame is CopyDone or CopyFail.
pub record IsCopy (frames : List RawMessage) : Type 0 where
  pub front : List RawMessage
  pub end : RawMessage
  pub last : RawMessage
  pub is : frames ≡ (front ++ end ∷ []) ++ last ∷ []
  pub no_other : AllByRecursion (λ frame. IsFalse (ends_unit frame)) front
  pub ends : (kind_of end ≡ CopyDone) ⊎ (kind_of end ≡ CopyFail)
  pub sync : kind_of last ≡ Sync

-- the frames of one request
abbrev pub IsRequest : List RawMessage → Type 0
IsRequest frames = IsQuery frames ⊎ (IsSynced frames ⊎ IsCopy frames)

-- the server takes copy data
abbrev pub takes_data : Mode → Bool
takes_data CopyIn = true
takes_data mode = false

-- some of these frames opens a copy
abbrev pub opens_copy : {S : Type 0} → Service S → Serving S → List RawMessage → Bool
opens_copy service at [] = false
opens_copy service at (frame ∷ frames) = takes_data (serve service at frame).next.mode || opens_copy service (serve service at frame).next frames

-- No request but a copy's opens a copy.
abbrev pub OnlyCopiesOpen : {S : Type 0} → Service S → Serving S → List (List RawMessage) → Type 0
OnlyCopiesOpen service at [] = ⊤
OnlyCopiesOpen service at (frames ∷ requests) =
    (IsTrue (opens_copy service at frames) → IsCopy frames) × OnlyCopiesOpen service (served service at frames).next requests

-- ---- replies

-- Messages of which none is ReadyForQuery, and one ReadyForQuery behind them.
pub record IsReply (reply : List RawMessage) : Type 0 where
  pub front : List RawMessage
  pub last : RawMessage
  pub is : reply ≡ front ++ last ∷ []
  pub no_other : AllByRecursion (λ m. IsFalse (is_ready m)) front
  pub ready : IsTrue (is_ready last)
