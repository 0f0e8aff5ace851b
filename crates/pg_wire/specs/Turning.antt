-- How the frames of a client that give the turn to the server are counted as its bytes come (PostgreSQL
-- documentation, "Message Flow").
use Rattle.std.specs.Prelude.{◌≡◌, ℕ, ◌+◌, ◌-◌, ◌<◌, ◌≤◌, ◌⊎◌, Bool, false, ◌||◌, ◌==◌, List, ◌++◌, length, drop, count_by, Option, Some, None, if◌then◌else◌}
use Rattle.std.specs.Int.{w32}
use Rattle.std.specs.Str.{byte}
use Rattle.pg_spec.specs.Bytes.{number_at}
use Rattle.pg_spec.specs.RawMessages.{messages}
use Rattle.pg_spec.specs.Sent.{asked_for_tls, behind_length, gives_turn, turns_given}
use Rattle.pg_wire.specs.declared.turning.Stage.{Stage}
use Rattle.pg_wire.specs.declared.turning.Stage.TheVariants.{Start, Startup, Frames}
use Rattle.pg_wire.specs.declared.turning.Turning.{Turning}
use Rattle.pg_wire.specs.declared.turning.Frame.{Frame}

-- the turns that tagged frames give
abbrev pub counted : List ℕ → ℕ
counted bytes = count_by gives_turn (messages bytes)

-- the turns that the startup frame and the frames behind it give
abbrev pub started : List ℕ → ℕ
started bytes = elim (behind_length bytes (number_at w32 bytes)) [ None ↦ 0 | Some rest ↦ 1 + counted rest ]

-- the turns that the bytes behind a place give
abbrev pub turns_of : Stage → List ℕ → ℕ
turns_of Start bytes = turns_given bytes
turns_of Startup bytes = started bytes
turns_of Frames bytes = counted bytes

-- as many turns at most were counted before a place
abbrev pub most_turns : Stage → ℕ → ℕ
most_turns Start at = 0
most_turns Startup at = at
most_turns Frames at = at + 1

-- The turns of these bytes, and of any that come behind them, are those that were counted and those behind the place.
pub record Counts (sent : List ℕ) (turning : Turning) : Type 0 where
  pub within : turning.at ≤ length sent
  pub few : turning.turns ≤ most_turns turning.stage turning.at
  pub turns : (more : List ℕ) → turns_given (sent ++ more) ≡ turning.turns + turns_of turning.stage (drop turning.at (sent ++ more))

-- the bytes begin with an SSLRequest, or they don't whatever follows; where that isn't known they give no turn
abbrev pub AsksForTls : List ℕ → Option Bool → Type 0
AsksForTls bytes None = turns_given bytes ≡ 0
AsksForTls bytes (Some asked) = ((8 ≤ length bytes) ⊎ (asked ≡ false)) × ((more : List ℕ) → asked_for_tls (bytes ++ more) ≡ asked)

-- the startup frame ends there; where it hasn't come whole there is no turn
abbrev pub EndsStartup : List ℕ → Option ℕ → Type 0
EndsStartup bytes None = started bytes ≡ 0
EndsStartup bytes (Some n) = (n ≤ length bytes) × ((more : List ℕ) → started (bytes ++ more) ≡ 1 + counted (drop n (bytes ++ more)))

-- the tags of frames that give the turn
abbrev pub is_turn_tag : ℕ → Bool
is_turn_tag tag = (tag == byte "p" || (tag == byte "Q" || tag == byte "S")) || tag == byte "H"

-- a frame ends there; where none has come whole there is no turn
abbrev pub EndsFrame : List ℕ → Option Frame → Type 0
EndsFrame bytes None = counted bytes ≡ 0
EndsFrame bytes (Some frame) = (1 ≤ frame.len) × (frame.len ≤ length bytes)
    × ((more : List ℕ) → counted (bytes ++ more) ≡ (if frame.gives_turn then 1 else 0) + counted (drop frame.len (bytes ++ more)))

-- how many stages come behind this one
abbrev pub stages_left : Stage → ℕ
stages_left Start = 2
stages_left Startup = 1
stages_left Frames = 0

-- how often something can be cut off of so many bytes
abbrev pub steps_of : ℕ → Turning → ℕ
steps_of len turning = (len - turning.at) + stages_left turning.stage

-- one thing more was gone past; None where nothing stands whole, and then no turn does
abbrev pub IsNext : List ℕ → Turning → Option Turning → Type 0
IsNext sent turning None = turns_of turning.stage (drop turning.at sent) ≡ 0
IsNext sent turning (Some next) = Counts sent next × (steps_of (length sent) next < steps_of (length sent) turning)
