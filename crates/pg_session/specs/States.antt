-- What stands between two turns of a session, whatever its commands are.
use Rattle.std.specs.Prelude.{ℕ, List, map, sum_by, length}
use Rattle.pg_errors.specs.declared.async_message.AsyncMessage.{AsyncMessage}
use Rattle.pg_connect.specs.declared.streams.Streams.{Streams}
use Rattle.pg_hub.specs.Standing.{Standing}
use Rattle.pg_spec.specs.declared.stamps.TurnMark.{TurnMark}
use Rattle.pg_session.specs.Handles.{HandleState, idle_handle}

-- a session
pub record SessionState (T A E : Type 0) : Type 0 where
  pub hub : Standing
  pub streams : Streams
  pub handles : List (HandleState T A E)
  -- how many commands of all handles aren't answered
  pub unanswered : ℕ
  pub trace : List TurnMark
  pub asynchronous : List AsyncMessage

-- one for each script
abbrev pub new_handles : {C T A E : Type 0} → E → List (List C) → List (HandleState T A E)
new_handles begins scripts = map (λ script. idle_handle begins) scripts

-- how many commands the scripts have together
abbrev pub commands_in : {C : Type 0} → List (List C) → ℕ
commands_in {C} scripts = sum_by (λ (script : List C). length script) scripts
