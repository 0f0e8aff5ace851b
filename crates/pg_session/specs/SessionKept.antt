-- What holds of a session between two turns.
use Rattle.std.specs.Prelude.{◌≡◌, ℕ, ◌+◌, ◌-◌, true, false, List, [], ◌∷◌, length, ◌<◌, ◌^◌}
use Rattle.pg_spec.specs.RawMessages.{RawMessage, groups, sync_of}
use Rattle.pg_spec.specs.Turns.{delivered_before}
use Rattle.pg_spec.specs.declared.stamps.TurnMark.{TurnMark}
use Rattle.pg_connect.specs.Passes.{risen}
use Rattle.pg_desk.specs.History as history
use Rattle.pg_desk.specs.History.{IsFrontOf, State}
use Rattle.pg_hub.specs.Fits.{Fits}
use Rattle.pg_query.specs.declared.desk_call.DeskCall.{DeskCall}
use Rattle.pg_query.specs.declared.desk_call.Reply.{Reply}
use Rattle.pg_spec.specs.Courses.{Asked, Course}
use Rattle.pg_session.specs.Speeches.{Speech}
use Rattle.pg_session.specs.Handles.{HandleState}
use Rattle.pg_session.specs.States.{SessionState}
use Rattle.pg_session.specs.Kept.{AllKept}

-- How many commands are left of scripts, where these handles answered so many.
abbrev pub left : {C T A E : Type 0} → List (List C) → List (HandleState T A E) → ℕ
left [] handles = 0
left (script ∷ scripts) [] = 0
left (script ∷ scripts) (h ∷ handles) = (length script - length h.answers) + left scripts handles

-- What the turns so far are in the whole session: a front of its trace, and what came is a front of all that came, and is counted by 64 bits.
pub record IsWithin (course : Course DeskCall Reply) (later : List RawMessage) (trace : List TurnMark) (came : List RawMessage) : Type 0 where
  pub turns : IsFrontOf trace course.trace
  pub front : IsFrontOf came (sync_of later)
  pub replies : course.replies ≡ groups later
  pub small : length came < 2 ^ 64

-- What holds of a session between two turns, where this was asked so far and these messages came.
pub record SessionKept {C T A E : Type 0} (speech : Speech C T A E) (scripts : List (List C)) (course : Course DeskCall Reply) (asked : List (Asked DeskCall Reply)) (came : List RawMessage) (s : SessionState T A E) : Type 0 where
  pub state : State
  pub fits : Fits state s.hub
  pub received : history.received state.deliveries ≡ came
  pub closed : s.hub.closed ≡ true → s.unanswered ≡ 0
  pub failed : s.hub.failed ≡ false
  pub closing : s.streams.closing ≡ true → s.hub.closed ≡ true
  pub unanswered : s.unanswered ≡ left scripts s.handles
  pub many : length s.handles ≡ length scripts
  pub marked : delivered_before s.trace (length s.trace) ≡ s.streams.delivered
  pub counted : s.streams.delivered ≡ risen 0 (length came)
  pub all : AllKept speech scripts course (record { turns = length s.trace; asked = asked; state = state }) s.handles
