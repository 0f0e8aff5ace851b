-- Tasks that take turns over one line.
use Rattle.std.specs.Prelude.{◌≡◌, ◌⊎◌, ℕ, zero, suc, Bool, true, false, if◌then◌else◌, ◌||◌, List, [], ◌∷◌, length, Some, slice_get, slice_set, Result, Ok, Err}
use Rattle.std.specs.List.{All}
use Rattle.futures.specs.declared.task.Poll.{Poll}
use Rattle.futures.specs.declared.task.Poll.TheVariants.{Ready, Pending}
use Rattle.pg_spec.specs.Links.{LinkView}
use Rattle.pg_types.specs.declared.error.Error.{Error}
use Rattle.pg_desk.specs.declared.event.Event.{Event}
use Rattle.pg_drive.specs.declared.line.Line.{Line}
use Rattle.pg_drive.specs.declared.line.Lull.TheVariants.{Moved}
use Rattle.pg_drive.specs.Lines.{LineView, LineSteps, seen}
use Rattle.pg_drive.specs.Lives.{is_desk_call}

-- only calls of a desk
abbrev pub AllDeskCalls : List Event → Type 0
AllDeskCalls [] = Unit {0}
AllDeskCalls (e ∷ es) = (is_desk_call e ≡ true) × AllDeskCalls es

-- By some calls of a desk the hub became another, and a turn in which these were made led a task from one stand to another, and moved
-- something or not.
pub record TakesTurn {H S : Type 0} (becomes : H → List Event → H → Type 0) (turns : S → List Event → Bool → S → Type 0) (a : H) (s : S) (moved : Bool) (b : H) (t : S) : Type 0 where
  pub events : List Event
  pub calls : AllDeskCalls events
  pub became : becomes a events b
  pub turn : turns s events moved t

-- every task is done
abbrev pub AreDone : {S : Type 0} → (done : S → Bool) → List S → Type 0
AreDone done ss = All (λ s. done s ≡ true) ss

-- one isn't
pub record IsLeft {S : Type 0} (done : S → Bool) (ss : List S) : Type 0 where
  pub place : ℕ
  pub task : S
  pub stands : slice_get ss place ≡ Some task
  pub left : done task ≡ false

-- a line, and the tasks that share it
pub record Shared (H S : Type 0) : Type 0 where
  pub line : LineView H
  pub tasks : List S

-- what they stand for
abbrev pub shared : {L H S : Type 0} → (L → LinkView) → Line L H → List S → Shared H S
shared view line tasks = record { line = seen view line; tasks = tasks }

-- the line behind turns: where they moved something, the polls in which nothing moves are counted anew
abbrev pub behind_turns : {H : Type 0} → LineView H → H → (moved : Bool) → LineView H
behind_turns l hub moved = record l { hub = hub; lull = if moved then Moved else l.lull }

module _ {H S : Type 0} (becomes : H → List Event → H → Type 0) (done : S → Bool) (turns : S → List Event → Bool → S → Type 0) where
  -- The task at this place isn't done and had a turn.
  pub record HadTurn (place : ℕ) (a : H) (ss : List S) (moved : Bool) (b : H) (ts : List S) : Type 0 where
    pub task : S
    pub stood : slice_get ss place ≡ Some task
    pub left : done task ≡ false
    pub next : S
    pub turn : TakesTurn becomes turns a task moved b next
    pub others : ts ≡ slice_set ss place next

  -- The task at this place is done, and nothing happened.
  pub record HadNone (place : ℕ) (a : H) (ss : List S) (moved : Bool) (b : H) (ts : List S) : Type 0 where
    pub task : S
    pub stood : slice_get ss place ≡ Some task
    pub ended : done task ≡ true
    pub unmoved : moved ≡ false
    pub hub : b ≡ a
    pub same : ts ≡ ss

  -- the task at this place had its turn, if it isn't done
  abbrev pub TurnAt : (place : ℕ) (a : H) (ss : List S) (moved : Bool) (b : H) (ts : List S) → Type 0
  TurnAt place a ss moved b ts = HadTurn place a ss moved b ts ⊎ HadNone place a ss moved b ts

  -- the first `n` tasks had their turns, in order; something moved if it did in one of them
  abbrev pub TakeTurns : (n : ℕ) (a : H) (ss : List S) (moved : Bool) (b : H) (ts : List S) → Type 0
  TakeTurns zero a ss moved b ts = (moved ≡ false) × (b ≡ a) × (ts ≡ ss)
  TakeTurns (suc n) a ss moved b ts = (early : Bool) × (late : Bool) × (mid : H) × (mids : List S) ×
      TakeTurns n a ss early mid mids × TurnAt n mid mids late b ts × (moved ≡ (early || late))

  -- All tasks had their turns. By these the hub became this, and something moved or not.
  pub record AllTookTurns (s : Shared H S) (ts : List S) : Type 0 where
    pub hub : H
    pub moved : Bool
    pub took : TakeTurns (length s.tasks) s.line.hub s.tasks moved hub ts

  -- A round, behind whose turns one isn't done: the line made a step, which ended so.
  pub record GoesRound (s t : Shared H S) (r : Result (Unit {0}) Error) : Type 0 where
    pub took : AllTookTurns s t.tasks
    pub left : IsLeft done t.tasks
    pub line : LineSteps becomes (behind_turns s.line took.hub took.moved) t.line r

  -- A round behind whose turns all are done: the connection is as it was.
  pub record EndsRound (s t : Shared H S) : Type 0 where
    pub took : AllTookTurns s t.tasks
    pub ended : AreDone done t.tasks
    pub line : t.line ≡ record s.line { hub = took.hub }

  -- how a round ends that doesn't go on: all are done, or the line fails
  abbrev pub RoundEnds : (s t : Shared H S) → Result (Unit {0}) Error → Type 0
  RoundEnds s t (Ok x) = EndsRound s t
  RoundEnds s t (Err e) = GoesRound s t (Err e)

  -- a round, by what it answers
  abbrev pub RoundMade : (s t : Shared H S) → Poll (Result (Unit {0}) Error) → Type 0
  RoundMade s t Pending = GoesRound s t (Ok tt)
  RoundMade s t (Ready r) = RoundEnds s t r

  -- so many rounds, which go on
  abbrev pub Rounds : ℕ → (s t : Shared H S) → Type 0
  Rounds zero s t = t ≡ s
  Rounds (suc n) s t = (mid : Shared H S) × Rounds n s mid × GoesRound mid t (Ok tt)

  -- Some rounds went on, and the last one ended so.
  pub record Runs (s t : Shared H S) (r : Result (Unit {0}) Error) : Type 0 where
    pub count : ℕ
    pub last : Shared H S
    pub rounds : Rounds count s last
    pub ends : RoundEnds last t r
