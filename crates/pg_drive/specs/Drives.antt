-- A drive: a command's state and its connection, which are polled in turn.
use Rattle.std.specs.Prelude.{◌≡◌, ◌⊎◌, List, [], ◌∷◌, Option, Some, None, IfSome, IsSomeAnd, Result, Ok, Err}
use Rattle.futures.specs.declared.task.Poll.{Poll}
use Rattle.futures.specs.declared.task.Poll.TheVariants.{Ready, Pending}
use Rattle.pg_spec.specs.declared.stamps.Stamp.{Stamp}
use Rattle.pg_types.specs.declared.error.Error.{Error}
use Rattle.pg_desk.specs.declared.event.Event.{Event}
use Rattle.pg_query.specs.Meaning.{Place, GoesToAnswer, Pauses, GivesUp}
use Rattle.pg_spec.specs.Links.{LinkView}
use Rattle.pg_drive.specs.declared.drive.Drive.{Drive}
use Rattle.pg_drive.specs.Lines.{LineView, LineSteps, seen}

-- the line with another hub
abbrev pub over : {H : Type 0} → H → LineView H → LineView H
over hub l = record l { hub = hub }

-- The state waits, and then the connection was polled. Both go on.
pub record GoesOn {H T : Type 0} (becomes : H → List Event → H → Type 0) (stamp : Stamp) (p : Place T) (a : LineView H) (q : Place T) (b : LineView H) : Type 0 where
  pub between : H
  pub pauses : Pauses becomes stamp a.hub p between q
  pub line : LineSteps becomes (over between a) b (Ok tt)

-- The state answered, and the connection was left as it was.
pub record Answers {H T : Type 0} (becomes : H → List Event → H → Type 0) (stamp : Stamp) (p : Place T) (a b : LineView H) (r : Result T Error) : Type 0 where
  pub goes : GoesToAnswer becomes stamp a.hub p b.hub r
  pub same : b ≡ over b.hub a

-- A state was given up, and this is what it answered to that.
pub record HungUp {H T : Type 0} (becomes : H → List Event → H → Type 0) (stamp : Stamp) (a : H) (p : Place T) (b : H) : Type 0 where
  pub answer : Result (Unit {0}) Error
  pub gives_up : GivesUp becomes stamp a p b answer

-- The state waits, then the connection failed or the link was waited for in vain, and the state was hung up.
pub record Breaks {H T : Type 0} (becomes : H → List Event → H → Type 0) (stamp : Stamp) (p : Place T) (a b : LineView H) (r : Result T Error) : Type 0 where
  pub error : Error
  pub says : r ≡ Err error
  pub between : H
  pub place : Place T
  pub pauses : Pauses becomes stamp a.hub p between place
  pub failed : LineView H
  pub line : LineSteps becomes (over between a) failed (Err error)
  pub hung_up : HungUp becomes stamp failed.hub place b.hub
  pub same : b ≡ over b.hub failed

-- how a drive ends
abbrev pub Ends : {H T : Type 0} → (H → List Event → H → Type 0) → Stamp → Place T → (a b : LineView H) → Result T Error → Type 0
Ends becomes stamp p a b r = Answers becomes stamp p a b r ⊎ Breaks becomes stamp p a b r

-- what a poll of a drive did, by what it answered; behind the end it holds no state
abbrev pub Polls : {H T : Type 0} → (H → List Event → H → Type 0) → Stamp → Place T → LineView H → Option (Place T) → LineView H → Poll (Result T Error) → Type 0
Polls becomes stamp p a (Some q) b Pending = GoesOn becomes stamp p a q b
Polls becomes stamp p a None b Pending = ⊥
Polls becomes stamp p a q b (Ready r) = (q ≡ None) × Ends becomes stamp p a b r

-- where a drive stands between two polls
pub record Stand (H T : Type 0) : Type 0 where
  pub place : Place T
  pub line : LineView H

-- some polls led from one stand over these to another: in each the state waits and the connection goes on
abbrev pub Drives : {H T : Type 0} → (H → List Event → H → Type 0) → Stamp → (s : Stand H T) → List (Stand H T) → (t : Stand H T) → Type 0
Drives becomes stamp s [] t = t ≡ s
Drives becomes stamp s (next ∷ more) t = GoesOn becomes stamp s.place s.line next.place next.line × Drives becomes stamp next more t

-- what a drive that stands here gives in the end: after some polls the last one ends it so
pub record Gives {H T : Type 0} (becomes : H → List Event → H → Type 0) (stamp : Stamp) (s : Stand H T) (r : Result T Error) : Type 0 where
  pub stands : List (Stand H T)
  pub last : Stand H T
  pub drives : Drives becomes stamp s stands last
  pub left : LineView H
  pub ends : Ends becomes stamp last.place last.line left r

-- what driving a command over a line did: after some polls the last one ended it so, and left the line so
pub record Asked {H T : Type 0} (becomes : H → List Event → H → Type 0) (stamp : Stamp) (s : Stand H T) (left : LineView H) (r : Result T Error) : Type 0 where
  pub stands : List (Stand H T)
  pub last : Stand H T
  pub drives : Drives becomes stamp s stands last
  pub ends : Ends becomes stamp last.place last.line left r

-- it holds a state that hasn't answered
abbrev pub IsLive : {S L H : Type 0} → (S → Type 0) → Drive S L H → Type 0
IsLive is_live d = IsSomeAnd d.state is_live

-- what it gives in the end
abbrev pub GivesAt : {S L H T : Type 0} → (H → List Event → H → Type 0) → (S → Place T) → (L → LinkView) → Drive S L H → Result T Error → Type 0
GivesAt becomes place view d r = IfSome d.state (λ s. Gives becomes d.stamp (record { place = place s; line = seen view d.line }) r)
