-- What a turn of a handle does, whatever its commands are.
use Rattle.std.specs.Prelude.{◌≡◌, ◌≢◌, ◌⊎◌, List, [], ◌∷◌, ◌++◌, length, Bool, true, false, Some, None, slice_get, Result, Err}
use Rattle.pg_desk.specs.declared.event.Event.{Event}
use Rattle.pg_spec.specs.declared.stamps.Stamp.{Stamp}
use Rattle.pg_types.specs.declared.error.Error.{Error}
use Rattle.pg_types.specs.declared.error.Error.TheVariants.{OutOfMemory}
use Rattle.pg_query.specs.Dialogue.{Dialogue, Answer}
use Rattle.pg_query.specs.Meaning.{Place, Pauses, GoesToAnswer}
use Rattle.pg_session.specs.Speeches.{Speech}
use Rattle.pg_session.specs.Handles.{HandleState}

-- a command asks what it says; where memory lacked for its state, that is its answer
abbrev pub AsksCommand : {T : Type 0} → Dialogue T → Dialogue T → Type 0
AsksCommand says dialogue = (dialogue ≡ says) ⊎ (dialogue ≡ Answer (Err OutOfMemory))

-- the script's next command begins
pub record BeginsNext {C T A E : Type 0} (speech : Speech C T A E) (script : List C) (h : HandleState T A E) (from : Place T) : Type 0 where
  pub none_runs : h.running ≡ None
  pub next : C
  pub stands : slice_get script (length h.answers) ≡ Some next
  pub asks : AsksCommand (speech.says h.own next) from.dialogue

-- where the command stands that is polled in a turn: it begins in it, or it ran before
abbrev pub StartsAt : {C T A E : Type 0} → Speech C T A E → (script : List C) → HandleState T A E → (begins : Bool) → Place T → Type 0
StartsAt speech script h true from = BeginsNext speech script h from
StartsAt speech script h false from = h.running ≡ Some from

-- the handle has no command left, and nothing happened
pub record Idles {D C T A E : Type 0} (script : List C) (a : D) (old : HandleState T A E) (b : D) (new : HandleState T A E) : Type 0 where
  pub none_runs : old.running ≡ None
  pub none_left : slice_get script (length old.answers) ≡ None
  pub handle : new ≡ old
  pub desk : b ≡ a

-- its command was polled and waits
pub record Waits {D C T A E : Type 0} (becomes : D → List Event → D → Type 0) (speech : Speech C T A E) (script : List C) (stamp : Stamp) (a : D) (old : HandleState T A E) (b : D) (new : HandleState T A E) (begins : Bool) : Type 0 where
  pub from : Place T
  pub starts : StartsAt speech script old begins from
  pub to : Place T
  pub pauses : Pauses becomes stamp a from b to
  pub handle : new ≡ record { running = Some to; answers = old.answers; own = old.own }

-- its command was polled and answered; want of memory would have ended the session
pub record Answers {D C T A E : Type 0} (becomes : D → List Event → D → Type 0) (speech : Speech C T A E) (script : List C) (stamp : Stamp) (a : D) (old : HandleState T A E) (b : D) (new : HandleState T A E) : Type 0 where
  pub begins : Bool
  pub from : Place T
  pub starts : StartsAt speech script old begins from
  pub command : C
  pub stands : slice_get script (length old.answers) ≡ Some command
  pub answer : Result T Error
  pub goes : GoesToAnswer becomes stamp a from b answer
  pub memory : answer ≢ Err OutOfMemory
  pub handle : new ≡ record {
    running = None;
    answers = old.answers ++ (speech.ends old.own command answer).answer ∷ [];
    own = (speech.ends old.own command answer).own;
  }
