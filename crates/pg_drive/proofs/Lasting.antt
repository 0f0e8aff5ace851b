-- The life of a command's state that takes turns, put together from its turns.
use Rattle.std.proofs.Common.{◌≡◌, Bool, true, false, List, [], ◌∷◌, ◌++◌, map, Result, refl, sym, ◌∙◌, ap, subst, append-nil}
use Rattle.std.proofs.lemmas.List.{map-append}
use Rattle.pg_spec.specs.declared.stamps.Stamp.{Stamp}
use Rattle.pg_types.specs.declared.error.Error.{Error}
use Rattle.pg_desk.specs.declared.event.Event.{Event}
use Rattle.pg_query.specs.Dialogue.{Walks}
use Rattle.pg_query.specs.Lives.{Deed, deeds}
use Rattle.pg_query.specs.Meaning.{GoesToAnswer, Pauses, Place}
use Rattle.pg_drive.specs.declared.task.Running.{Running}
use Rattle.pg_drive.specs.declared.task.Running.TheVariants.{Polled, Answered}
use Rattle.pg_drive.specs.Lives.{under}
use Rattle.pg_drive.specs.Tasks.{TakesTurn}
use Rattle.pg_drive.specs.Runnings.{IsAnswer, IsLifeOf, Led, RunningLives, RunningTurns}
use Rattle.pg_drive.specs.Deeds.{IsRun, Turned, TurnsOn, calls_in}
use Rattle.pg_drive.proofs.Calls.{walks-calls}

under-join : (stamp : Stamp) (xs ys : List Event) → under stamp (xs ++ ys) ≡ under stamp xs ++ under stamp ys
under-join stamp xs ys = map-append (λ (e : Event). record { stamp = stamp; event = e }) xs ys

module _ {T : Type 0} (stamp : Stamp) where
  life-none : (p : Place T) → IsLifeOf stamp p [] p
  life-none p = record { turns = []; lives = refl; own = refl }

  -- a turn before a life
  life-more : (p mid q : Place T) (es fs : List Event) → Led stamp p es mid → IsLifeOf stamp mid fs q → IsLifeOf stamp p (es ++ fs) q
  life-more p mid q es fs led life = record {
    turns = record { stamp = stamp; events = es } ∷ life.turns;
    lives = (mid, led, life.lives);
    own = ap (λ (l : List Deed). under stamp es ++ l) life.own ∙ sym (under-join stamp es fs);
  }

module _ {S T : Type 0} (place : S → Place T) where
  -- ---- a turn

  pub waits-turn : {H : Type 0} (becomes : H → List Event → H → Type 0) (stamp : Stamp) (a : H) (s : S) (b : H) (t : S) → Pauses becomes stamp a (place s) b (place t) →
      TakesTurn becomes (RunningTurns place) a (Polled s stamp) false b (Polled t stamp)
  waits-turn becomes stamp a s b t pauses =
      let goes = pauses.goes in record {
        events = goes.events;
        calls = walks-calls stamp (place s).dialogue (place s).reads goes.events (place t).dialogue (place t).reads goes.walked;
        became = goes.became;
        turn = (refl, refl, goes.walked, pauses.waits);
      }

  pub answers-turn : {H : Type 0} (becomes : H → List Event → H → Type 0) (stamp : Stamp) (a : H) (s : S) (b : H) (r : Result T Error) → GoesToAnswer becomes stamp a (place s) b r →
      TakesTurn becomes (RunningTurns place) a (Polled s stamp) true b (Answered r)
  answers-turn becomes stamp a s b r answers =
      let goes = answers.goes in record {
        events = goes.events;
        calls = walks-calls stamp (place s).dialogue (place s).reads goes.events answers.last.dialogue answers.last.reads goes.walked;
        became = goes.became;
        turn = (refl, (answers.last, goes.walked, answers.answers));
      }

  -- ---- all of them

  lives-none : (s : Running S T) → RunningLives place s [] s
  lives-none (Polled s stamp) = (refl, life-none stamp (place s))
  lives-none (Answered r) = (refl, refl)

  lives-more : (s mid t : Running S T) (es fs : List Event) (moved : Bool) → RunningTurns place s es moved mid → RunningLives place mid fs t → RunningLives place s (es ++ fs) t
  lives-more (Answered r) mid t es fs moved turn lives = absurd turn
  lives-more (Polled s stamp) (Polled m own) (Polled t next) es fs moved turn lives = (
    lives.0 ∙ turn.1,
    life-more stamp (place s) (place m) (place t) es fs turn.2 (subst (λ (x : Stamp). IsLifeOf x (place m) fs (place t)) turn.1 lives.1),
  )
  lives-more (Polled s stamp) (Polled m own) (Answered r) es fs moved turn lives = (
    lives.0,
    life-more stamp (place s) (place m) lives.0 es fs turn.2 (subst (λ (x : Stamp). IsLifeOf x (place m) fs lives.0) turn.1 lives.1),
    lives.2,
  )
  lives-more (Polled s stamp) (Answered r) t es fs moved turn lives =
      let end = turn.1 in
      let one : IsLifeOf stamp (place s) (es ++ fs) end.0 = rw lives.0 (life-more stamp (place s) end.0 end.0 es [] end.1 (life-none stamp end.0)) in
      subst (λ (x : Running S T). RunningLives place (Polled s stamp) (es ++ fs) x) (sym lives.1) (end.0, one, end.2)

  lives-of-turns : (s : Running S T) (taken : List (Turned (Running S T))) (t : Running S T) → TurnsOn (RunningTurns place) s taken t → RunningLives place s (calls_in taken) t
  lives-of-turns s [] t run = subst (λ (x : Running S T). RunningLives place s [] x) (sym run) (lives-none s)
  lives-of-turns s (x ∷ xs) t run = lives-more s x.stand t x.events (calls_in xs) x.moved run.0 (lives-of-turns x.stand xs t run.1)

  pub lives-of : (s t : Running S T) (events : List Event) → IsRun (RunningTurns place) s events t → RunningLives place s events t
  lives-of s t events run = subst (λ (es : List Event). RunningLives place s es t) (sym run.calls) (lives-of-turns s run.taken t run.run)
