-- One handle among others made its turn.
use Rattle.std.proofs.Common.{◌≡◌, ℕ, List, length, map, true, false, Option, Some, None, is_some, refl, IfOk, Result, Ok, Err, slice_get, slice_set, option_map, inl, inr, sym, ◌∙◌, ap, subst}
use Rattle.std.proofs.lemmas.List.{map-set}
use Rattle.std.proofs.lemmas.Option.{slice_get-map}
use Rattle.pg_desk.specs.declared.event.Event.{Event}
use Rattle.pg_spec.specs.declared.stamps.Stamp.{Stamp}
use Rattle.pg_query.specs.Meaning.{Place}
use Rattle.pg_session.specs.HandleTurns.{AsksCommand}
use Rattle.pg_session.specs.Turns.{HandleTurns}
use Rattle.pg_session.specs.declared.handle_turn.Polling.{Polling}
use Rattle.pg_session.specs.declared.handle_turn.Polling.TheVariants as polling
use Rattle.pg_play.specs.declared.handle.Handle.{Handle}
use Rattle.pg_play.specs.Handles.{OneTurned, PollEnds, PollsRunning, view_of}
use Rattle.pg_session.specs.Speeches.{Speech}
use Rattle.pg_session.specs.Handles.{HandleState}

module _ {S C T A O : Type 0} (speech : Speech C T A O) (stands : S → Place T) where
  -- its next command began, and was polled
  pub turn_begins : {D E : Type 0} (becomes : D → List Event → D → Type 0) (script : List C) (stamp : Stamp) (a : D) (old : HandleState T A O) (b : D) (new : HandleState T A O) (command : C) (from : Place T) (r : Result Polling E) →
      old.running ≡ None → slice_get script (length old.answers) ≡ Some command → AsksCommand (speech.says old.own command) from.dialogue → IfOk r (PollEnds becomes speech stamp command a from b old.answers old.own new polling.Began) →
      IfOk r (HandleTurns becomes speech script stamp a old b new)
  turn_begins becomes script stamp a old b new command from (Err e) none stands asks ends = tt
  turn_begins becomes script stamp a old b new command from (Ok did) none stands asks (inl (is, paused)) =
      subst (λ (d : Polling). HandleTurns becomes speech script stamp a old b new d) (sym is) (record {
        from = from;
        starts = record { none_runs = none; next = command; stands = stands; asks = asks };
        to = paused.to;
        pauses = paused.pauses;
        handle = paused.handle;
      })
  turn_begins becomes script stamp a old b new command from (Ok did) none stands asks (inr (is, answered)) =
      subst (λ (d : Polling). HandleTurns becomes speech script stamp a old b new d) (sym is) (record {
        begins = true;
        from = from;
        starts = record { none_runs = none; next = command; stands = stands; asks = asks };
        command = command;
        stands = stands;
        answer = answered.answer;
        goes = answered.goes;
        memory = answered.memory;
        handle = answered.handle;
      })

  -- the command that ran was polled
  pub turn_waits : {D E : Type 0} (becomes : D → List Event → D → Type 0) (script : List C) (stamp : Stamp) (a : D) (old : HandleState T A O) (b : D) (new : HandleState T A O) (command : C) (from : Place T) (r : Result Polling E) →
      old.running ≡ Some from → slice_get script (length old.answers) ≡ Some command → IfOk r (PollEnds becomes speech stamp command a from b old.answers old.own new polling.Waits) →
      IfOk r (HandleTurns becomes speech script stamp a old b new)
  turn_waits becomes script stamp a old b new command from (Err e) runs stands ends = tt
  turn_waits becomes script stamp a old b new command from (Ok did) runs stands (inl (is, paused)) =
      subst (λ (d : Polling). HandleTurns becomes speech script stamp a old b new d) (sym is) (record {
        from = from;
        starts = runs;
        to = paused.to;
        pauses = paused.pauses;
        handle = paused.handle;
      })
  turn_waits becomes script stamp a old b new command from (Ok did) runs stands (inr (is, answered)) =
      subst (λ (d : Polling). HandleTurns becomes speech script stamp a old b new d) (sym is) (record {
        begins = false;
        from = from;
        starts = runs;
        command = command;
        stands = stands;
        answer = answered.answer;
        goes = answered.goes;
        memory = answered.memory;
        handle = answered.handle;
      })

  runs_some : {A : Type 0} (running : Option A) → is_some running ≡ true → (from : A) × (running ≡ Some from)
  runs_some None runs = absurd cc
  runs_some (Some from) runs = (from, refl)

  pub mapped_some : {A B : Type 0} (f : A → B) (o : Option A) → is_some o ≡ true → is_some (option_map f o) ≡ true
  mapped_some f None some = some
  mapped_some f (Some a) some = refl

  pub mapped_none : {A B : Type 0} (f : A → B) (o : Option A) → is_some o ≡ false → option_map f o ≡ None
  mapped_none f None none = refl
  mapped_none f (Some a) none = absurd cc

  -- the poll of the command that runs, told of where it stood
  polls_from : {D E : Type 0} (becomes : D → List Event → D → Type 0) (stamp : Stamp) (command : C) (a : D) (old : HandleState T A O) (b : D) (new : HandleState T A O) (waiting : Polling) (from : Place T) (r : Result Polling E) →
      old.running ≡ Some from → IfOk r (PollsRunning becomes speech stamp command a old b new waiting) → IfOk r (PollEnds becomes speech stamp command a from b old.answers old.own new waiting)
  polls_from becomes stamp command a old b new waiting from (Err e) runs polls = tt
  polls_from becomes stamp command a old b new waiting from (Ok did) runs polls = polls from runs

  -- the command that ran was polled where it stands
  pub turn_polls : {D E : Type 0} (becomes : D → List Event → D → Type 0) (script : List C) (stamp : Stamp) (a : D) (old : HandleState T A O) (b : D) (new : HandleState T A O) (command : C) (r : Result Polling E) →
      is_some old.running ≡ true → slice_get script (length old.answers) ≡ Some command → IfOk r (PollsRunning becomes speech stamp command a old b new polling.Waits) →
      IfOk r (HandleTurns becomes speech script stamp a old b new)
  turn_polls becomes script stamp a old b new command r runs stands polls =
      let from = runs_some old.running runs in
      turn_waits becomes script stamp a old b new command from.0 r from.1 stands (polls_from becomes stamp command a old b new polling.Waits from.0 r from.1 polls)

  -- one that begins is polled where it stands too
  pub turn_starts : {D E : Type 0} (becomes : D → List Event → D → Type 0) (script : List C) (stamp : Stamp) (a : D) (old mid : HandleState T A O) (b : D) (new : HandleState T A O) (command : C) (from : Place T) (r : Result Polling E) →
      old.running ≡ None → mid ≡ record old { running = Some from } → slice_get script (length old.answers) ≡ Some command → AsksCommand (speech.says old.own command) from.dialogue →
      IfOk r (PollsRunning becomes speech stamp command a mid b new polling.Began) → IfOk r (HandleTurns becomes speech script stamp a old b new)
  turn_starts becomes script stamp a old mid b new command from r none is stands asks polls =
      let ends = polls_from becomes stamp command a mid b new polling.Began from r (ap (λ (h : HandleState T A O). h.running) is) polls in
      turn_begins becomes script stamp a old b new command from r none stands asks
      (subst (λ (h : HandleState T A O). IfOk r (PollEnds becomes speech stamp command a from b h.answers h.own new polling.Began)) is ends)

  pub one_turned : {D E : Type 0} (becomes : D → List Event → D → Type 0) (script : List C) (place turn : ℕ) (a b : D) (handles : List (Handle S A O)) (old new : Handle S A O) (r : Result Polling E) →
      slice_get handles place ≡ Some old →
      IfOk r (HandleTurns becomes speech script (record { owner = place; command = length old.answers.items; turn = turn }) a (view_of stands old) b (view_of stands new)) →
      IfOk r (OneTurned becomes speech script (λ h. record { owner = place; command = length h.answers; turn = turn }) place a (map (view_of stands) handles) b (map (view_of stands) (slice_set handles place new)))
  one_turned becomes script place turn a b handles old new (Ok did) at turns = record {
    old = view_of stands old;
    old_at = slice_get-map (view_of stands) handles place ∙ ap (option_map (view_of stands)) at;
    new = view_of stands new;
    turns = turns;
    handles = map-set (view_of stands) handles place new;
  }
  one_turned becomes script place turn a b handles old new (Err e) at turns = tt
