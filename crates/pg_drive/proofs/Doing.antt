-- What tasks and a line did to their hub, put together from their rounds.
use Rattle.std.proofs.Common.{◌≡◌, ◌⊎◌, inl, inr, ℕ, zero, suc, ◌==◌, Bool, true, false, List, [], ◌∷◌, ◌++◌, map, filter, length, Option, Some, None, is_some, Result, Ok, Err, refl, sym, ◌∙◌, ap, subst, slice_get, slice_set, append-nil, append_assoc}
use Rattle.std.proofs.lemmas.Bool.{cases_eq, eq-eqb, ne_eqb}
use Rattle.std.proofs.lemmas.List.{map-append}
use Rattle.std.proofs.lemmas.List.Elements.{filter-append}
use Rattle.pg_types.specs.declared.error.Error.{Error}
use Rattle.pg_desk.specs.declared.event.Event.{Event}
use Rattle.pg_desk.specs.declared.event.Event.TheVariants.{Fail}
use Rattle.pg_connect.specs.Answers as answers
use Rattle.pg_drive.specs.declared.line.Lull.{Lull}
use Rattle.pg_drive.specs.Lines.{LineView, LineSteps, Failed, Lost, Paused}
use Rattle.pg_drive.specs.Lives.{is_desk_call}
use Rattle.pg_drive.specs.Tasks.{AllDeskCalls, AllTookTurns, EndsRound, GoesRound, HadNone, HadTurn, RoundEnds, Rounds, Runs, Shared, TakesTurn, TakeTurns, TurnAt, behind_turns}
use Rattle.pg_drive.specs.Deeds.{Act, AllTold, IsRun, IsRunAt, Turned, TurnsOn, WasDone, calls_in, done_by, events_of, is_at, is_by}
use Rattle.pg_drive.proofs.Calls.{AllOthers, engines-others, poll-ticks}

-- ---- calls and who made them

told-join : (xs ys : List Act) → AllTold xs → AllTold ys → AllTold (xs ++ ys)
told-join [] ys x y = y
told-join (a ∷ xs) ys x y = (x.0, told-join xs ys x.1 y)

done-join : (place : ℕ) (xs ys : List Act) → done_by place (xs ++ ys) ≡ done_by place xs ++ done_by place ys
done-join place xs ys = ap events_of (filter-append (is_by place) xs ys) ∙ map-append (λ (a : Act). a.event) (filter (is_by place) xs) (filter (is_by place) ys)

-- these, all by one or by the line
abbrev marked : Option ℕ → List Event → List Act
marked who [] = []
marked who (e ∷ es) = record { by = who; event = e } ∷ marked who es

marked-events : (who : Option ℕ) (es : List Event) → events_of (marked who es) ≡ es
marked-events who [] = refl
marked-events who (e ∷ es) = ap (λ (l : List Event). e ∷ l) (marked-events who es)

marked-own : (who : Option ℕ) (place : ℕ) (es : List Event) → is_at place who ≡ true → done_by place (marked who es) ≡ es
marked-own who place [] is = refl
marked-own who place (e ∷ es) is = rw is (ap (λ (l : List Event). e ∷ l) (marked-own who place es is))

marked-other : (who : Option ℕ) (place : ℕ) (es : List Event) → is_at place who ≡ false → done_by place (marked who es) ≡ []
marked-other who place [] is = refl
marked-other who place (e ∷ es) is = rw is (marked-other who place es is)

task-told : (place : ℕ) (es : List Event) → AllDeskCalls es → AllTold (marked (Some place) es)
task-told place [] all = tt
task-told place (e ∷ es) all = (all.0, task-told place es all.1)

line-told : (es : List Event) → AllOthers es → AllTold (marked None es)
line-told [] all = tt
line-told (e ∷ es) all = (all.0, line-told es all.1)

-- ---- runs

module _ {S : Type 0} (turns : S → List Event → Bool → S → Type 0) where
  turns-join : (s mid t : S) (xs ys : List (Turned S)) → TurnsOn turns s xs mid → TurnsOn turns mid ys t → TurnsOn turns s (xs ++ ys) t
  turns-join s mid t [] ys x y = subst (λ (m : S). TurnsOn turns m ys t) x y
  turns-join s mid t (a ∷ xs) ys x y = (x.0, turns-join a.stand mid t xs ys x.1 y)

  calls-join : (xs ys : List (Turned S)) → calls_in (xs ++ ys) ≡ calls_in xs ++ calls_in ys
  calls-join [] ys = refl
  calls-join (a ∷ xs) ys = ap (λ (l : List Event). a.events ++ l) (calls-join xs ys) ∙ sym (append_assoc a.events (calls_in xs) (calls_in ys))

  run-join : (s mid t : S) (es fs : List Event) → IsRun turns s es mid → IsRun turns mid fs t → IsRun turns s (es ++ fs) t
  run-join s mid t es fs x y = record {
    taken = x.taken ++ y.taken;
    run = turns-join s mid t x.taken y.taken x.run y.run;
    calls = ap (λ (l : List Event). l ++ fs) x.calls ∙ ap (λ (l : List Event). calls_in x.taken ++ l) y.calls ∙ sym (calls-join x.taken y.taken);
  }

  run-at-join : (x y z : Option S) (es fs : List Event) → IsRunAt turns x es y → IsRunAt turns y fs z → IsRunAt turns x (es ++ fs) z
  run-at-join (Some s) (Some mid) (Some t) es fs x y = run-join s mid t es fs x y
  run-at-join (Some s) (Some mid) None es fs x y = absurd y
  run-at-join (Some s) None z es fs x y = absurd x
  run-at-join None (Some mid) z es fs x y = absurd x
  run-at-join None None (Some t) es fs x y = absurd y
  run-at-join None None None es fs x y = ap (λ (l : List Event). l ++ fs) x ∙ y

  -- one who has no turn
  run-none : (x : Option S) → IsRunAt turns x [] x
  run-none (Some s) = record { taken = []; run = refl; calls = refl }
  run-none None = refl

  -- one who has one
  run-one : (s t : S) (events : List Event) (moved : Bool) → turns s events moved t → IsRun turns s events t
  run-one s t events moved turn = record {
    taken = record { events = events; moved = moved; stand = t } ∷ [];
    run = (turn, refl);
    calls = sym (append-nil events);
  }

  -- where the task at a place made these calls, and went on so, the others made none and stand as they stood
  own-run : (ss : List S) (place : ℕ) (s t : S) (events : List Event) → slice_get ss place ≡ Some s → IsRun turns s events t → IsRunAt turns (slice_get ss place) events (slice_get (slice_set ss place t) place)
  own-run [] place s t events at run = absurd (no at)
    where
      no : None ≡ Some s → ⊥
      no e = cc
  own-run (y ∷ ss) zero s t events at run = let same : s ≡ y = cc in subst (λ (x : S). IsRun turns x events t) same run
  own-run (y ∷ ss) (suc place) s t events at run = own-run ss place s t events at run

  other-run : (ss : List S) (place k : ℕ) (t : S) → (k ≡ place → ⊥) → IsRunAt turns (slice_get ss k) [] (slice_get (slice_set ss place t) k)
  other-run [] place k t ne = run-none (slice_get [] k)
  other-run (y ∷ ss) zero zero t ne = absurd (ne refl)
  other-run (y ∷ ss) zero (suc k) t ne = run-none (slice_get ss k)
  other-run (y ∷ ss) (suc place) zero t ne = run-none (Some y)
  other-run (y ∷ ss) (suc place) (suc k) t ne = other-run ss place k t (λ e. ne (ap suc e))

  turn-run : (ss : List S) (place k : ℕ) (s t : S) (events : List Event) (moved : Bool) → slice_get ss place ≡ Some s → turns s events moved t → (k ≡ place) ⊎ (k ≡ place → ⊥) →
      IsRunAt turns (slice_get ss k) (done_by k (marked (Some place) events)) (slice_get (slice_set ss place t) k)
  turn-run ss place k s t events moved at turn (inl same) =
      rw same (rw (marked-own (Some place) place events (eq-eqb place place refl)) (own-run ss place s t events at (run-one s t events moved turn)))
  turn-run ss place k s t events moved at turn (inr ne) =
      rw (marked-other (Some place) k events (ne_eqb place k (λ e. ne (sym e)))) (other-run ss place k t ne)

-- ---- what was done

module _ {H S : Type 0} (becomes : H → List Event → H → Type 0) (stays : (a : H) → becomes a [] a) (joins : (a b c : H) (es fs : List Event) → becomes a es b → becomes b fs c → becomes a (es ++ fs) c)
    (done : S → Bool) (turns : S → List Event → Bool → S → Type 0) where
  nothing-done : (a : H) (ss : List S) → WasDone becomes turns a ss a ss
  nothing-done a ss = record { acts = []; became = stays a; told = tt; runs = λ place. run-none turns (slice_get ss place) }

  done-then : (a b c : H) (ss ts us : List S) → WasDone becomes turns a ss b ts → WasDone becomes turns b ts c us → WasDone becomes turns a ss c us
  done-then a b c ss ts us x y = record {
    acts = x.acts ++ y.acts;
    became = subst (λ (l : List Event). becomes a l c) (sym (map-append (λ (act : Act). act.event) x.acts y.acts)) (joins a b c (events_of x.acts) (events_of y.acts) x.became y.became);
    told = told-join x.acts y.acts x.told y.told;
    runs = λ place. subst (λ (l : List Event). IsRunAt turns (slice_get ss place) l (slice_get us place)) (sym (done-join place x.acts y.acts))
        (run-at-join turns (slice_get ss place) (slice_get ts place) (slice_get us place) (done_by place x.acts) (done_by place y.acts) (x.runs place) (y.runs place));
  }

  -- a turn
  turn-done : (place : ℕ) (a : H) (ss : List S) (moved : Bool) (b : H) (ts : List S) → HadTurn becomes done turns place a ss moved b ts → WasDone becomes turns a ss b ts
  turn-done place a ss moved b ts had =
      let turn = had.turn in
      let events = turn.events in record {
        acts = marked (Some place) events;
        became = subst (λ (l : List Event). becomes a l b) (sym (marked-events (Some place) events)) turn.became;
        told = task-told place events turn.calls;
        runs = λ k. subst (λ (l : List S). IsRunAt turns (slice_get ss k) (done_by k (marked (Some place) events)) (slice_get l k)) (sym had.others)
            (turn-run turns ss place k had.task had.next events moved had.stood turn.turn (cases_eq k place));
      }

  turn-at-done : (place : ℕ) (a : H) (ss : List S) (moved : Bool) (b : H) (ts : List S) → TurnAt becomes done turns place a ss moved b ts → WasDone becomes turns a ss b ts
  turn-at-done place a ss moved b ts (inl had) = turn-done place a ss moved b ts had
  turn-at-done place a ss moved b ts (inr none) =
      subst (λ (h : H). WasDone becomes turns a ss h ts) (sym none.hub) (subst (λ (l : List S). WasDone becomes turns a ss a l) (sym none.same) (nothing-done a ss))

  -- turns of the first tasks
  turns-done : (n : ℕ) (a : H) (ss : List S) (moved : Bool) (b : H) (ts : List S) → TakeTurns becomes done turns n a ss moved b ts → WasDone becomes turns a ss b ts
  turns-done zero a ss moved b ts took =
      subst (λ (h : H). WasDone becomes turns a ss h ts) (sym took.1) (subst (λ (l : List S). WasDone becomes turns a ss a l) (sym took.2) (nothing-done a ss))
  turns-done (suc n) a ss moved b ts took =
      done-then a took.2 b ss took.3 ts (turns-done n a ss took.0 took.2 took.3 took.4) (turn-at-done n took.2 took.3 took.1 b ts took.5)

  -- calls of the line
  calls-done : (a b : H) (ss : List S) (events : List Event) → AllOthers events → becomes a events b → WasDone becomes turns a ss b ss
  calls-done a b ss events others became = record {
    acts = marked None events;
    became = subst (λ (l : List Event). becomes a l b) (sym (marked-events None events)) became;
    told = line-told events others;
    runs = λ k. rw (marked-other None k events refl) (run-none turns (slice_get ss k));
  }

  -- a poll that failed
  failed-done : (a b : LineView H) (e : Error) (ss : List S) → Failed becomes a b e → WasDone becomes turns a.hub ss b.hub ss
  failed-done a b e ss failed = by failed.polled.1
    where
      by : answers.StaysClosed a.hub b.hub a.streams b.streams a.link b.link e ⊎ answers.Failed becomes a.hub b.hub a.streams b.streams a.link b.link e → WasDone becomes turns a.hub ss b.hub ss
      by (inl closed) = subst (λ (h : H). WasDone becomes turns a.hub ss h ss) (sym closed.hub) (nothing-done a.hub ss)
      by (inr f) =
          let goes = f.turns.goes in
          done-then a.hub f.between b.hub ss ss ss (calls-done a.hub f.between ss goes.events (engines-others goes.events goes.calls) goes.became)
          (calls-done f.between b.hub ss (Fail f.answer ∷ []) (refl, tt) f.failed)

  lost-done : (a b : LineView H) (e : Error) (ss : List S) → Lost becomes a b e → WasDone becomes turns a.hub ss b.hub ss
  lost-done a b e ss lost =
      let goes = lost.polled.turns.goes in
      done-then a.hub lost.between b.hub ss ss ss (calls-done a.hub lost.between ss goes.events (engines-others goes.events goes.calls) goes.became)
      (calls-done lost.between b.hub ss (Fail lost.answer ∷ []) (refl, tt) lost.failed)

  -- a poll without an error, and the pause behind it
  paused-done : (a b : LineView H) (next : Result Lull Error) (ss : List S) → Paused becomes a b next → WasDone becomes turns a.hub ss b.hub ss
  paused-done a b next ss paused =
      let mid = paused.mid in
      let p = paused.polled in
      let ticks = poll-ticks becomes a.hub mid.hub a.streams mid.streams a.link mid.link p.answer a.messages mid.messages p.polled p.kept in
      subst (λ (h : H). WasDone becomes turns a.hub ss h ss) (sym (ap (λ (x : LineView H). x.hub) paused.same))
      (calls-done a.hub mid.hub ss ticks.events (engines-others ticks.events ticks.calls) ticks.became)

  -- a step of the line
  step-done : (a b : LineView H) (r : Result (Unit {0}) Error) (ss : List S) → LineSteps becomes a b r → WasDone becomes turns a.hub ss b.hub ss
  step-done a b (Ok x) ss paused = paused-done a b (Ok b.lull) ss paused
  step-done a b (Err e) ss (inl (inl failed)) = failed-done a b e ss failed
  step-done a b (Err e) ss (inl (inr lost)) = lost-done a b e ss lost
  step-done a b (Err e) ss (inr paused) = paused-done a b (Err e) ss paused

  -- a round
  round-done : (s t : Shared H S) (r : Result (Unit {0}) Error) → GoesRound becomes done turns s t r → WasDone becomes turns s.line.hub s.tasks t.line.hub t.tasks
  round-done s t r goes =
      let took = goes.took in
      done-then s.line.hub took.hub t.line.hub s.tasks t.tasks t.tasks (turns-done (length s.tasks) s.line.hub s.tasks took.moved took.hub t.tasks took.took)
      (step-done (behind_turns s.line took.hub took.moved) t.line r t.tasks goes.line)

  last-done : (s t : Shared H S) → EndsRound becomes done turns s t → WasDone becomes turns s.line.hub s.tasks t.line.hub t.tasks
  last-done s t ends =
      let took = ends.took in
      subst (λ (h : H). WasDone becomes turns s.line.hub s.tasks h t.tasks) (sym (ap (λ (x : LineView H). x.hub) ends.line))
      (turns-done (length s.tasks) s.line.hub s.tasks took.moved took.hub t.tasks took.took)

  rounds-done : (n : ℕ) (s t : Shared H S) → Rounds becomes done turns n s t → WasDone becomes turns s.line.hub s.tasks t.line.hub t.tasks
  rounds-done zero s t rounds = subst (λ (x : Shared H S). WasDone becomes turns s.line.hub s.tasks x.line.hub x.tasks) (sym rounds) (nothing-done s.line.hub s.tasks)
  rounds-done (suc n) s t rounds =
      let mid = rounds.0 in
      done-then s.line.hub mid.line.hub t.line.hub s.tasks mid.tasks t.tasks (rounds-done n s mid rounds.1) (round-done mid t (Ok tt) rounds.2)

  ends-done : (s t : Shared H S) (r : Result (Unit {0}) Error) → RoundEnds becomes done turns s t r → WasDone becomes turns s.line.hub s.tasks t.line.hub t.tasks
  ends-done s t (Ok x) ends = last-done s t ends
  ends-done s t (Err e) ends = round-done s t (Err e) ends

  -- all rounds
  pub runs-done : (s t : Shared H S) (r : Result (Unit {0}) Error) → Runs becomes done turns s t r → WasDone becomes turns s.line.hub s.tasks t.line.hub t.tasks
  runs-done s t r runs =
      let last = runs.last in
      done-then s.line.hub last.line.hub t.line.hub s.tasks last.tasks t.tasks (rounds-done runs.count s last runs.rounds) (ends-done last t r runs.ends)
