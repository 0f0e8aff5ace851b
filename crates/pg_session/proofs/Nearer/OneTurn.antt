-- A turn of a handle leaves less to do where something moved in it.
use Rattle.std.proofs.Common.{◌≡◌, inl, inr, ℕ, zero, suc, ◌+◌, ◌-◌, ◌*◌, ◌<◌, ◌≤◌, List, [], ◌∷◌, ◌++◌, drop, length, Bool, true, false, ◌||◌, Option, Some, None, Ok, refl, sym, ap, subst, ◌∙◌, arith}
use Rattle.std.specs.Prelude.{slice_get}
use Rattle.std.proofs.lemmas.List.{length_push}
use Rattle.pg_desk.specs.declared.event.Event.TheVariants.{CloseRequests}
use Rattle.pg_spec.specs.declared.stamps.Stamp.{Stamp}
use Rattle.pg_desk.specs.History.{State, after_all}
use Rattle.pg_desk.specs.Kept.{legal-if-exact}
use Rattle.pg_hub.specs.Becomes.{fits-touched}
use Rattle.pg_hub.specs.Fits.{Fits, HubBecomes}
use Rattle.pg_hub.specs.Standing.{Standing}
use Rattle.pg_hub.specs.Waiting.{undelivered_of}
use Rattle.pg_core.specs.Runs.{MayWait}
use Rattle.pg_core.proofs.Waiting.{may-wait}
use Rattle.pg_query.specs.Dialogue.{Dialogue}
use Rattle.pg_query.specs.Meaning.{Place, Goes}
use Rattle.pg_session.specs.declared.handle_turn.Polling.{Polling}
use Rattle.pg_session.specs.declared.handle_turn.Polling.TheVariants as polling
use Rattle.pg_session.specs.Handles.{HandleState}
use Rattle.pg_session.specs.HandleTurns.{AsksCommand, StartsAt, Idles, Waits, Answers}
use Rattle.pg_session.specs.Speeches.{Speech}
use Rattle.pg_session.specs.Turns.{HandleTurns, untouched, Closes, ClosesBehind, moved_by}
use Rattle.pg_session.specs.Measure.{Left, MayPut, PutWithin, PutsAtMost, RunWaits, bounds_of, put_of, script_left}
use Rattle.pg_session.proofs.Nearer.Counted.{becomes-counted}
use Rattle.pg_session.proofs.Nearer.Falling.{one_if, Falls, Unread, falls-beside, falls-by-command, falls-sent}
use Rattle.pg_session.proofs.Nearer.Handle.{walk-calls, WaitOn, TookSome, PutSome, FoundNone, waits-on}
use Rattle.pg_session.proofs.Nearer.Puts.{bounds-next, puts-walk, puts_in}
use Rattle.pg_session.proofs.Nearer.Hub.{hub-batches, hub-parts, none-given, calls-add-none}

-- ---- what a command does

-- the hub stands for a state, and no batch more waits in it
pub record NoMoreWaits (a b : Standing) : Type 0 where
  pub state : State
  pub fits : Fits state b
  pub left : undelivered_of b ≤ undelivered_of a

goes-no-more : {T : Type 0} (stamp : Stamp) (s : State) (a b : Standing) (p q : Place T) → Fits s a → Goes HubBecomes stamp a p b q → NoMoreWaits a b
goes-no-more stamp s a b p q fits g =
    let next = g.became.stands s fits in
    let adds = calls-add-none s g.events (walk-calls stamp p.dialogue p.reads g.events q.dialogue q.reads g.walked) (legal-if-exact s g.events next.0) (none-given s a fits) in
    record {
      state = after_all s g.events;
      fits = next.1;
      left = omega (arith, adds.left, hub-batches s a fits, hub-batches (after_all s g.events) b next.1);
    }

-- A command that waits and goes on waiting: it took a batch, or put a part, or the hub is as it was, and nothing moved.
pub data WaitsOn (put : ℕ) (a b : Standing) : Type 0 where
  TookOne : undelivered_of b + 1 ≤ undelivered_of a → WaitsOn put a b
  PutOne : 0 < put → WaitsOn put a b
  TookNone : undelivered_of b ≡ undelivered_of a → b.unsent ≡ a.unsent → b.touched ≡ false → WaitsOn put a b

goes-on-waiting : {T : Type 0} (stamp : Stamp) (s : State) (a b : Standing) (p q : Place T) → Fits s a → a.touched ≡ false → (g : Goes HubBecomes stamp a p b q) → MayWait p.dialogue → MayWait q.dialogue →
    WaitsOn (puts_in g.events) a b
goes-on-waiting stamp s a b p q fits still g from to =
    let next = g.became.stands s fits in
    by next.1 (waits-on stamp s p.dialogue p.reads g.events q.dialogue q.reads g.walked from to (legal-if-exact s g.events next.0) (none-given s a fits))
  where
    by : Fits (after_all s g.events) b → WaitOn s g.events → WaitsOn (puts_in g.events) a b
    by behind (TookSome less) = TookOne (omega (arith, less, hub-batches s a fits, hub-batches (after_all s g.events) b behind))
    by behind (PutSome some) = PutOne some
    by behind (FoundNone same none) =
        let now : Fits s b = subst (λ (t : State). Fits t b) same behind in
        TookNone (hub-batches s b now ∙ sym (hub-batches s a fits)) (hub-parts s b now ∙ sym (hub-parts s a fits))
        (g.became.touched s fits ∙ ap (λ (x : Bool). x || a.touched) none ∙ still)

-- ---- what is done behind the poll

-- as many batches and bytes wait as before, and no part was put
pub record Same (a b : Standing) : Type 0 where
  pub state : State
  pub fits : Fits state b
  pub batches : undelivered_of b ≡ undelivered_of a
  pub unsent : b.unsent ≡ a.unsent
  pub put : put_of b ≡ put_of a

same : (s : State) (a b : Standing) → Fits s a → b ≡ a → Same a b
same s a b fits h = subst (λ (x : Standing). Same a x) (sym h) (record { state = s; fits = fits; batches = refl; unsent = refl; put = refl })

pub closes : (left : ℕ) (s : State) (a b : Standing) → Fits s a → Closes left a b → Same a b
closes zero s a b fits h =
    let next = h.stands s fits in
    let t = after_all s (CloseRequests (Ok tt) ∷ []) in
    let counted = becomes-counted s a (CloseRequests (Ok tt) ∷ []) b fits h in
    record {
      state = t;
      fits = next.1;
      batches = hub-batches t b next.1 ∙ sym (hub-batches s a fits);
      unsent = hub-parts t b next.1 ∙ sym (hub-parts s a fits);
      put = omega (arith, counted);
    }
closes (suc n) s a b fits h = same s a b fits h

closes-behind : (did : Polling) (left : ℕ) (s : State) (a b : Standing) → Fits s a → ClosesBehind did left a b → Same a b
closes-behind polling.Idle left s a b fits h = same s a b fits h
closes-behind polling.Began left s a b fits h = same s a b fits h
closes-behind polling.Waits left s a b fits h =
    subst (λ (x : Standing). Same a x) (sym h) (record { state = s; fits = fits-touched s a false fits; batches = refl; unsent = refl; put = refl })
closes-behind polling.Answered left s a b fits h = closes (left - 1) s a b fits h

-- ---- a turn

-- what is left where a handle stands so over this hub, and its commands may still put so many parts
abbrev pub left_of : {C T A E : Type 0} → List C → Standing → HandleState T A E → (parts : ℕ) → Left
left_of script hub h parts = record { unread = undelivered_of hub; commands = script_left script h.running (length h.answers) + parts; unsent = hub.unsent }

-- What a turn of a handle left of its script and of its hub, where so many parts were put: less is left to do, by any numbers of parts that
-- may still be put, of which the second is less by those.
pub record HandleLess {C T A E : Type 0} (bound : C → ℕ) (script : List C) (parts : ℕ) (a b : Standing) (old new : HandleState T A E) (moved : Bool) : Type 0 where
  pub state : State
  pub fits : Fits state b
  pub left : ℕ
  pub may : MayPut bound script new.running (length new.answers) left
  pub put : ℕ
  pub few : left + put ≤ parts
  pub counted : put_of b ≡ put_of a + put
  pub falls : (before after : ℕ) → after + put ≤ before → Falls (one_if moved) (left_of script b new after) (left_of script a old before)
  pub runs : RunWaits new.running

share : {C T : Type 0} (script : List C) (running next : Option (Place T)) (answered : ℕ) → running ≡ next → script_left script running answered ≡ script_left script next answered
share {C} {T} script running next answered h = ap (λ (r : Option (Place T)). script_left script r answered) h

-- the next command stands in the script
has-next : {C : Type 0} (script : List C) (k : ℕ) (next : C) → slice_get script k ≡ Some next → k < length script
has-next [] k next h = absurd cc
has-next (c ∷ script) zero next h = omega arith
has-next (c ∷ script) (suc k) next h = let lt = has-next script k next h in omega (arith, lt)

idles : {C T A E : Type 0} (bound : C → ℕ) (script : List C) (parts : ℕ) (s : State) (a b : Standing) (old new : HandleState T A E) → Fits s a → RunWaits old.running → MayPut bound script old.running (length old.answers) parts →
    Idles script a old b new → HandleLess bound script parts a b old new false
idles {C} {T} {A} {E} bound script parts s a b old new fits runs may h =
    subst (λ (x : Standing). HandleLess bound script parts a x old new false) (sym h.desk)
    (subst (λ (x : HandleState T A E). HandleLess bound script parts a a old x false) (sym h.handle)
    (record {
      state = s;
      fits = fits;
      left = parts;
      may = may;
      put = 0;
      few = omega arith;
      counted = omega arith;
      falls = λ before after le. falls-sent 0 (left_of script a old after) (left_of script a old before) refl (omega (arith, le)) (omega arith);
      runs = runs;
    }))

-- how much of its share is left behind a poll, where it had so much of its own
record Shares {C T : Type 0} (bound : C → ℕ) (script : List C) (answered parts put : ℕ) (to : Place T) : Type 0 where
  left : ℕ
  may : MayPut bound script (Some to) answered left
  few : left + put ≤ parts

module _ {C T A E : Type 0} (speech : Speech C T A E) (bound : C → ℕ) (within : PutWithin speech bound) where
  begun-within : (own : E) (c : C) (d : Dialogue T) → AsksCommand (speech.says own c) d → PutsAtMost (bound c) d
  begun-within own c d (inl is) = subst (λ (x : Dialogue T). PutsAtMost (bound c) x) (sym is) (within own c)
  begun-within own c d (inr is) = subst (λ (x : Dialogue T). PutsAtMost (bound c) x) (sym is) tt

  -- before a poll, what its command and those behind it may put
  record Had (script : List C) (answered parts : ℕ) (from : Place T) : Type 0 where
    own : ℕ
    puts : PutsAtMost own from.dialogue
    total : own + bounds_of bound (drop (suc answered) script) ≤ parts

  had : (script : List C) (old : HandleState T A E) (parts : ℕ) (begins : Bool) (from : Place T) → StartsAt speech script old begins from → MayPut bound script old.running (length old.answers) parts →
      Had script (length old.answers) parts from
  had script old parts true from starts may =
      let total : parts ≡ bounds_of bound (drop (length old.answers) script) = subst (λ (o : Option (Place T)). MayPut bound script o (length old.answers) parts) starts.none_runs may in
      let next = bounds-next bound script (length old.answers) starts.next starts.stands in
      record { own = bound starts.next; puts = begun-within old.own starts.next from.dialogue starts.asks; total = omega (arith, total, next) }
  had script old parts false from starts may =
      let now : MayPut bound script (Some from) (length old.answers) parts = subst (λ (o : Option (Place T)). MayPut bound script o (length old.answers) parts) starts may in
      let total = now.2 in
      record { own = now.0; puts = now.1; total = omega (arith, total) }

  shares : (script : List C) (stamp : Stamp) (answered parts : ℕ) (a b : Standing) (from to : Place T) → Had script answered parts from → (g : Goes HubBecomes stamp a from b to) → Shares bound script answered parts (puts_in g.events) to
  shares script stamp answered parts a b from to h g =
      let k = puts-walk stamp h.own from.dialogue from.reads g.events to.dialogue to.reads h.puts g.walked in
      let few = k.fewer in
      let total = h.total in
      record { left = k.own + bounds_of bound (drop (suc answered) script); may = (k.own, k.puts, refl); few = omega (arith, few, total) }

  begins : (script : List C) (parts : ℕ) (stamp : Stamp) (s : State) (a b : Standing) (old new : HandleState T A E) → Fits s a → MayPut bound script old.running (length old.answers) parts →
      Waits HubBecomes speech script stamp a old b new true → HandleLess bound script parts a b old new true
  begins script parts stamp s a b old new fits may h =
      let less = goes-no-more stamp s a b h.from h.to fits h.pauses.goes in
      let left = less.left in
      let share_left = shares script stamp (length old.answers) parts a b h.from h.to (had script old parts true h.from h.starts may) h.pauses.goes in
      let was = share script old.running None (length old.answers) h.starts.none_runs in
      let lt = has-next script (length old.answers) h.starts.next h.starts.stands in
      subst (λ (x : HandleState T A E). HandleLess bound script parts a b old x true) (sym h.handle)
      (record {
        state = less.state;
        fits = less.fits;
        left = share_left.left;
        may = share_left.may;
        put = puts_in h.pauses.goes.events;
        few = share_left.few;
        counted = becomes-counted s a h.pauses.goes.events b fits h.pauses.goes.became;
        falls = λ before after le. falls-by-command 1 _ _ left (omega (arith, was, lt, le));
        runs = may-wait h.to h.pauses.goes.events h.pauses.waits;
      })

  waits : (script : List C) (parts : ℕ) (stamp : Stamp) (s : State) (a b : Standing) (old new : HandleState T A E) → Fits s a → a.touched ≡ false → RunWaits old.running → MayPut bound script old.running (length old.answers) parts →
      Waits HubBecomes speech script stamp a old b new false → HandleLess bound script parts a b old new b.touched
  waits script parts stamp s a b old new fits still runs may h =
      let from : MayWait h.from.dialogue = subst RunWaits h.starts runs in
      let to = may-wait h.to h.pauses.goes.events h.pauses.waits in
      let less = goes-no-more stamp s a b h.from h.to fits h.pauses.goes in
      let share_left = shares script stamp (length old.answers) parts a b h.from h.to (had script old parts false h.from h.starts may) h.pauses.goes in
      let was = share script old.running (Some h.from) (length old.answers) h.starts in
      subst (λ (x : HandleState T A E). HandleLess bound script parts a b old x b.touched) (sym h.handle)
      (record {
        state = less.state;
        fits = less.fits;
        left = share_left.left;
        may = share_left.may;
        put = puts_in h.pauses.goes.events;
        few = share_left.few;
        counted = becomes-counted s a h.pauses.goes.events b fits h.pauses.goes.became;
        falls = λ before after le. by before after was less.left le (goes-on-waiting stamp s a b h.from h.to fits still h.pauses.goes from to);
        runs = to;
      })
    where
      next : HandleState T A E
      next = record { running = Some h.to; answers = old.answers; own = old.own }

      by : (before after : ℕ) → script_left script old.running (length old.answers) ≡ script_left script (Some h.from) (length old.answers) → undelivered_of b ≤ undelivered_of a →
          after + puts_in h.pauses.goes.events ≤ before → WaitsOn (puts_in h.pauses.goes.events) a b → Falls (one_if b.touched) (left_of script b next after) (left_of script a old before)
      by before after was low le (TookOne less) = Unread (omega (arith, less))
      by before after was low le (PutOne some) = falls-by-command (one_if b.touched) _ _ low (omega (arith, was, le, some))
      by before after was low le (TookNone batches unsent untouched) =
          falls-sent (one_if b.touched) (left_of script b next after) (left_of script a old before) batches (omega (arith, was, le)) (omega (arith, unsent, ap one_if untouched))

  -- it answers in the turn in which it begins, or later
  fewer : (script : List C) (old : HandleState T A E) (x : A) (begins : Bool) (p : Place T) (command : C) → slice_get script (length old.answers) ≡ Some command → StartsAt speech script old begins p →
      2 * (length script - length (old.answers ++ x ∷ [])) < script_left script old.running (length old.answers)
  fewer script old x true p command stands starts =
      omega (arith, share script old.running None (length old.answers) starts.none_runs, has-next script (length old.answers) command stands, length_push old.answers x)
  fewer script old x false p command stands starts = omega (arith, share script old.running (Some p) (length old.answers) starts, length_push old.answers x)

  answers : (script : List C) (parts : ℕ) (stamp : Stamp) (s : State) (a b : Standing) (old new : HandleState T A E) → Fits s a → MayPut bound script old.running (length old.answers) parts →
      Answers HubBecomes speech script stamp a old b new → HandleLess bound script parts a b old new true
  answers script parts stamp s a b old new fits may h =
      let x = (speech.ends old.own h.command h.answer).answer in
      let less = goes-no-more stamp s a b h.from h.goes.last fits h.goes.goes in
      let few = fewer script old x h.begins h.from h.command h.stands h.starts in
      let events = h.goes.goes.events in
      let its = had script old parts h.begins h.from h.starts may in
      let total = its.total in
      let spent = (puts-walk stamp its.own h.from.dialogue h.from.reads events h.goes.last.dialogue h.goes.last.reads its.puts h.goes.goes.walked).fewer in
      let one : length (old.answers ++ x ∷ []) ≡ suc (length old.answers) = length_push old.answers x ∙ omega arith in
      let rest : bounds_of bound (drop (length (old.answers ++ x ∷ [])) script) ≡ bounds_of bound (drop (suc (length old.answers)) script) = ap (λ (n : ℕ). bounds_of bound (drop n script)) one in
      subst (λ (y : HandleState T A E). HandleLess bound script parts a b old y true) (sym h.handle)
      (record {
        state = less.state;
        fits = less.fits;
        left = bounds_of bound (drop (length (old.answers ++ x ∷ [])) script);
        may = refl;
        put = puts_in events;
        few = omega (arith, total, rest, spent);
        counted = becomes-counted s a events b fits h.goes.goes.became;
        falls = λ before after le. falls-by-command 1 _ _ less.left (omega (arith, few, le));
        runs = tt;
      })

  -- what a poll left
  polled : (did : Polling) (script : List C) (parts : ℕ) (stamp : Stamp) (s : State) (a b : Standing) (old new : HandleState T A E) → Fits s a → a.touched ≡ false → RunWaits old.running →
      MayPut bound script old.running (length old.answers) parts → HandleTurns HubBecomes speech script stamp a old b new did → HandleLess bound script parts a b old new (moved_by did b)
  polled polling.Idle script parts stamp s a b old new fits still runs may h = idles bound script parts s a b old new fits runs may h
  polled polling.Began script parts stamp s a b old new fits still runs may h = begins script parts stamp s a b old new fits may h
  polled polling.Waits script parts stamp s a b old new fits still runs may h = waits script parts stamp s a b old new fits still runs may h
  polled polling.Answered script parts stamp s a b old new fits still runs may h = answers script parts stamp s a b old new fits may h

  -- a whole turn of a handle
  pub handle-less : (did : Polling) (script : List C) (parts : ℕ) (stamp : Stamp) (left : ℕ) (s : State) (a b c : Standing) (old new : HandleState T A E) → Fits s a → RunWaits old.running →
      MayPut bound script old.running (length old.answers) parts → HandleTurns HubBecomes speech script stamp (untouched a) old b new did → ClosesBehind did left b c →
      HandleLess bound script parts a c old new (moved_by did b)
  handle-less did script parts stamp left s a b c old new fits runs may h behind =
      let turn = polled did script parts stamp s (untouched a) b old new (fits-touched s a false fits) refl runs may h in
      let end = closes-behind did left turn.state b c turn.fits behind in
      let counted = turn.counted in
      let same_put = end.put in
      record {
        state = end.state;
        fits = end.fits;
        left = turn.left;
        may = turn.may;
        put = turn.put;
        few = turn.few;
        counted = omega (arith, counted, same_put);
        falls = λ before after le.
            falls-beside (one_if (moved_by did b)) (left_of script b new after) (left_of script (untouched a) old before) (left_of script c new after) (left_of script a old before) (turn.falls before after le)
            (omega (arith, end.batches)) (omega arith) (omega (arith, end.unsent));
        runs = turn.runs;
      }
