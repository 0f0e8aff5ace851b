-- Commands that put no part hold none back.
use Rattle.std.proofs.Common.{◌≡◌, ℕ, zero, suc, List, [], ◌∷◌, Bool, true, false, Some, inl, inr, sym, subst, arith, slice_get, slice_set}
use Rattle.pg_spec.specs.Links.{LinkView}
use Rattle.pg_spec.specs.declared.stamps.Stamp.{Stamp}
use Rattle.pg_hub.specs.Fits.{HubBecomes}
use Rattle.pg_hub.specs.Standing.{Standing}
use Rattle.pg_query.specs.Dialogue.{Dialogue, Read}
use Rattle.pg_query.specs.Meaning.{Place}
use Rattle.pg_query.specs.Scripts.{IsPut, IsRead}
use Rattle.pg_core.proofs.Waiting.{may-wait}
use Rattle.pg_session.specs.declared.handle_turn.Polling.{Polling}
use Rattle.pg_session.specs.declared.handle_turn.Polling.TheVariants as polling
use Rattle.pg_session.specs.Handles.{HandleState}
use Rattle.pg_session.specs.HandleTurns.{AsksCommand, StartsAt, Waits}
use Rattle.pg_session.specs.Sessions.{MakesAll}
use Rattle.pg_session.specs.Speeches.{Speech}
use Rattle.pg_session.specs.States.{SessionState}
use Rattle.pg_session.specs.Turns.{HandleTurns, Makes, untouched}
use Rattle.pg_session.specs.Measure.{AllRead, PutNone, PutsAtMost, RunReads}
use Rattle.pg_session.proofs.Nearer.Puts.{puts-walk, puts_in, reads-so, StillPuts}

read-at : {T A E : Type 0} (handles : List (HandleState T A E)) (i : ℕ) (h : HandleState T A E) → AllRead handles → slice_get handles i ≡ Some h → RunReads h.running
read-at [] i h all e = absurd cc
read-at {T} {A} {E} (x ∷ handles) zero h all e = let same : x ≡ h = cc in subst (λ (g : HandleState T A E). RunReads g.running) same all.0
read-at (x ∷ handles) (suc i) h all e = read-at handles i h all.1 e

read-set : {T A E : Type 0} (handles : List (HandleState T A E)) (i : ℕ) (h : HandleState T A E) → AllRead handles → RunReads h.running → AllRead (slice_set handles i h)
read-set [] i h all q = tt
read-set (x ∷ handles) zero h all q = (q, all.1)
read-set (x ∷ handles) (suc i) h all q = (all.0, read-set handles i h all.1 q)

read-not-put : {T : Type 0} (d : Dialogue T) → IsRead d → IsPut d → ⊥
read-not-put (Read cleanup decides next) reads puts = puts
read-not-put _ reads puts = reads

-- no command of these handles holds back a part
pub none-held : {T A E : Type 0} (handles : List (HandleState T A E)) → AllRead handles → (i : ℕ) (h : HandleState T A E) (place : Place T) → slice_get handles i ≡ Some h → h.running ≡ Some place → IsPut place.dialogue → ⊥
none-held handles all i h place at runs puts = read-not-put place.dialogue (subst RunReads runs (read-at handles i h all at)).0 puts

still-none : {T : Type 0} (d : Dialogue T) (put : ℕ) → StillPuts 0 d put → PutsAtMost 0 d
still-none d put h = let few = h.fewer in let none : h.own ≡ 0 = omega (arith, few) in subst (λ (n : ℕ). PutsAtMost n d) none h.puts

module _ {C T A E : Type 0} (speech : Speech C T A E) (none : PutNone speech) where
  begun-none : (own : E) (c : C) (d : Dialogue T) → AsksCommand (speech.says own c) d → PutsAtMost 0 d
  begun-none own c d (inl is) = subst (λ (x : Dialogue T). PutsAtMost 0 x) (sym is) (none own c)
  begun-none own c d (inr is) = subst (λ (x : Dialogue T). PutsAtMost 0 x) (sym is) tt

  from-none : (script : List C) (old : HandleState T A E) (begins : Bool) (from : Place T) → StartsAt speech script old begins from → RunReads old.running → PutsAtMost 0 from.dialogue
  from-none script old true from starts runs = begun-none old.own starts.next from.dialogue starts.asks
  from-none script old false from starts runs = (subst RunReads starts runs).1

  waits-reads : (script : List C) (stamp : Stamp) (a b : Standing) (old new : HandleState T A E) (begins : Bool) → RunReads old.running → Waits HubBecomes speech script stamp a old b new begins → RunReads new.running
  waits-reads script stamp a b old new begins runs h =
      let es = h.pauses.goes.events in
      let left = still-none h.to.dialogue (puts_in es)
      (puts-walk stamp 0 h.from.dialogue h.from.reads es h.to.dialogue h.to.reads (from-none script old begins h.from h.starts runs) h.pauses.goes.walked) in
      subst (λ (x : HandleState T A E). RunReads x.running) (sym h.handle) (reads-so h.to.dialogue (may-wait h.to es h.pauses.waits) left, left)

  turn-reads : (did : Polling) (script : List C) (stamp : Stamp) (a b : Standing) (old new : HandleState T A E) → RunReads old.running → HandleTurns HubBecomes speech script stamp a old b new did → RunReads new.running
  turn-reads polling.Idle script stamp a b old new runs h = subst (λ (x : HandleState T A E). RunReads x.running) (sym h.handle) runs
  turn-reads polling.Began script stamp a b old new runs h = waits-reads script stamp a b old new true runs h
  turn-reads polling.Waits script stamp a b old new runs h = waits-reads script stamp a b old new false runs h
  turn-reads polling.Answered script stamp a b old new runs h = subst (λ (x : HandleState T A E). RunReads x.running) (sym h.handle) tt

  makes-reads : (scripts : List (List C)) (turn : ℕ) (s t : SessionState T A E) (l m : LinkView) (over : Bool) → Makes speech scripts turn s t l m over → AllRead s.handles → AllRead t.handles
  makes-reads scripts turn s t l m over (inl handle) all =
      let made = handle.made in
      subst (λ (hs : List (HandleState T A E)). AllRead hs) (sym made.handles)
      (read-set s.handles turn made.new all (turn-reads handle.did made.script _ (untouched s.hub) made.hub made.old made.new (read-at s.handles turn made.old all made.old_at) made.turns))
  makes-reads scripts turn s t l m over (inr connection) all = subst (λ (hs : List (HandleState T A E)). AllRead hs) (sym connection.made.handles) all

  pub all-reads : (scripts : List (List C)) (turns : List ℕ) (s : SessionState T A E) (l : LinkView) (t : SessionState T A E) (m : LinkView) → MakesAll speech scripts turns s l t m → AllRead s.handles → AllRead t.handles
  all-reads scripts [] s l t m made all = subst (λ (x : SessionState T A E). AllRead x.handles) (sym made.0) all
  all-reads scripts (turn ∷ turns) s l t m (rested, mid, passed, rests, makes, more) all = all-reads scripts turns mid passed t m more (makes-reads scripts turn s mid rested passed false makes all)
