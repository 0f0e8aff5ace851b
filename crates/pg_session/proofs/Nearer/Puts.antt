-- How many parts commands may still put.
use Rattle.std.proofs.Common.{◌≡◌, inl, inr, ℕ, zero, suc, ◌+◌, ◌-◌, ◌≤◌, List, [], ◌∷◌, drop, length, Bool, true, false, if◌then◌else◌, Option, Some, None, Result, Ok, Err, refl, sym, ap, subst, arith, slice_get, slice_set}
use Rattle.pg_spec.specs.RawMessages.{RawMessage}
use Rattle.pg_spec.specs.declared.stamps.Stamp.{Stamp}
use Rattle.pg_types.specs.declared.error.Error.{Error}
use Rattle.pg_desk.specs.Asking.{IsAsking}
use Rattle.pg_desk.specs.declared.event.DeskFault.{DeskFault}
use Rattle.pg_desk.specs.declared.event.Put.TheVariants as putting
use Rattle.pg_desk.specs.declared.event.Take.TheVariants as taking
use Rattle.pg_desk.specs.declared.event.Event.{Event}
use Rattle.pg_desk.specs.declared.event.Event.TheVariants.{Book, Put as PutEvent, EndCopy, Take as TakeEvent, HangUp as HangUpEvent, NextStatement, NextPortal, Catalog as CatalogEvent}
use Rattle.pg_query.specs.Dialogue.{Dialogue, Answer, Ask, Send, Leave, Read, Put, Finish, Close, HangUp, Call, Hear, Steps, Walks, Told, after_reply, feed, feed_one}
use Rattle.pg_query.specs.Faults.{of_fault}
use Rattle.pg_query.specs.Meaning.{Place}
use Rattle.pg_query.specs.Scripts.{IsRead}
use Rattle.pg_query.specs.declared.desk_call.DeskCall.{DeskCall}
use Rattle.pg_query.specs.declared.desk_call.Reply.{Reply}
use Rattle.pg_query.proofs.LeavingLaws.{told-fits}
use Rattle.pg_query.proofs.Questions.{told-asks}
use Rattle.pg_session.specs.Handles.{HandleState}
use Rattle.pg_session.specs.Speeches.{BookWhole, BooksWhole, Speech}
use Rattle.pg_core.specs.Runs.{MayWait}
use Rattle.pg_session.specs.Measure.{AllMayPut, AllRead, AllWait, MayPut, PutNone, PutsAtMost, RunReads, RunWaits, bounds_of}

-- ---- of a dialogue

puts-one : {T : Type 0} (m : RawMessage) (n : ℕ) (d : Dialogue T) → PutsAtMost n d → PutsAtMost n (feed_one m d)
puts-one m n (Answer r) h = tt
puts-one m n (Ask copying part d) h = h
puts-one m n (Send part refused d) h = (λ e. puts-one m n (refused e) (h.0 e), puts-one m n d h.1)
puts-one m n (Leave id d) h = puts-one m n d h
puts-one {T} m n (Read cleanup decides next) h = by (decides (m ∷ []))
  where
    by : (b : Bool) → PutsAtMost n (if b then next (m ∷ []) else Read cleanup (λ ms. decides (m ∷ ms)) (λ ms. next (m ∷ ms)))
    by true = h (m ∷ [])
    by false = λ ms. h (m ∷ ms)
puts-one m n (Put cleanup part d) h = (h.0, puts-one m (n - 1) d h.1)
puts-one m n (Finish part d) h = puts-one m n d h
puts-one m n (Close part d) h = puts-one m n d h
puts-one m n (HangUp d) h = h
puts-one m n (Call q refused next) h = (λ e. puts-one m n (refused e) (h.0 e), λ r fit. puts-one m n (next r) (h.1 r fit))
puts-one m n (Hear next) h = tt

puts-fed : {T : Type 0} (ms : List RawMessage) (n : ℕ) (d : Dialogue T) → PutsAtMost n d → PutsAtMost n (feed ms d)
puts-fed [] n d h = h
puts-fed (m ∷ ms) n d h = puts-fed ms n (feed_one m d) (puts-one m n d h)

-- a dialogue whose requests are whole puts none
books-none : {T : Type 0} (d : Dialogue T) → BooksWhole d → PutsAtMost 0 d
books-none (Answer r) h = tt
books-none (Ask copying part d) h = books-none d h.2
books-none (Send part refused d) h = (λ e. books-none (refused e) (h.1 e), books-none d h.2)
books-none (Leave id d) h = books-none d h
books-none (Read cleanup decides next) h = λ ms. books-none (next ms) (h ms)
books-none (Put cleanup part d) h = absurd h
books-none (Finish part d) h = absurd h
books-none (Close part d) h = absurd h
books-none (HangUp d) h = books-none d h
books-none (Call q refused next) h = (λ e. books-none (refused e) (h.0 e), λ r fit. books-none (next r) (h.1 r fit))
books-none (Hear next) h = tt

pub whole-put-none : {C T A E : Type 0} (speech : Speech C T A E) → BookWhole speech → PutNone speech
whole-put-none speech whole own c = books-none (speech.says own c) (whole own c)

-- ---- of a walk

-- whether a part was put by an event
abbrev pub puts_by : Event → ℕ
puts_by (PutEvent id part putting.Took) = 1
puts_by _ = 0

-- how many parts were put
abbrev pub puts_in : List Event → ℕ
puts_in [] = 0
puts_in (e ∷ es) = puts_by e + puts_in es

-- a question puts none
asks-none : (e : Event) → IsAsking e → puts_by e ≡ 0
asks-none (NextStatement answer) h = refl
asks-none (NextPortal answer) h = refl
asks-none (CatalogEvent call) h = refl
asks-none e h = absurd h

-- what may be put behind some events
pub record StillPuts {T : Type 0} (n : ℕ) (d : Dialogue T) (put : ℕ) : Type 0 where
  pub own : ℕ
  pub puts : PutsAtMost own d
  pub fewer : own + put ≤ n

still : {T : Type 0} (n : ℕ) (d d' : Dialogue T) (put : ℕ) → d' ≡ d → PutsAtMost n d → put ≡ 0 → StillPuts n d' put
still {T} n d d' put is h none = record { own = n; puts = subst (λ (x : Dialogue T). PutsAtMost n x) (sym is) h; fewer = omega (arith, none) }

puts-told : {T : Type 0} (n : ℕ) (q : DeskCall) (refused : Error → Dialogue T) (next : Reply → Dialogue T) (e : Event) (r : Result Reply DeskFault) → Told q e r → PutsAtMost n (Call q refused next) → PutsAtMost n (after_reply r refused next)
puts-told n q refused next e (Ok r) told h = h.1 r (told-fits q e r told)
puts-told n q refused next e (Err f) told h = h.0 (of_fault f)

puts-step : {T : Type 0} (stamp : Stamp) (n : ℕ) (d : Dialogue T) (id : ℕ) (e : Event) (d' : Dialogue T) (id' : ℕ) → PutsAtMost n d → Steps stamp d id e d' id' → StillPuts n d' (puts_by e)
puts-step stamp n (Answer r) id e d' id' h st = absurd st
puts-step stamp n (Ask copying part d) id (Book given part' copying' (Ok new)) d' id' h st = still n d d' 0 st.3 h refl
puts-step stamp n (Ask copying part d) id (Book given part' copying' (Err f)) d' id' h st = still n (Answer _) d' 0 st.3 tt refl
puts-step stamp n (Ask copying part d) id e d' id' h st = absurd st
puts-step stamp n (Send part refused d) id (Book given part' copying (Ok new)) d' id' h st = still n (Leave new d) d' 0 st.3 h.1 refl
puts-step stamp n (Send part refused d) id (Book given part' copying (Err f)) d' id' h st = still n (refused (of_fault f)) d' 0 st.3 (h.0 (of_fault f)) refl
puts-step stamp n (Send part refused d) id e d' id' h st = absurd st
puts-step stamp n (Leave sent d) id (HangUpEvent which (Ok x)) d' id' h st = still n d d' 0 st.1 h refl
puts-step stamp n (Leave sent d) id (HangUpEvent which (Err f)) d' id' h st = still n (Answer _) d' 0 st.1 tt refl
puts-step stamp n (Leave sent d) id e d' id' h st = absurd st
puts-step stamp n (Read cleanup decides next) id (TakeEvent which (Ok (taking.Batch ms))) d' id' h st = still n (feed ms (Read cleanup decides next)) d' 0 st.1 (puts-fed ms n (Read cleanup decides next) h) refl
puts-step stamp n (Read cleanup decides next) id (TakeEvent which (Ok taking.Empty)) d' id' h st = still n (Read cleanup decides next) d' 0 st.1 h refl
puts-step stamp n (Read cleanup decides next) id (TakeEvent which (Ok taking.Over)) d' id' h st = still n (Answer _) d' 0 st.1 tt refl
puts-step stamp n (Read cleanup decides next) id (TakeEvent which (Ok taking.Gone)) d' id' h st = still n (HangUp (Answer _)) d' 0 st.1 tt refl
puts-step stamp n (Read cleanup decides next) id (TakeEvent which (Err f)) d' id' h st = still n (Answer _) d' 0 st.1 tt refl
puts-step stamp n (Read cleanup decides next) id e d' id' h st = absurd st
puts-step {T} stamp n (Put cleanup part d) id (PutEvent which part' putting.Took) d' id' h st =
    record { own = n - 1; puts = subst (λ (x : Dialogue T). PutsAtMost (n - 1) x) (sym st.2) h.1; fewer = (let some = h.0 in omega (arith, some)) }
puts-step stamp n (Put cleanup part d) id (PutEvent which part' (putting.Full back)) d' id' h st = still n (Put cleanup part d) d' 0 st.2 h refl
puts-step stamp n (Put cleanup part d) id (PutEvent which part' (putting.Gone back)) d' id' h st = still n (HangUp (Answer _)) d' 0 st.2 tt refl
puts-step stamp n (Put cleanup part d) id (PutEvent which part' (putting.OutOfMemory back)) d' id' h st = still n (Answer _) d' 0 st.2 tt refl
puts-step stamp n (Put cleanup part d) id e d' id' h st = absurd st
puts-step stamp n (Finish part d) id (EndCopy which part' putting.Took) d' id' h st = still n d d' 0 st.2 h refl
puts-step stamp n (Finish part d) id (EndCopy which part' (putting.Gone back)) d' id' h st = still n (HangUp (Answer _)) d' 0 st.2 tt refl
puts-step stamp n (Finish part d) id (EndCopy which part' (putting.OutOfMemory back)) d' id' h st = still n (Answer _) d' 0 st.2 tt refl
puts-step stamp n (Finish part d) id e d' id' h st = absurd st
puts-step stamp n (Close part d) id (EndCopy which part' putting.Took) d' id' h st = still n d d' 0 st.2 h refl
puts-step stamp n (Close part d) id (EndCopy which part' (putting.Gone back)) d' id' h st = still n d d' 0 st.2 h refl
puts-step stamp n (Close part d) id (EndCopy which part' (putting.OutOfMemory back)) d' id' h st = still n (Answer _) d' 0 st.2 tt refl
puts-step stamp n (Close part d) id e d' id' h st = absurd st
puts-step stamp n (HangUp d) id (HangUpEvent which (Ok x)) d' id' h st = still n d d' 0 st.1 h refl
puts-step stamp n (HangUp d) id (HangUpEvent which (Err f)) d' id' h st = still n (Answer _) d' 0 st.1 tt refl
puts-step stamp n (HangUp d) id e d' id' h st = absurd st
puts-step stamp n (Call q refused next) id e d' id' h (r, told, is, same) = still n (after_reply r refused next) d' (puts_by e) is (puts-told n q refused next e r told h) (asks-none e (told-asks q e r told))
puts-step stamp n (Hear next) id e d' id' h st = absurd st

pub puts-walk : {T : Type 0} (stamp : Stamp) (n : ℕ) (d : Dialogue T) (id : ℕ) (es : List Event) (d' : Dialogue T) (id' : ℕ) → PutsAtMost n d → Walks stamp d id es d' id' → StillPuts n d' (puts_in es)
puts-walk stamp n d id [] d' id' h w = still n d d' 0 w.0 h refl
puts-walk stamp n d id (e ∷ es) d' id' h (mid, at, st, w) =
    let one = puts-step stamp n d id e mid at h st in
    let more = puts-walk stamp one.own mid at es d' id' one.puts w in
    let few = one.fewer in
    let fewer = more.fewer in
    record { own = more.own; puts = more.puts; fewer = omega (arith, few, fewer) }

-- ---- of scripts

-- the next command's share
pub bounds-next : {C : Type 0} (bound : C → ℕ) (script : List C) (k : ℕ) (c : C) → slice_get script k ≡ Some c → bounds_of bound (drop k script) ≡ bound c + bounds_of bound (drop (suc k) script)
bounds-next bound [] k c h = absurd cc
bounds-next {C} bound (x ∷ script) zero c h = let same : x ≡ c = cc in ap (λ (y : C). bound y + bounds_of bound script) same
bounds-next bound (x ∷ script) (suc k) c h = bounds-next bound script k c h

-- a handle's share changes, and with it all
pub record Changes {C T A E : Type 0} (bound : C → ℕ) (scripts : List (List C)) (handles : List (HandleState T A E)) (turn : ℕ) (script : List C) (old : HandleState T A E) (n : ℕ) : Type 0 where
  pub own : ℕ
  pub may : MayPut bound script old.running (length old.answers) own
  pub set : (new : HandleState T A E) (k : ℕ) → MayPut bound script new.running (length new.answers) k → (m : ℕ) × AllMayPut bound scripts (slice_set handles turn new) m × (m + own ≡ n + k)

pub puts-changed : {C T A E : Type 0} (bound : C → ℕ) (scripts : List (List C)) (handles : List (HandleState T A E)) (turn : ℕ) (script : List C) (old : HandleState T A E) (n : ℕ) →
    slice_get scripts turn ≡ Some script → slice_get handles turn ≡ Some old → AllMayPut bound scripts handles n → Changes bound scripts handles turn script old n
puts-changed bound [] handles turn script old n is at h = absurd cc
puts-changed bound (x ∷ scripts) [] turn script old n is at h = absurd cc
puts-changed {C} {T} {A} {E} bound (x ∷ scripts) (g ∷ handles) zero script old n is at (own, others, may, more, total) =
    let same : x ≡ script = cc in
    let here : g ≡ old = cc in
    record {
      own = own;
      may = subst (λ (s : List C). MayPut bound s old.running (length old.answers) own) same (subst (λ (y : HandleState T A E). MayPut bound x y.running (length y.answers) own) here may);
      set = λ new k puts. (k + others, (k, others, subst (λ (s : List C). MayPut bound s new.running (length new.answers) k) (sym same) puts, more, refl), omega (arith, total));
    }
puts-changed {C} {T} {A} {E} bound (x ∷ scripts) (g ∷ handles) (suc turn) script old n is at (own, others, may, more, total) =
    let r = puts-changed bound scripts handles turn script old others is at more in
    record {
      own = r.own;
      may = r.may;
      set = λ new k puts. (let s = r.set new k puts in (own + s.0, (own, s.0, may, s.1, refl), let e = s.2 in omega (arith, total, e)));
    }

-- ---- where none is put

bounds-none : {C : Type 0} (bound : C → ℕ) (cs : List C) → ((c : C) → bound c ≡ 0) → bounds_of bound cs ≡ 0
bounds-none bound [] h = refl
bounds-none bound (c ∷ cs) h = let one = h c in let more = bounds-none bound cs h in omega (arith, one, more)

abbrev pub no_parts : {C : Type 0} → C → ℕ
no_parts c = 0

one-none : {C T : Type 0} (script : List C) (running : Option (Place T)) (answered : ℕ) → RunReads running → MayPut no_parts script running answered 0
one-none script None answered r = sym (bounds-none no_parts (drop answered script) (λ c. refl))
one-none script (Some place) answered r = (0, r.1, let none = bounds-none no_parts (drop (suc answered) script) (λ c. refl) in omega (arith, none))

pub none-may : {C T A E : Type 0} (scripts : List (List C)) (handles : List (HandleState T A E)) → AllRead handles → AllMayPut no_parts scripts handles 0
none-may [] [] all = refl
none-may (script ∷ scripts) [] all = refl
none-may [] (h ∷ handles) all = (0, 0, one-none [] h.running (length h.answers) all.0, none-may [] handles all.1, refl)
none-may (script ∷ scripts) (h ∷ handles) all = (0, 0, one-none script h.running (length h.answers) all.0, none-may scripts handles all.1, refl)

run-waits : {T : Type 0} (running : Option (Place T)) → RunReads running → RunWaits running
run-waits None r = tt
run-waits (Some place) r = inl r.0

pub all-wait : {T A E : Type 0} (handles : List (HandleState T A E)) → AllRead handles → AllWait handles
all-wait [] all = tt
all-wait (h ∷ handles) all = (run-waits h.running all.0, all-wait handles all.1)

-- one that waits and puts none waits for a message
pub reads-so : {T : Type 0} (d : Dialogue T) → MayWait d → PutsAtMost 0 d → IsRead d
reads-so d (inl reads) h = reads
reads-so (Put cleanup part d) (inr puts) h = let some = h.0 in absurd (omega (arith, some))
reads-so _ (inr puts) h = absurd puts

one-reads : {C T : Type 0} (script : List C) (running : Option (Place T)) (answered own : ℕ) → MayPut no_parts script running answered own → own ≡ 0 → RunWaits running → RunReads running
one-reads script None answered own may none waits = tt
one-reads {C} {T} script (Some place) answered own (k, puts, total) none waits =
    let zero_left : k ≡ 0 = omega (arith, total, none) in
    let still = subst (λ (n : ℕ). PutsAtMost n place.dialogue) zero_left puts in (reads-so place.dialogue waits still, still)

pub all-read : {C T A E : Type 0} (scripts : List (List C)) (handles : List (HandleState T A E)) (n : ℕ) → AllMayPut no_parts scripts handles n → n ≡ 0 → AllWait handles → AllRead handles
all-read scripts [] n may none waits = tt
all-read [] (h ∷ handles) n (own, others, may, more, total) none waits =
    (one-reads [] h.running (length h.answers) own may (omega (arith, total, none)) waits.0, all-read [] handles others more (omega (arith, total, none)) waits.1)
all-read (script ∷ scripts) (h ∷ handles) n (own, others, may, more, total) none waits =
    (one-reads script h.running (length h.answers) own may (omega (arith, total, none)) waits.0, all-read scripts handles others more (omega (arith, total, none)) waits.1)
