-- One dialogue behind the value of another: events lead along both as they led along the first.
use Rattle.std.proofs.Common.{◌≡◌, ◌⊎◌, inl, inr, ℕ, List, [], ◌∷◌, ◌++◌, Bool, true, false, if◌then◌else◌, Result, Ok, Err, refl, sym, ap, ◌∙◌, subst}
use Rattle.std.proofs.lemmas.List.{append-nil}
use Rattle.pg_spec.specs.RawMessages.{RawMessage}
use Rattle.pg_spec.specs.declared.stamps.Stamp.{Stamp}
use Rattle.pg_desk.specs.declared.event.DeskFault.{DeskFault}
use Rattle.pg_desk.specs.declared.event.Put.TheVariants as putting
use Rattle.pg_desk.specs.declared.event.Take.TheVariants as taking
use Rattle.pg_desk.specs.declared.event.Event.{Event}
use Rattle.pg_desk.specs.declared.event.Event.TheVariants as call
use Rattle.pg_types.specs.declared.error.Error.{Error}
use Rattle.pg_types.specs.declared.error.Error.TheVariants.{OutOfMemory}
use Rattle.pg_query.specs.declared.desk_call.Cleanup.{Cleanup}
use Rattle.pg_query.specs.declared.desk_call.Reply.{Reply}
use Rattle.pg_query.specs.Dialogue.{Dialogue, Answer, Ask, Send, Leave, Read, Put, Finish, Close, HangUp, Call, Hear, feed, feed_one, after_reply, Steps, Walks, cleaning}
use Rattle.pg_query.specs.Meaning.{ForMessage, ForRoom, Place, Goes, GoesToAnswer, Pauses, GivesUp, WaitsAt}
use Rattle.pg_query.specs.Scripts.{IsPut, IsRead, cleanup_of}
use Rattle.pg_core.specs.Sequences.{then_do}

-- an error is one, whatever the value would be
same-error : {A T : Type 0} (e x : Error) → (let r : Result A Error = Err e in r) ≡ Err x → (let r : Result T Error = Err e in r) ≡ Err x
same-error {A} {T} e x h =
    let same : e ≡ x = cc in
    ap (λ (y : Error). let r : Result T Error = Err y in r) same

-- Messages that came before count for nothing in the second one.
module _ {A T : Type 0} (f : A → Dialogue T) (deaf : (x : A) (m : RawMessage) → feed_one m (f x) ≡ f x) where
  -- both
  abbrev whole : Dialogue A → Dialogue T
  whole d = then_do d f

  -- where one stands in both
  abbrev pub whole-place : Place A → Place T
  whole-place p = record { dialogue = then_do p.dialogue f; reads = p.reads }

  -- ---- messages that came

  -- one message that isn't read yet
  one-whole : (m : RawMessage) (d : Dialogue A) → feed_one m (whole d) ≡ whole (feed_one m d)
  one-whole m (Answer (Ok x)) = deaf x m
  one-whole m (Answer (Err e)) = refl
  one-whole m (Ask copying part d) = refl
  one-whole m (Send part refused d) = λ i. Send part (λ e. one-whole m (refused e) i) (one-whole m d i)
  one-whole m (Leave id d) = ap (λ (x : Dialogue T). Leave id x) (one-whole m d)
  one-whole m (Read cleanup decides next) = by (decides (m ∷ []))
    where
      by : (b : Bool) → (if b then whole (next (m ∷ [])) else Read (cleanup ++ []) (λ ms. decides (m ∷ ms)) (λ ms. whole (next (m ∷ ms))))
          ≡ whole (if b then next (m ∷ []) else Read cleanup (λ ms. decides (m ∷ ms)) (λ ms. next (m ∷ ms)))
      by true = refl
      by false = refl
  one-whole m (Put cleanup part d) = ap (λ (x : Dialogue T). Put (cleanup ++ []) part x) (one-whole m d)
  one-whole m (Finish part d) = ap (λ (x : Dialogue T). Finish part x) (one-whole m d)
  one-whole m (Close part d) = ap (λ (x : Dialogue T). Close part x) (one-whole m d)
  one-whole m (HangUp d) = refl
  one-whole m (Call q refused next) = λ i. Call q (λ e. one-whole m (refused e) i) (λ r. one-whole m (next r) i)
  one-whole m (Hear next) = λ i. Hear (λ r. one-whole m (next r) i)

  -- and several
  fed-whole : (ms : List RawMessage) (d : Dialogue A) → feed ms (whole d) ≡ whole (feed ms d)
  fed-whole [] d = refl
  fed-whole (m ∷ ms) d = ap (feed ms) (one-whole m d) ∙ fed-whole ms (feed_one m d)

  -- ---- events

  told-whole : (r : Result Reply DeskFault) (refused : Error → Dialogue A) (next : Reply → Dialogue A) →
      whole (after_reply r refused next) ≡ after_reply r (λ e. whole (refused e)) (λ x. whole (next x))
  told-whole (Ok x) refused next = refl
  told-whole (Err fault) refused next = refl

  -- an event leads both as it led the first
  step-whole : (stamp : Stamp) (d : Dialogue A) (id : ℕ) (e : Event) (d' : Dialogue A) (id' : ℕ) → Steps stamp d id e d' id' → Steps stamp (whole d) id e (whole d') id'
  step-whole stamp (Ask copying part d) id (call.Book stamp' part' copying' (Ok new)) d' id' s = (s.0, s.1, s.2, ap whole s.3, s.4)
  step-whole stamp (Ask copying part d) id (call.Book stamp' part' copying' (Err e)) d' id' s = (s.0, s.1, s.2, ap whole s.3, s.4)
  step-whole stamp (Ask copying part d) id e d' id' s = absurd s
  step-whole stamp (Send part refused d) id (call.Book stamp' part' copying (Ok new)) d' id' s = (s.0, s.1, s.2, ap whole s.3, s.4)
  step-whole stamp (Send part refused d) id (call.Book stamp' part' copying (Err e)) d' id' s = (s.0, s.1, s.2, ap whole s.3, s.4)
  step-whole stamp (Send part refused d) id e d' id' s = absurd s
  step-whole stamp (Leave sent d) id (call.HangUp which (Ok x)) d' id' s = (s.0, ap whole s.1, s.2)
  step-whole stamp (Leave sent d) id (call.HangUp which (Err e)) d' id' s = (s.0, ap whole s.1, s.2)
  step-whole stamp (Leave sent d) id e d' id' s = absurd s
  step-whole stamp (Read cleanup decides next) id (call.Take which (Ok (taking.Batch ms))) d' id' s =
      (s.0, ap whole s.1 ∙ sym (fed-whole ms (Read cleanup decides next)), s.2)
  step-whole stamp (Read cleanup decides next) id (call.Take which (Ok taking.Empty)) d' id' s = (s.0, ap whole s.1, s.2)
  step-whole stamp (Read cleanup decides next) id (call.Take which (Ok taking.Over)) d' id' s = (s.0, ap whole s.1, s.2)
  step-whole stamp (Read cleanup decides next) id (call.Take which (Ok taking.Gone)) d' id' s = (s.0, ap whole s.1, s.2)
  step-whole stamp (Read cleanup decides next) id (call.Take which (Err e)) d' id' s = (s.0, ap whole s.1, s.2)
  step-whole stamp (Read cleanup decides next) id e d' id' s = absurd s
  step-whole stamp (Put cleanup part d) id (call.Put which part' putting.Took) d' id' s = (s.0, s.1, ap whole s.2, s.3)
  step-whole stamp (Put cleanup part d) id (call.Put which part' (putting.Full back)) d' id' s = (s.0, s.1, ap whole s.2, s.3)
  step-whole stamp (Put cleanup part d) id (call.Put which part' (putting.Gone back)) d' id' s = (s.0, s.1, ap whole s.2, s.3)
  step-whole stamp (Put cleanup part d) id (call.Put which part' (putting.OutOfMemory back)) d' id' s = (s.0, s.1, ap whole s.2, s.3)
  step-whole stamp (Put cleanup part d) id e d' id' s = absurd s
  step-whole stamp (Finish part d) id (call.EndCopy which part' putting.Took) d' id' s = (s.0, s.1, ap whole s.2, s.3)
  step-whole stamp (Finish part d) id (call.EndCopy which part' (putting.Gone back)) d' id' s = (s.0, s.1, ap whole s.2, s.3)
  step-whole stamp (Finish part d) id (call.EndCopy which part' (putting.OutOfMemory back)) d' id' s = (s.0, s.1, ap whole s.2, s.3)
  step-whole stamp (Finish part d) id e d' id' s = absurd s
  step-whole stamp (Close part d) id (call.EndCopy which part' putting.Took) d' id' s = (s.0, s.1, ap whole s.2, s.3)
  step-whole stamp (Close part d) id (call.EndCopy which part' (putting.Gone back)) d' id' s = (s.0, s.1, ap whole s.2, s.3)
  step-whole stamp (Close part d) id (call.EndCopy which part' (putting.OutOfMemory back)) d' id' s = (s.0, s.1, ap whole s.2, s.3)
  step-whole stamp (Close part d) id e d' id' s = absurd s
  step-whole stamp (HangUp d) id (call.HangUp which (Ok x)) d' id' s = (s.0, ap whole s.1, s.2)
  step-whole stamp (HangUp d) id (call.HangUp which (Err e)) d' id' s = (s.0, ap whole s.1, s.2)
  step-whole stamp (HangUp d) id e d' id' s = absurd s
  step-whole stamp (Call q refused next) id e d' id' (r, told, is, same) = (r, told, ap whole is ∙ told-whole r refused next, same)
  step-whole stamp (Answer r) id e d' id' s = absurd s
  step-whole stamp (Hear next) id e d' id' s = absurd s

  -- and so do several
  walk-whole : (stamp : Stamp) (d : Dialogue A) (id : ℕ) (es : List Event) (d' : Dialogue A) (id' : ℕ) → Walks stamp d id es d' id' → Walks stamp (whole d) id es (whole d') id'
  walk-whole stamp d id [] d' id' w = (ap whole w.0, w.1)
  walk-whole stamp d id (e ∷ es) d' id' (mid, n, s, w) = (whole mid, n, step-whole stamp d id e mid n s, walk-whole stamp mid n es d' id' w)

  -- ---- where it waits, and what is left to do

  read-whole : (d : Dialogue A) → IsRead d → IsRead (whole d)
  read-whole (Read cleanup decides next) h = tt
  read-whole (Answer r) h = absurd h
  read-whole (Ask copying part d) h = absurd h
  read-whole (Send part refused d) h = absurd h
  read-whole (Leave id d) h = absurd h
  read-whole (Put cleanup part d) h = absurd h
  read-whole (Finish part d) h = absurd h
  read-whole (Close part d) h = absurd h
  read-whole (HangUp d) h = absurd h
  read-whole (Call q refused next) h = absurd h
  read-whole (Hear next) h = absurd h

  put-whole : (d : Dialogue A) → IsPut d → IsPut (whole d)
  put-whole (Put cleanup part d) h = tt
  put-whole _ h = absurd h

  waits-whole : (q : Place A) (es : List Event) → WaitsAt q es → WaitsAt (whole-place q) es
  waits-whole q es (ForMessage reads none) = ForMessage (read-whole q.dialogue reads) none
  waits-whole q es (ForRoom puts part full) = ForRoom (put-whole q.dialogue puts) part full

  -- the same as of the first, where nothing is before the second begins
  left-whole : ((x : A) → cleanup_of (f x) ≡ []) → (d : Dialogue A) → cleanup_of (whole d) ≡ cleanup_of d
  left-whole fresh (Answer (Ok x)) = fresh x
  left-whole fresh (Answer (Err e)) = refl
  left-whole fresh (Read cleanup decides next) = append-nil cleanup
  left-whole fresh (Put cleanup part d) = append-nil cleanup
  left-whole fresh (Ask copying part d) = refl
  left-whole fresh (Send part refused d) = refl
  left-whole fresh (Leave id d) = refl
  left-whole fresh (Finish part d) = refl
  left-whole fresh (Close part d) = refl
  left-whole fresh (HangUp d) = refl
  left-whole fresh (Call q refused next) = refl
  left-whole fresh (Hear next) = refl

  -- behind its value the second begins
  at-value : (d : Dialogue A) (r : Result A Error) (x : A) → r ≡ Ok x → (d ≡ Answer r) ⊎ (r ≡ Err OutOfMemory) → whole d ≡ f x
  at-value d r x is (inl same) = ap whole (same ∙ ap (λ (y : Result A Error). let c : Dialogue A = Answer y in c) is)
  at-value d r x is (inr lack) = absurd cc

  -- an error is the whole answer
  at-error : (d : Dialogue A) (r : Result A Error) (e : Error) → r ≡ Err e → (d ≡ Answer r) ⊎ (r ≡ Err OutOfMemory) → (whole d ≡ Answer (Err e)) ⊎ ((let y : Result T Error = Err e in y) ≡ Err OutOfMemory)
  at-error d r e is (inl same) = inl (ap whole (same ∙ ap (λ (y : Result A Error). let c : Dialogue A = Answer y in c) is))
  at-error d r e is (inr lack) = inr (same-error {A = A} {T = T} e OutOfMemory (sym is ∙ lack))

  -- ---- polls of the first

  module _ {D : Type 0} (becomes : D → List Event → D → Type 0) (stamp : Stamp) (a : D) (p : Place A) (b : D) where
    goes-whole : (q : Place A) → Goes becomes stamp a p b q → Goes becomes stamp a (whole-place p) b (whole-place q)
    goes-whole q g = record { events = g.events; became = g.became; walked = walk-whole stamp p.dialogue p.reads g.events q.dialogue q.reads g.walked }

    -- it answered this value
    pub value-whole : (r : Result A Error) (x : A) → r ≡ Ok x → (g : GoesToAnswer becomes stamp a p b r) → Goes becomes stamp a (whole-place p) b (record { dialogue = f x; reads = g.last.reads })
    value-whole r x is g = record {
      events = g.goes.events;
      became = g.goes.became;
      walked = subst (λ (d : Dialogue T). Walks stamp (whole p.dialogue) p.reads g.goes.events d g.last.reads) (at-value g.last.dialogue r x is g.answers)
          (walk-whole stamp p.dialogue p.reads g.goes.events g.last.dialogue g.last.reads g.goes.walked);
    }

    -- or this error
    pub error-whole : (r : Result A Error) (e : Error) → r ≡ Err e → GoesToAnswer becomes stamp a p b r → GoesToAnswer becomes stamp a (whole-place p) b (Err e)
    error-whole r e is g = record { last = whole-place g.last; goes = goes-whole g.last g.goes; answers = at-error g.last.dialogue r e is g.answers }

    -- it waits
    pub pauses-whole : (q : Place A) → Pauses becomes stamp a p b q → Pauses becomes stamp a (whole-place p) b (whole-place q)
    unfolding goes-whole
    pauses-whole q h = record { goes = goes-whole q h.goes; waits = waits-whole q h.goes.events h.waits }

    -- it is given up
    pub gives-up-whole : ((x : A) → cleanup_of (f x) ≡ []) → (r : Result (Unit {0}) Error) → GivesUp becomes stamp a p b r → GivesUp becomes stamp a (whole-place p) b r
    gives-up-whole fresh r g =
        subst (λ (c : List Cleanup). GoesToAnswer becomes stamp a (record { dialogue = cleaning c; reads = p.reads }) b r) (sym (left-whole fresh p.dialogue)) g
