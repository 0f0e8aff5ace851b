-- A command of whose value something is made does what it did.
use Rattle.std.proofs.Common.{◌≡◌, ◌⊎◌, inl, inr, ℕ, List, [], ◌∷◌, Bool, true, false, if◌then◌else◌, Result, Ok, Err, refl, sym, ap, ◌∙◌, subst}
use Rattle.pg_spec.specs.RawMessages.{RawMessage}
use Rattle.pg_spec.specs.declared.stamps.Stamp.{Stamp}
use Rattle.pg_desk.specs.declared.event.DeskFault.{DeskFault}
use Rattle.pg_desk.specs.declared.event.Put.TheVariants as putting
use Rattle.pg_desk.specs.declared.event.Take.TheVariants as taking
use Rattle.pg_desk.specs.declared.event.Event.{Event}
use Rattle.pg_desk.specs.declared.event.Event.TheVariants as call
use Rattle.pg_types.specs.declared.error.Error.{Error}
use Rattle.pg_types.specs.declared.error.Error.TheVariants.{OutOfMemory}
use Rattle.pg_query.specs.declared.desk_call.Cleanup.{Cleanup}
use Rattle.pg_query.specs.declared.desk_call.Reply.{Reply}
use Rattle.pg_query.specs.Dialogue.{Dialogue, Answer, Ask, Send, Leave, Read, Put, Finish, Close, HangUp, Call, Hear, feed, feed_one, after_reply, Steps, Walks, cleaning}
use Rattle.pg_query.specs.Meaning.{ForMessage, ForRoom, Place, Goes, GoesToAnswer, Pauses, GivesUp, WaitsAt}
use Rattle.pg_query.specs.Scripts.{IsPut, IsRead, cleanup_of}
use Rattle.pg_query.specs.Made.{TellsOrLacks, made, made_answer, made_place}

module _ {T U : Type 0} (f : T → Result U Error) where
  -- ---- messages that came

  -- one message that isn't read yet
  one-made : (m : RawMessage) (d : Dialogue T) → feed_one m (made f d) ≡ made f (feed_one m d)
  one-made m (Answer r) = refl
  one-made m (Ask copying part d) = refl
  one-made m (Send part refused d) = λ i. Send part (λ e. one-made m (refused e) i) (one-made m d i)
  one-made m (Leave id d) = ap (λ (x : Dialogue U). Leave id x) (one-made m d)
  one-made m (Read cleanup decides next) = by (decides (m ∷ []))
    where
      by : (b : Bool) → (if b then made f (next (m ∷ [])) else Read cleanup (λ ms. decides (m ∷ ms)) (λ ms. made f (next (m ∷ ms))))
          ≡ made f (if b then next (m ∷ []) else Read cleanup (λ ms. decides (m ∷ ms)) (λ ms. next (m ∷ ms)))
      by true = refl
      by false = refl
  one-made m (Put cleanup part d) = ap (λ (x : Dialogue U). Put cleanup part x) (one-made m d)
  one-made m (Finish part d) = ap (λ (x : Dialogue U). Finish part x) (one-made m d)
  one-made m (Close part d) = ap (λ (x : Dialogue U). Close part x) (one-made m d)
  one-made m (HangUp d) = refl
  one-made m (Call q refused next) = λ i. Call q (λ e. one-made m (refused e) i) (λ r. one-made m (next r) i)
  one-made m (Hear next) = λ i. Hear (λ r. one-made m (next r) i)

  -- and several
  fed-made : (ms : List RawMessage) (d : Dialogue T) → feed ms (made f d) ≡ made f (feed ms d)
  fed-made [] d = refl
  fed-made (m ∷ ms) d = ap (feed ms) (one-made m d) ∙ fed-made ms (feed_one m d)

  -- ---- events

  told-made : (r : Result Reply DeskFault) (refused : Error → Dialogue T) (next : Reply → Dialogue T) →
      made f (after_reply r refused next) ≡ after_reply r (λ e. made f (refused e)) (λ x. made f (next x))
  told-made (Ok x) refused next = refl
  told-made (Err fault) refused next = refl

  -- an event leads it as it did
  step-made : (stamp : Stamp) (d : Dialogue T) (id : ℕ) (e : Event) (d' : Dialogue T) (id' : ℕ) → Steps stamp d id e d' id' → Steps stamp (made f d) id e (made f d') id'
  step-made stamp (Ask copying part d) id (call.Book stamp' part' copying' (Ok new)) d' id' s = (s.0, s.1, s.2, ap (made f) s.3, s.4)
  step-made stamp (Ask copying part d) id (call.Book stamp' part' copying' (Err e)) d' id' s = (s.0, s.1, s.2, ap (made f) s.3, s.4)
  step-made stamp (Ask copying part d) id e d' id' s = absurd s
  step-made stamp (Send part refused d) id (call.Book stamp' part' copying (Ok new)) d' id' s = (s.0, s.1, s.2, ap (made f) s.3, s.4)
  step-made stamp (Send part refused d) id (call.Book stamp' part' copying (Err e)) d' id' s = (s.0, s.1, s.2, ap (made f) s.3, s.4)
  step-made stamp (Send part refused d) id e d' id' s = absurd s
  step-made stamp (Leave sent d) id (call.HangUp which (Ok x)) d' id' s = (s.0, ap (made f) s.1, s.2)
  step-made stamp (Leave sent d) id (call.HangUp which (Err e)) d' id' s = (s.0, ap (made f) s.1, s.2)
  step-made stamp (Leave sent d) id e d' id' s = absurd s
  step-made stamp (Read cleanup decides next) id (call.Take which (Ok (taking.Batch ms))) d' id' s =
      (s.0, ap (made f) s.1 ∙ sym (fed-made ms (Read cleanup decides next)), s.2)
  step-made stamp (Read cleanup decides next) id (call.Take which (Ok taking.Empty)) d' id' s = (s.0, ap (made f) s.1, s.2)
  step-made stamp (Read cleanup decides next) id (call.Take which (Ok taking.Over)) d' id' s = (s.0, ap (made f) s.1, s.2)
  step-made stamp (Read cleanup decides next) id (call.Take which (Ok taking.Gone)) d' id' s = (s.0, ap (made f) s.1, s.2)
  step-made stamp (Read cleanup decides next) id (call.Take which (Err e)) d' id' s = (s.0, ap (made f) s.1, s.2)
  step-made stamp (Read cleanup decides next) id e d' id' s = absurd s
  step-made stamp (Put cleanup part d) id (call.Put which part' putting.Took) d' id' s = (s.0, s.1, ap (made f) s.2, s.3)
  step-made stamp (Put cleanup part d) id (call.Put which part' (putting.Full back)) d' id' s = (s.0, s.1, ap (made f) s.2, s.3)
  step-made stamp (Put cleanup part d) id (call.Put which part' (putting.Gone back)) d' id' s = (s.0, s.1, ap (made f) s.2, s.3)
  step-made stamp (Put cleanup part d) id (call.Put which part' (putting.OutOfMemory back)) d' id' s = (s.0, s.1, ap (made f) s.2, s.3)
  step-made stamp (Put cleanup part d) id e d' id' s = absurd s
  step-made stamp (Finish part d) id (call.EndCopy which part' putting.Took) d' id' s = (s.0, s.1, ap (made f) s.2, s.3)
  step-made stamp (Finish part d) id (call.EndCopy which part' (putting.Gone back)) d' id' s = (s.0, s.1, ap (made f) s.2, s.3)
  step-made stamp (Finish part d) id (call.EndCopy which part' (putting.OutOfMemory back)) d' id' s = (s.0, s.1, ap (made f) s.2, s.3)
  step-made stamp (Finish part d) id e d' id' s = absurd s
  step-made stamp (Close part d) id (call.EndCopy which part' putting.Took) d' id' s = (s.0, s.1, ap (made f) s.2, s.3)
  step-made stamp (Close part d) id (call.EndCopy which part' (putting.Gone back)) d' id' s = (s.0, s.1, ap (made f) s.2, s.3)
  step-made stamp (Close part d) id (call.EndCopy which part' (putting.OutOfMemory back)) d' id' s = (s.0, s.1, ap (made f) s.2, s.3)
  step-made stamp (Close part d) id e d' id' s = absurd s
  step-made stamp (HangUp d) id (call.HangUp which (Ok x)) d' id' s = (s.0, ap (made f) s.1, s.2)
  step-made stamp (HangUp d) id (call.HangUp which (Err e)) d' id' s = (s.0, ap (made f) s.1, s.2)
  step-made stamp (HangUp d) id e d' id' s = absurd s
  step-made stamp (Call q refused next) id e d' id' (r, told, is, same) = (r, told, ap (made f) is ∙ told-made r refused next, same)
  step-made stamp (Answer r) id e d' id' s = absurd s
  step-made stamp (Hear next) id e d' id' s = absurd s

  -- and so do several
  walk-made : (stamp : Stamp) (d : Dialogue T) (id : ℕ) (es : List Event) (d' : Dialogue T) (id' : ℕ) → Walks stamp d id es d' id' → Walks stamp (made f d) id es (made f d') id'
  walk-made stamp d id [] d' id' w = (ap (made f) w.0, w.1)
  walk-made stamp d id (e ∷ es) d' id' (mid, n, s, w) = (made f mid, n, step-made stamp d id e mid n s, walk-made stamp mid n es d' id' w)

  -- ---- polls

  read-made : (d : Dialogue T) → IsRead d → IsRead (made f d)
  read-made (Read cleanup decides next) h = tt
  read-made (Answer r) h = absurd h
  read-made (Ask copying part d) h = absurd h
  read-made (Send part refused d) h = absurd h
  read-made (Leave id d) h = absurd h
  read-made (Put cleanup part d) h = absurd h
  read-made (Finish part d) h = absurd h
  read-made (Close part d) h = absurd h
  read-made (HangUp d) h = absurd h
  read-made (Call q refused next) h = absurd h
  read-made (Hear next) h = absurd h

  put-made : (d : Dialogue T) → IsPut d → IsPut (made f d)
  put-made (Put cleanup part d) h = tt
  put-made _ h = absurd h

  waits-made : (q : Place T) (es : List Event) → WaitsAt q es → WaitsAt (made_place f q) es
  waits-made q es (ForMessage reads none) = ForMessage (read-made q.dialogue reads) none
  waits-made q es (ForRoom puts part full) = ForRoom (put-made q.dialogue puts) part full

  -- what is left to do is the same
  left-made : (d : Dialogue T) → cleanup_of (made f d) ≡ cleanup_of d
  left-made (Read cleanup decides next) = refl
  left-made (Put cleanup part d) = refl
  left-made (Answer r) = refl
  left-made (Ask copying part d) = refl
  left-made (Send part refused d) = refl
  left-made (Leave id d) = refl
  left-made (Finish part d) = refl
  left-made (Close part d) = refl
  left-made (HangUp d) = refl
  left-made (Call q refused next) = refl
  left-made (Hear next) = refl

  module _ {D : Type 0} (becomes : D → List Event → D → Type 0) (stamp : Stamp) (a : D) (p : Place T) (b : D) where
    goes-made : (q : Place T) → Goes becomes stamp a p b q → Goes becomes stamp a (made_place f p) b (made_place f q)
    goes-made q g = record { events = g.events; became = g.became; walked = walk-made stamp p.dialogue p.reads g.events q.dialogue q.reads g.walked }

    -- a poll that answered
    pub answers-made : (r : Result T Error) → GoesToAnswer becomes stamp a p b r → GoesToAnswer becomes stamp a (made_place f p) b (made_answer f r)
    answers-made r g = record { last = made_place f g.last; goes = goes-made g.last g.goes; answers = by g.answers }
      where
        by : (g.last.dialogue ≡ Answer r) ⊎ (r ≡ Err OutOfMemory) → (made f g.last.dialogue ≡ Answer (made_answer f r)) ⊎ (made_answer f r ≡ Err OutOfMemory)
        by (inl e) = inl (ap (made f) e)
        by (inr e) = inr (ap (made_answer f) e)

    -- one that waits
    pub pauses-made : (q : Place T) → Pauses becomes stamp a p b q → Pauses becomes stamp a (made_place f p) b (made_place f q)
    unfolding goes-made
    pauses-made q h = record { goes = goes-made q h.goes; waits = waits-made q h.goes.events h.waits }

    -- one that answered, where memory lacks for what is made of it
    pub lacks-made : (r : Result T Error) → GoesToAnswer becomes stamp a p b r → GoesToAnswer becomes stamp a (made_place f p) b (Err OutOfMemory)
    lacks-made r g = record { last = made_place f g.last; goes = goes-made g.last g.goes; answers = inr refl }

    -- one that gives it up
    pub gives-up-made : (r : Result (Unit {0}) Error) → GivesUp becomes stamp a p b r → GivesUp becomes stamp a (made_place f p) b r
    gives-up-made r g =
        subst (λ (c : List Cleanup). GoesToAnswer becomes stamp a (record { dialogue = cleaning c; reads = p.reads }) b r) (sym (left-made p.dialogue)) g

    -- what is made of a value is told, or memory lacks
    pub told-or-lacks : (x : T) (r : Result U Error) → TellsOrLacks (f x) r → GoesToAnswer becomes stamp a p b (Ok x) → GoesToAnswer becomes stamp a (made_place f p) b r
    told-or-lacks x r (inl e) g = subst (λ (t : Result U Error). GoesToAnswer becomes stamp a (made_place f p) b t) (sym e) (answers-made (Ok x) g)
    told-or-lacks x r (inr e) g = subst (λ (t : Result U Error). GoesToAnswer becomes stamp a (made_place f p) b t) (sym e) (lacks-made (Ok x) g)
