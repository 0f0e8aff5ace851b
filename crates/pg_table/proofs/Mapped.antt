-- A command whose answer is told in other words does what it did.
use Rattle.std.proofs.Common.{◌≡◌, ◌⊎◌, inl, inr, ℕ, List, [], ◌∷◌, Bool, true, false, if◌then◌else◌, Option, Some, None, option_map, Result, Ok, Err, refl, sym, ap, ◌∙◌, subst}
use Rattle.std.specs.Prelude.{is_some}
use Rattle.pg_spec.specs.RawMessages.{RawMessage}
use Rattle.pg_spec.specs.declared.stamps.Stamp.{Stamp}
use Rattle.pg_desk.specs.declared.event.DeskFault.{DeskFault}
use Rattle.pg_desk.specs.declared.event.Put.TheVariants as putting
use Rattle.pg_desk.specs.declared.event.Take.TheVariants as taking
use Rattle.pg_desk.specs.declared.event.Event.{Event}
use Rattle.pg_desk.specs.declared.event.Event.TheVariants as call
use Rattle.pg_types.specs.declared.error.Error.{Error}
use Rattle.pg_types.specs.declared.error.Error.TheVariants.{OutOfMemory}
use Rattle.pg_query.specs.declared.desk_call.Cleanup.{Cleanup}
use Rattle.pg_query.specs.declared.desk_call.Cleanup.TheVariants.{Release}
use Rattle.pg_query.specs.declared.desk_call.DeskCall.{DeskCall}
use Rattle.pg_query.specs.declared.desk_call.Reply.{Reply}
use Rattle.pg_query.specs.Dialogue.{Dialogue, Answer, Ask, Send, Leave, Read, Put, Finish, Close, HangUp, Call, Hear, feed, feed_one, after_reply, Steps, Walks, cleaning}
use Rattle.pg_query.specs.Leaving.{Holds, Nothing, Request, LetsGo, after_reading}
use Rattle.pg_query.specs.Meaning.{ForMessage, ForRoom, Place, Goes, GoesToAnswer, Pauses, GivesUp, WaitsAt}
use Rattle.pg_query.specs.Reading.{ends}
use Rattle.pg_query.specs.Requests.{asks, reads_unless}
use Rattle.pg_query.specs.Scripts.{IsPut, IsRead, cleanup_of}
use Rattle.pg_spec.specs.Dialogues as course
use Rattle.pg_core.specs.Outcomes.{asked}
use Rattle.pg_table.specs.Mapped.{mapped, mapped_answer, mapped_place}

-- what is asked and answered in the words of a course
abbrev Course_of : Type 0 → Type 0
Course_of A = course.Dialogue DeskCall Reply A

module _ {T U : Type 0} (f : T → U) where
  -- ---- messages that came

  -- one message that isn't read yet
  one-mapped : (m : RawMessage) (d : Dialogue T) → feed_one m (mapped f d) ≡ mapped f (feed_one m d)
  one-mapped m (Answer r) = refl
  one-mapped m (Ask copying part d) = refl
  one-mapped m (Send part refused d) = λ i. Send part (λ e. one-mapped m (refused e) i) (one-mapped m d i)
  one-mapped m (Leave id d) = ap (λ (x : Dialogue U). Leave id x) (one-mapped m d)
  one-mapped m (Read cleanup decides next) = by (decides (m ∷ []))
    where
      by : (b : Bool) → (if b then mapped f (next (m ∷ [])) else Read cleanup (λ ms. decides (m ∷ ms)) (λ ms. mapped f (next (m ∷ ms))))
          ≡ mapped f (if b then next (m ∷ []) else Read cleanup (λ ms. decides (m ∷ ms)) (λ ms. next (m ∷ ms)))
      by true = refl
      by false = refl
  one-mapped m (Put cleanup part d) = ap (λ (x : Dialogue U). Put cleanup part x) (one-mapped m d)
  one-mapped m (Finish part d) = ap (λ (x : Dialogue U). Finish part x) (one-mapped m d)
  one-mapped m (Close part d) = ap (λ (x : Dialogue U). Close part x) (one-mapped m d)
  one-mapped m (HangUp d) = refl
  one-mapped m (Call q refused next) = λ i. Call q (λ e. one-mapped m (refused e) i) (λ r. one-mapped m (next r) i)
  one-mapped m (Hear next) = λ i. Hear (λ r. one-mapped m (next r) i)

  -- and several
  fed-mapped : (ms : List RawMessage) (d : Dialogue T) → feed ms (mapped f d) ≡ mapped f (feed ms d)
  fed-mapped [] d = refl
  fed-mapped (m ∷ ms) d = ap (feed ms) (one-mapped m d) ∙ fed-mapped ms (feed_one m d)

  -- ---- events

  told-mapped : (r : Result Reply DeskFault) (refused : Error → Dialogue T) (next : Reply → Dialogue T) →
      mapped f (after_reply r refused next) ≡ after_reply r (λ e. mapped f (refused e)) (λ x. mapped f (next x))
  told-mapped (Ok x) refused next = refl
  told-mapped (Err fault) refused next = refl

  -- an event leads it as it did
  step-mapped : (stamp : Stamp) (d : Dialogue T) (id : ℕ) (e : Event) (d' : Dialogue T) (id' : ℕ) → Steps stamp d id e d' id' → Steps stamp (mapped f d) id e (mapped f d') id'
  step-mapped stamp (Ask copying part d) id (call.Book stamp' part' copying' (Ok new)) d' id' s = (s.0, s.1, s.2, ap (mapped f) s.3, s.4)
  step-mapped stamp (Ask copying part d) id (call.Book stamp' part' copying' (Err e)) d' id' s = (s.0, s.1, s.2, ap (mapped f) s.3, s.4)
  step-mapped stamp (Ask copying part d) id e d' id' s = absurd s
  step-mapped stamp (Send part refused d) id (call.Book stamp' part' copying (Ok new)) d' id' s = (s.0, s.1, s.2, ap (mapped f) s.3, s.4)
  step-mapped stamp (Send part refused d) id (call.Book stamp' part' copying (Err e)) d' id' s = (s.0, s.1, s.2, ap (mapped f) s.3, s.4)
  step-mapped stamp (Send part refused d) id e d' id' s = absurd s
  step-mapped stamp (Leave sent d) id (call.HangUp which (Ok x)) d' id' s = (s.0, ap (mapped f) s.1, s.2)
  step-mapped stamp (Leave sent d) id (call.HangUp which (Err e)) d' id' s = (s.0, ap (mapped f) s.1, s.2)
  step-mapped stamp (Leave sent d) id e d' id' s = absurd s
  step-mapped stamp (Read cleanup decides next) id (call.Take which (Ok (taking.Batch ms))) d' id' s =
      (s.0, ap (mapped f) s.1 ∙ sym (fed-mapped ms (Read cleanup decides next)), s.2)
  step-mapped stamp (Read cleanup decides next) id (call.Take which (Ok taking.Empty)) d' id' s = (s.0, ap (mapped f) s.1, s.2)
  step-mapped stamp (Read cleanup decides next) id (call.Take which (Ok taking.Over)) d' id' s = (s.0, ap (mapped f) s.1, s.2)
  step-mapped stamp (Read cleanup decides next) id (call.Take which (Ok taking.Gone)) d' id' s = (s.0, ap (mapped f) s.1, s.2)
  step-mapped stamp (Read cleanup decides next) id (call.Take which (Err e)) d' id' s = (s.0, ap (mapped f) s.1, s.2)
  step-mapped stamp (Read cleanup decides next) id e d' id' s = absurd s
  step-mapped stamp (Put cleanup part d) id (call.Put which part' putting.Took) d' id' s = (s.0, s.1, ap (mapped f) s.2, s.3)
  step-mapped stamp (Put cleanup part d) id (call.Put which part' (putting.Full back)) d' id' s = (s.0, s.1, ap (mapped f) s.2, s.3)
  step-mapped stamp (Put cleanup part d) id (call.Put which part' (putting.Gone back)) d' id' s = (s.0, s.1, ap (mapped f) s.2, s.3)
  step-mapped stamp (Put cleanup part d) id (call.Put which part' (putting.OutOfMemory back)) d' id' s = (s.0, s.1, ap (mapped f) s.2, s.3)
  step-mapped stamp (Put cleanup part d) id e d' id' s = absurd s
  step-mapped stamp (Finish part d) id (call.EndCopy which part' putting.Took) d' id' s = (s.0, s.1, ap (mapped f) s.2, s.3)
  step-mapped stamp (Finish part d) id (call.EndCopy which part' (putting.Gone back)) d' id' s = (s.0, s.1, ap (mapped f) s.2, s.3)
  step-mapped stamp (Finish part d) id (call.EndCopy which part' (putting.OutOfMemory back)) d' id' s = (s.0, s.1, ap (mapped f) s.2, s.3)
  step-mapped stamp (Finish part d) id e d' id' s = absurd s
  step-mapped stamp (Close part d) id (call.EndCopy which part' putting.Took) d' id' s = (s.0, s.1, ap (mapped f) s.2, s.3)
  step-mapped stamp (Close part d) id (call.EndCopy which part' (putting.Gone back)) d' id' s = (s.0, s.1, ap (mapped f) s.2, s.3)
  step-mapped stamp (Close part d) id (call.EndCopy which part' (putting.OutOfMemory back)) d' id' s = (s.0, s.1, ap (mapped f) s.2, s.3)
  step-mapped stamp (Close part d) id e d' id' s = absurd s
  step-mapped stamp (HangUp d) id (call.HangUp which (Ok x)) d' id' s = (s.0, ap (mapped f) s.1, s.2)
  step-mapped stamp (HangUp d) id (call.HangUp which (Err e)) d' id' s = (s.0, ap (mapped f) s.1, s.2)
  step-mapped stamp (HangUp d) id e d' id' s = absurd s
  step-mapped stamp (Call q refused next) id e d' id' (r, told, is, same) = (r, told, ap (mapped f) is ∙ told-mapped r refused next, same)
  step-mapped stamp (Answer r) id e d' id' s = absurd s
  step-mapped stamp (Hear next) id e d' id' s = absurd s

  -- and so do several
  walk-mapped : (stamp : Stamp) (d : Dialogue T) (id : ℕ) (es : List Event) (d' : Dialogue T) (id' : ℕ) → Walks stamp d id es d' id' → Walks stamp (mapped f d) id es (mapped f d') id'
  walk-mapped stamp d id [] d' id' w = (ap (mapped f) w.0, w.1)
  walk-mapped stamp d id (e ∷ es) d' id' (mid, n, s, w) = (mapped f mid, n, step-mapped stamp d id e mid n s, walk-mapped stamp mid n es d' id' w)

  -- ---- polls

  read-mapped : (d : Dialogue T) → IsRead d → IsRead (mapped f d)
  read-mapped (Read cleanup decides next) h = tt
  read-mapped (Answer r) h = absurd h
  read-mapped (Ask copying part d) h = absurd h
  read-mapped (Send part refused d) h = absurd h
  read-mapped (Leave id d) h = absurd h
  read-mapped (Put cleanup part d) h = absurd h
  read-mapped (Finish part d) h = absurd h
  read-mapped (Close part d) h = absurd h
  read-mapped (HangUp d) h = absurd h
  read-mapped (Call q refused next) h = absurd h
  read-mapped (Hear next) h = absurd h

  put-mapped : (d : Dialogue T) → IsPut d → IsPut (mapped f d)
  put-mapped (Put cleanup part d) h = tt
  put-mapped _ h = absurd h

  waits-mapped : (q : Place T) (es : List Event) → WaitsAt q es → WaitsAt (mapped_place f q) es
  waits-mapped q es (ForMessage reads none) = ForMessage (read-mapped q.dialogue reads) none
  waits-mapped q es (ForRoom puts part full) = ForRoom (put-mapped q.dialogue puts) part full

  -- what is left to do is the same
  left-mapped : (d : Dialogue T) → cleanup_of (mapped f d) ≡ cleanup_of d
  left-mapped (Read cleanup decides next) = refl
  left-mapped (Put cleanup part d) = refl
  left-mapped (Answer r) = refl
  left-mapped (Ask copying part d) = refl
  left-mapped (Send part refused d) = refl
  left-mapped (Leave id d) = refl
  left-mapped (Finish part d) = refl
  left-mapped (Close part d) = refl
  left-mapped (HangUp d) = refl
  left-mapped (Call q refused next) = refl
  left-mapped (Hear next) = refl

  module _ {D : Type 0} (becomes : D → List Event → D → Type 0) (stamp : Stamp) (a : D) (p : Place T) (b : D) where
    goes-mapped : (q : Place T) → Goes becomes stamp a p b q → Goes becomes stamp a (mapped_place f p) b (mapped_place f q)
    goes-mapped q g = record { events = g.events; became = g.became; walked = walk-mapped stamp p.dialogue p.reads g.events q.dialogue q.reads g.walked }

    -- a poll that answered
    pub answers-mapped : (r : Result T Error) → GoesToAnswer becomes stamp a p b r → GoesToAnswer becomes stamp a (mapped_place f p) b (mapped_answer f r)
    answers-mapped r g = record { last = mapped_place f g.last; goes = goes-mapped g.last g.goes; answers = by g.answers }
      where
        by : (g.last.dialogue ≡ Answer r) ⊎ (r ≡ Err OutOfMemory) → (mapped f g.last.dialogue ≡ Answer (mapped_answer f r)) ⊎ (mapped_answer f r ≡ Err OutOfMemory)
        by (inl e) = inl (ap (mapped f) e)
        by (inr e) = inr (ap (mapped_answer f) e)

    -- one that waits
    pub pauses-mapped : (q : Place T) → Pauses becomes stamp a p b q → Pauses becomes stamp a (mapped_place f p) b (mapped_place f q)
    unfolding goes-mapped
    pauses-mapped q h = record { goes = goes-mapped q h.goes; waits = waits-mapped q h.goes.events h.waits }

    -- one that gives it up
    pub gives-up-mapped : (r : Result (Unit {0}) Error) → GivesUp becomes stamp a p b r → GivesUp becomes stamp a (mapped_place f p) b r
    gives-up-mapped r g =
        subst (λ (c : List Cleanup). GoesToAnswer becomes stamp a (record { dialogue = cleaning c; reads = p.reads }) b r) (sym (left-mapped p.dialogue)) g

  -- it lets its requests go as it did
  pub lets-mapped : (h : Holds) (d : Dialogue T) → LetsGo h d → LetsGo h (mapped f d)
  lets-mapped h (Answer r) k = k
  lets-mapped h (Ask copying part d) k = (k.0, lets-mapped Request d k.1)
  lets-mapped h (Send part refused d) k = (λ e. lets-mapped h (refused e) (k.0 e), lets-mapped h d k.1)
  lets-mapped h (Leave id d) k = lets-mapped h d k
  lets-mapped h (Read cleanup decides next) k = λ ms e. lets-mapped (after_reading h ms) (next ms) (k ms e)
  lets-mapped h (Put cleanup part d) k = lets-mapped h d k
  lets-mapped h (Finish part d) k = lets-mapped h d k
  lets-mapped h (Close part d) k = lets-mapped h d k
  lets-mapped h (HangUp d) k = lets-mapped Nothing d k
  lets-mapped h (Call q refused next) k = (λ e. lets-mapped h (refused e) (k.0 e), λ r fit. lets-mapped h (next r) (k.1 r fit))
  lets-mapped h (Hear next) k = λ r. lets-mapped h (next r) (k r)

  -- ---- a command of one request

  -- what a reading tells, in these words
  abbrev pub reading_in : (List RawMessage → Option (Result T Error)) → List RawMessage → Option (Result U Error)
  reading_in reading ms = option_map (mapped_answer f) (reading ms)

  pub decides-mapped : (o : Option (Result T Error)) → is_some o ≡ is_some (option_map (mapped_answer f) o)
  decides-mapped None = refl
  decides-mapped (Some r) = refl

  ends-mapped : (stops : Bool) (o : Option (Result T Error)) → mapped f (ends stops o) ≡ ends stops (option_map (mapped_answer f) o)
  ends-mapped true (Some (Ok x)) = refl
  ends-mapped false (Some (Ok x)) = refl
  ends-mapped true (Some (Err e)) = refl
  ends-mapped false (Some (Err e)) = refl
  ends-mapped true None = refl
  ends-mapped false None = refl

  unless-mapped : (stops : Bool) (reading : List RawMessage → Option (Result T Error)) (o : Option (Result T Error)) →
      mapped f (reads_unless stops reading o) ≡ reads_unless stops (reading_in reading) (option_map (mapped_answer f) o)
  unless-mapped stops reading (Some r) = refl
  unless-mapped stops reading None = λ i. Read (Release ∷ []) (λ ms. decides-mapped (reading ms) i) (λ ms. ends-mapped stops (reading ms) i)

  -- it is the command of one request that reads in these words
  pub asks-mapped : (stops : Bool) (frame : List ℕ) (reading : List RawMessage → Option (Result T Error)) → mapped f (asks stops frame reading) ≡ asks stops frame (reading_in reading)
  asks-mapped stops frame reading = ap (λ (d : Dialogue U). Ask false frame d) (unless-mapped stops reading (reading []))

  -- ---- in the words of a course

  -- what comes behind its answer comes behind the answer in these words
  pub asked-mapped : {A : Type 0} (k : Result U Error → Course_of A) (d : Dialogue T) → course.behind (asked (mapped f d)) k ≡ course.behind (asked d) (λ r. k (mapped_answer f r))
  asked-mapped k (Answer r) = refl
  asked-mapped k (Ask copying part d) = λ i. course.Asks copying part (asked-mapped k d i)
  asked-mapped k (Send part refused d) = λ i. course.Sends part (asked-mapped k d i)
  asked-mapped k (Leave id d) = asked-mapped k d
  asked-mapped k (Read cleanup decides next) = λ i. course.Reads decides (λ ms. asked-mapped k (next ms) i)
  asked-mapped k (Put cleanup part d) = λ i. course.Puts part (asked-mapped k d i)
  asked-mapped k (Finish part d) = λ i. course.Closes part (asked-mapped k d i)
  asked-mapped k (Close part d) = λ i. course.Closes part (asked-mapped k d i)
  asked-mapped k (HangUp d) = asked-mapped k d
  asked-mapped k (Call q refused next) = λ i. course.Calls q (λ r. asked-mapped k (next r) i)
  asked-mapped k (Hear next) = refl
