-- What a message tells, and what that makes of the dialogue of one who collects the items.
use Rattle.std.proofs.Common.{◌≡◌, ℕ, List, [], ◌∷◌, ◌++◌, false, if◌then◌else◌, Option, Some, None, is_some, Result, Ok, Err, refl, sym, ◌∙◌, ap, subst}
use Rattle.pg_spec.specs.Faults as spec
use Rattle.pg_spec.specs.Messages.{message_of}
use Rattle.pg_spec.specs.RawMessages.{RawMessage}
use Rattle.pg_wire.specs.Backend.{Nexts, RefusedBy, RefusesFirst, TakesFirst}
use Rattle.pg_wire.specs.Faults.{wire_fault}
use Rattle.pg_wire.specs.Messages.{message_view}
use Rattle.pg_wire.specs.declared.message.Message.{Message}
use Rattle.pg_types.specs.declared.faults.WireFault.{WireFault}
use Rattle.pg_types.specs.declared.error.Error.{Error}
use Rattle.pg_query.specs.Dialogue.{Dialogue, Read, HangUp, feed, feed_one}
use Rattle.pg_query.specs.Meaning.{Place}
use Rattle.pg_query.specs.Reading.{ends, reads}
use Rattle.pg_query.specs.declared.desk_call.Cleanup.TheVariants.{Release}
use Rattle.pg_query.proofs.Walking.{feed-answer, feed-hang-up}
use Rattle.pg_core.specs.Behind.{behind}
use Rattle.pg_execute.specs.Executes.{closed_by, posts, posts_before}
use Rattle.pg_streams.specs.Collecting.{IsRefused, Keeps, Reads, collects, family_behind, family_of, place_behind, stands, told_end, untold}
use Rattle.pg_streams.specs.Families.{Family}
use Rattle.pg_streams.specs.Hearing.{Heard, first_told, left_behind, told_or}
use Rattle.pg_streams.specs.Telling.{told_behind, GivesOn}
use Rattle.pg_streams.specs.declared.giving.Told.{Told}
use Rattle.pg_streams.specs.declared.giving.Told.TheVariants.{Item, Ends, Fails}
use Rattle.pg_streams.specs.declared.items.Items.{Items}

-- ---- what is told behind what came before

pub told-twice : {W : Type 0} (f g : W → W) (o : Option (Result W Error)) → told_behind f (told_behind g o) ≡ told_behind (λ w. f (g w)) o
told-twice f g None = refl
told-twice f g (Some (Ok w)) = refl
told-twice f g (Some (Err e)) = refl

pub told-whole : {W : Type 0} (o : Option (Result W Error)) → told_behind (λ whole. whole) o ≡ o
told-whole None = refl
told-whole (Some (Ok w)) = refl
told-whole (Some (Err e)) = refl

-- ---- a message of one who collects

fed : {W : Type 0} (close : Option (List ℕ)) (R Q : List RawMessage → Option (Result W Error)) (m : RawMessage) → R (m ∷ []) ≡ None → ((ms : List RawMessage) → R (m ∷ ms) ≡ Q ms) →
    feed_one m (collects close R) ≡ collects close Q
fed {W} close R Q m h g =
    ap (λ (o : Option (Result W Error)). if is_some o then told_end close o else Read (Release ∷ posts close) (λ ms. is_some (R (m ∷ ms))) (λ ms. told_end close (R (m ∷ ms)))) h
    ∙ (λ i. Read (Release ∷ posts close) (λ ms. is_some (g ms i)) (λ ms. told_end close (g ms i)))

fed-last : {W : Type 0} (close : Option (List ℕ)) (R : List RawMessage → Option (Result W Error)) (m : RawMessage) (r : Result W Error) → R (m ∷ []) ≡ Some r → feed_one m (collects close R) ≡ told_end close (Some r)
fed-last {W} close R m r h = ap (λ (o : Option (Result W Error)). if is_some o then told_end close o else Read (Release ∷ posts close) (λ ms. is_some (R (m ∷ ms))) (λ ms. told_end close (R (m ∷ ms)))) h

-- behind it messages count for nothing
feed-posted : {W : Type 0} (ms : List RawMessage) (close : Option (List ℕ)) (r : Result W Error) → feed ms (posts_before close r) ≡ posts_before close r
feed-posted ms None r = feed-answer ms r
feed-posted [] (Some part) r = refl
feed-posted (m ∷ ms) (Some part) r = feed-posted ms (Some part) r

-- one who has had nothing yet reads to the answer, and closes the statement then, if it is to be closed
pub collects-whole : {W : Type 0} (close : Option (List ℕ)) (R : List RawMessage → Option (Result W Error)) → collects close (λ ms. told_behind (λ whole. whole) (R ms)) ≡ closed_by close (reads false R)
collects-whole {W} close R = λ i. Read (Release ∷ posts close) (λ ms. is_some (told-whole (R ms) i)) (λ ms. ends-whole (R ms) i)
  where
    ends-whole : (o : Option (Result W Error)) → told_end close (told_behind (λ whole. whole) o) ≡ behind (posts close) (ends false o) (posts_before close)
    ends-whole None = refl
    ends-whole (Some (Ok w)) = refl
    ends-whole (Some (Err e)) = refl

-- ---- the same with the messages that came behind it

module _ {G I W : Type 0} (tells : G → List RawMessage → Option (Result W Error)) (with_item : I → W → W) (at_end : G → W) (old new : Items G) (raw : RawMessage) (rest : List RawMessage) (front : old.batch ≡ raw ∷ rest)
    (same_close : new.close ≡ old.close) (same_id : new.id ≡ old.id) where
  -- a place by another name of its dialogue
  placed : (d c : Dialogue W) → d ≡ c → (p : Place W) → p ≡ record { dialogue = d; reads = new.id } → p ≡ record { dialogue = c; reads = old.id }
  placed d c e p is =
      is ∙ ap (λ (x : Dialogue W). let q : Place W = record { dialogue = x; reads = new.id } in q) e
      ∙ ap (λ (n : ℕ). let q : Place W = record { dialogue = c; reads = n } in q) same_id

  -- what is left where the message was read
  came : (before : W → W) (d : Dialogue W) → feed_one raw (collects old.close (λ ms. told_behind before (tells old.giving ms))) ≡ d → feed rest d ≡ (place_behind tells old before).dialogue
  came before d e =
      sym (ap (λ (x : Dialogue W). feed rest x) e)
      ∙ sym (ap (λ (l : List RawMessage). feed l (collects old.close (λ ms. told_behind before (tells old.giving ms)))) front)

  -- it tells nothing
  pub nothing-told : new.batch ≡ rest → GivesOn tells with_item at_end old.giving raw None new.giving → (before : W → W) → place_behind tells new before ≡ place_behind tells old before
  nothing-told left h before =
      let Q : List RawMessage → Option (Result W Error) = λ ms. told_behind before (tells new.giving ms) in
      let d : feed_one raw (collects old.close (λ ms. told_behind before (tells old.giving ms))) ≡ collects old.close Q =
      fed old.close (λ ms. told_behind before (tells old.giving ms)) Q raw (ap (told_behind before) h.0) (λ ms. ap (told_behind before) (h.1 ms)) in
      placed (feed new.batch (collects new.close Q)) (place_behind tells old before).dialogue
      (ap (λ (l : List RawMessage). feed l (collects new.close Q)) left ∙ ap (λ (o : Option (List ℕ)). feed rest (collects o Q)) same_close ∙ came before (collects old.close Q) d)
      (place_behind tells new before) refl

  -- it tells an item
  pub item-told : new.batch ≡ rest → (i : I) → GivesOn tells with_item at_end old.giving raw (Some (Item i)) new.giving → (before : W → W) → stands tells with_item at_end (Item i) new before ≡ place_behind tells old before
  item-told left i h before =
      let Q : List RawMessage → Option (Result W Error) = λ ms. told_behind (λ whole. before (with_item i whole)) (tells new.giving ms) in
      let d : feed_one raw (collects old.close (λ ms. told_behind before (tells old.giving ms))) ≡ collects old.close Q =
      fed old.close (λ ms. told_behind before (tells old.giving ms)) Q raw (ap (told_behind before) h.0) (λ ms. ap (told_behind before) (h.1 ms) ∙ told-twice before (with_item i) (tells new.giving ms)) in
      placed (feed new.batch (collects new.close Q)) (place_behind tells old before).dialogue
      (ap (λ (l : List RawMessage). feed l (collects new.close Q)) left ∙ ap (λ (o : Option (List ℕ)). feed rest (collects o Q)) same_close ∙ came before (collects old.close Q) d)
      (stands tells with_item at_end (Item i) new before) refl

  -- it tells the end
  pub end-told : GivesOn tells with_item at_end old.giving raw (Some Ends) new.giving → (before : W → W) → stands tells with_item at_end Ends new before ≡ place_behind tells old before
  end-told h before =
      let r : Result W Error = Ok (before (at_end new.giving)) in
      let d : feed_one raw (collects old.close (λ ms. told_behind before (tells old.giving ms))) ≡ posts_before old.close r =
      fed-last old.close (λ ms. told_behind before (tells old.giving ms)) raw r (ap (told_behind before) h) in
      placed (posts_before new.close r) (place_behind tells old before).dialogue
      (ap (λ (o : Option (List ℕ)). posts_before o r) same_close ∙ sym (feed-posted rest old.close r) ∙ came before (posts_before old.close r) d)
      (stands tells with_item at_end Ends new before) refl

  -- it tells an error
  pub error-told : (e : Error) → tells old.giving (raw ∷ []) ≡ Some (Err e) → (before : W → W) → stands tells with_item at_end (Fails e) new before ≡ place_behind tells old before
  error-told e h before =
      let r : Result W Error = Err e in
      let d : feed_one raw (collects old.close (λ ms. told_behind before (tells old.giving ms))) ≡ HangUp (posts_before old.close r) =
      fed-last old.close (λ ms. told_behind before (tells old.giving ms)) raw r (ap (told_behind before) h) in
      placed (HangUp (posts_before new.close r)) (place_behind tells old before).dialogue
      (ap (λ (o : Option (List ℕ)). HangUp (posts_before o r)) same_close ∙ sym (feed-hang-up rest (posts_before old.close r)) ∙ came before (HangUp (posts_before old.close r)) d)
      (stands tells with_item at_end (Fails e) new before) refl

  -- what it tells
  pub something-told : new.batch ≡ rest → (told : Told I) → GivesOn tells with_item at_end old.giving raw (Some told) new.giving → (before : W → W) → stands tells with_item at_end told new before ≡ place_behind tells old before
  something-told left (Item i) h before = item-told left i h before
  something-told left Ends h before = end-told h before
  something-told left (Fails e) h before = error-told e h before

-- ---- a message that was taken, or refused

-- where it isn't there
pub none-of : {A : Type 0} (o : Option A) → ((x : A) → o ≡ Some x → ⊥) → o ≡ None
none-of None h = refl
none-of (Some x) h = absurd (h x refl)

-- families are the same where their places are and what is told first is
family-same : {P T G I : Type 0} (p q : Family P T G I) → ((plan : P) → p.place plan ≡ q.place plan) → ((more : List RawMessage) → p.first more ≡ q.first more) → p ≡ q
family-same p q h k = λ i. record { place = λ plan. h plan i; first = λ more. k more i }

module _ {G I : Type 0} (hears : G → RawMessage → Heard G I) (g : G) (m : RawMessage) (ms : List RawMessage) (next : G) where
  -- the first message tells something
  first-some : (told : Told I) → hears g m ≡ record { told = Some told; giving = next } → first_told hears g (m ∷ ms) ≡ record { told = Some told; giving = next; left = left_behind told ms }
  first-some told is = ap (λ (h : Heard G I). told_or h.told h.giving ms (first_told hears h.giving ms)) is

  -- or nothing
  first-none : hears g m ≡ record { told = None; giving = next } → first_told hears g (m ∷ ms) ≡ first_told hears next ms
  first-none is = ap (λ (h : Heard G I). told_or h.told h.giving ms (first_told hears h.giving ms)) is

module _ {G I W K : Type 0} (tells : G → List RawMessage → Option (Result W Error)) (hears : G → RawMessage → Heard G I) (with_item : I → W → W) (at_end : G → W) (what : G → K) (begin s : Items G) (left : List RawMessage)
    (reads : family_of tells hears s ≡ family_of tells hears begin) where
  -- what was read, with this left
  abbrev with-left : G → Items G
  with-left giving = record { giving = giving; id = s.id; batch = left; close = s.close; over = s.over }

  -- the messages that came, by their first one
  untold-from : (raw : RawMessage) (rest more : List RawMessage) → s.batch ≡ raw ∷ rest → untold hears s more ≡ first_told hears s.giving (raw ∷ (rest ++ more))
  untold-from raw rest more front = ap (λ (l : List RawMessage). first_told hears s.giving (l ++ more)) front

  -- none is left
  pub all-read : (o : Option Message) → o ≡ None → Nexts s.batch left (Ok o) → Reads tells hears with_item at_end begin (with-left s.giving) (Ok None)
  all-read o is h =
      let none : (s.batch ≡ []) × (left ≡ []) = subst (λ (x : Option Message). Nexts s.batch left (Ok x)) is h in (
        ap (λ (l : List RawMessage). family_of tells hears (record { giving = s.giving; id = s.id; batch = l; close = s.close; over = s.over })) (none.1 ∙ sym none.0) ∙ reads,
        none.1,
      )

  -- the message that was taken
  taken : (o : Option Message) (m : Message) → o ≡ Some m → Nexts s.batch left (Ok o) → TakesFirst s.batch left m
  taken o m is h = subst (λ (x : Option Message). Nexts s.batch left (Ok x)) is h

  -- it told something
  pub one-told : (o : Option Message) (m : Message) → o ≡ Some m → Nexts s.batch left (Ok o) → (giving : G) (t : Option (Told I)) (told : Told I) → t ≡ Some told →
      ((raw : RawMessage) → message_of raw ≡ Ok (message_view m) → GivesOn tells with_item at_end s.giving raw t giving) →
      ((raw : RawMessage) → message_of raw ≡ Ok (message_view m) → hears s.giving raw ≡ record { told = t; giving = giving }) → family_behind tells with_item at_end told (with-left giving) ≡ family_of tells hears begin
  one-told o m is h giving t told told-is gives heard =
      let k = taken o m is h in
      family-same (family_behind tells with_item at_end told (with-left giving)) (family_of tells hears s)
      (something-told tells with_item at_end s (with-left giving) k.raw left k.front refl refl refl told
      (subst (λ (x : Option (Told I)). GivesOn tells with_item at_end s.giving k.raw x giving) told-is (gives k.raw k.means)))
      (λ more. sym (untold-from k.raw left more k.front
      ∙ first-some hears s.giving k.raw (left ++ more) giving told (subst (λ (x : Option (Told I)). hears s.giving k.raw ≡ record { told = x; giving = giving }) told-is (heard k.raw k.means))))
      ∙ reads

  -- it told nothing
  pub none-told : (o : Option Message) (m : Message) → o ≡ Some m → Nexts s.batch left (Ok o) → (giving : G) (t : Option (Told I)) → t ≡ None →
      ((raw : RawMessage) → message_of raw ≡ Ok (message_view m) → GivesOn tells with_item at_end s.giving raw t giving) →
      ((raw : RawMessage) → message_of raw ≡ Ok (message_view m) → hears s.giving raw ≡ record { told = t; giving = giving }) → family_of tells hears (with-left giving) ≡ family_of tells hears begin
  none-told o m is h giving t told-is gives heard =
      let k = taken o m is h in
      family-same (family_of tells hears (with-left giving)) (family_of tells hears s)
      (nothing-told tells with_item at_end s (with-left giving) k.raw left k.front refl refl refl
      (subst (λ (x : Option (Told I)). GivesOn tells with_item at_end s.giving k.raw x giving) told-is (gives k.raw k.means)))
      (λ more. sym (untold-from k.raw left more k.front
      ∙ first-none hears s.giving k.raw (left ++ more) giving (subst (λ (x : Option (Told I)). hears s.giving k.raw ≡ record { told = x; giving = giving }) told-is (heard k.raw k.means))))
      ∙ reads

  -- it is malformed
  pub fault-told : ((g : G) (raw : RawMessage) (fault : spec.WireFault) → message_of raw ≡ Err fault → tells g (raw ∷ []) ≡ Some (Err (spec.Parse (spec.Wire fault)))) →
      ((g : G) (raw : RawMessage) (fault : spec.WireFault) → message_of raw ≡ Err fault → hears g raw ≡ record { told = Some (Fails (spec.Parse (spec.Wire fault))); giving = g }) →
      (fault : WireFault) (told : Told I) → IsRefused fault (Ok told) → RefusedBy s.batch left (wire_fault fault) → family_behind tells with_item at_end told (with-left s.giving) ≡ family_of tells hears begin
  fault-told malformed refuses fault told is h =
      let k : RefusesFirst s.batch left is.0 = subst (λ (x : Option spec.WireFault). RefusedBy s.batch left x) is.1 h in
      let e = spec.Parse (spec.Wire is.0) in
      subst (λ (t : Told I). family_behind tells with_item at_end t (with-left s.giving) ≡ family_of tells hears s) (sym is.2)
      (family-same (family_behind tells with_item at_end (Fails e) (with-left s.giving)) (family_of tells hears s)
      (error-told tells with_item at_end s (with-left s.giving) k.raw k.rest k.front refl refl e (malformed s.giving k.raw is.0 k.means))
      (λ more. sym (untold-from k.raw k.rest more k.front ∙ first-some hears s.giving k.raw (k.rest ++ more) s.giving (Fails e) (refuses s.giving k.raw is.0 k.means))))
      ∙ reads

-- ---- what stays

pub keeps-read : {G K : Type 0} (what : G → K) (begin s : Items G) (left : List RawMessage) (giving : G) → Keeps what begin s → what giving ≡ what s.giving →
    Keeps what begin (record { giving = giving; id = s.id; batch = left; close = s.close; over = s.over })
keeps-read what begin s left giving h k = record { known = k ∙ h.known; id = h.id; close = h.close; over = h.over }

pub keeps-joined : {G K : Type 0} (what : G → K) (begin s t : Items G) → Keeps what begin s → Keeps what s t → Keeps what begin t
keeps-joined what begin s t h k = record { known = k.known ∙ h.known; id = k.id ∙ h.id; close = k.close ∙ h.close; over = k.over ∙ h.over }

pub keeps-refilled : {G K : Type 0} (what : G → K) (begin s t : Items G) (batch : List RawMessage) → Keeps what begin s → t ≡ record s { batch = batch } → Keeps what begin t
keeps-refilled what begin s t batch h is = subst (λ (x : Items _). Keeps what begin x) (sym is) (record { known = h.known; id = h.id; close = h.close; over = h.over })
