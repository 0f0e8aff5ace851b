-- Where a request leads whose reply is given item by item.
use Rattle.std.proofs.Common.{◌≡◌, ◌⊎◌, ℕ, false, List, [], ◌∷◌, Option, Some, None, is_some, Result, Ok, Err, refl, sym, ◌∙◌, ap, subst, inl, inr}
use Rattle.futures.specs.declared.task.Poll.{Poll}
use Rattle.futures.specs.declared.task.Poll.TheVariants.{Ready, Pending}
use Rattle.pg_spec.specs.Faults as spec
use Rattle.pg_spec.specs.Frames.{query_frame}
use Rattle.pg_spec.specs.RawMessages.{RawMessage}
use Rattle.pg_spec.specs.declared.stamps.Stamp.{Stamp}
use Rattle.pg_desk.specs.declared.event.DeskFault.{DeskFault}
use Rattle.pg_desk.specs.declared.event.Event.{Event}
use Rattle.pg_desk.specs.declared.event.Event.TheVariants as call
use Rattle.pg_types.specs.declared.error.Error.{Error}
use Rattle.pg_types.specs.declared.error.Error.TheVariants.{OutOfMemory}
use Rattle.pg_query.specs.Dialogue.{Dialogue, Answer, Ask, Read, Walks, cleaning}
use Rattle.pg_query.specs.Faults.{of_fault}
use Rattle.pg_query.specs.Meaning.{GoesToAnswer, MatchPoll}
use Rattle.pg_query.specs.Reading.{ends, reads}
use Rattle.pg_query.specs.Scripts.{cleanup_of}
use Rattle.pg_query.specs.declared.desk_call.Cleanup.TheVariants.{Release}
use Rattle.pg_core.specs.Behind.{behind}
use Rattle.pg_core.specs.Composing.{asks_for}
use Rattle.pg_execute.specs.Executes.{closed_by, posts, posts_before}
use Rattle.pg_streams.specs.Collecting.{Awaits, Gives, NoItemFirst, family_of, place_of, untold}
use Rattle.pg_streams.specs.Families.{AnswersFor, Family, GoesFor, PausesFor}
use Rattle.pg_streams.specs.Handing.{HandsOn, alone}
use Rattle.pg_streams.specs.Hearing.{First, Heard, IsNoItem, first_told, told_only}
use Rattle.pg_streams.specs.SimpleStates.{asks_text}
use Rattle.pg_streams.specs.SimpleStreams.{IsFrameOf, asks_by, simple_query_raw}
use Rattle.pg_streams.specs.declared.items.Items.{Items}
use Rattle.pg_streams.proofs.Going.{Joins, answers-joined, brings-only, goes-joined, goes-nowhere, pauses-joined}
use Rattle.pg_streams.proofs.Telling.{collects-whole}

-- ---- before a request is booked

-- want of memory may be the answer at any place
pub lacks : {D P T G I : Type 0} (becomes : D → List Event → D → Type 0) → ((a : D) → becomes a [] a) → (stamp : Stamp) (a : D) (p : Family P T G I) (IsFirst : First G I → Type 0) → AnswersFor becomes stamp a p a (λ plan. Err OutOfMemory) IsFirst
lacks becomes stays stamp a p IsFirst = record { last = p; goes = goes-nowhere becomes stays stamp a p p refl; answers = λ plan. inr refl; found = inr (λ plan. refl) }

-- it is answered at once
pub answers-at-once : {D P T G I : Type 0} (becomes : D → List Event → D → Type 0) → ((a : D) → becomes a [] a) → (stamp : Stamp) (a : D) (p : Family P T G I) (r : P → Result T Error) (IsFirst : First G I → Type 0) →
    ((plan : P) → (p.place plan).dialogue ≡ Answer (r plan)) → IsFirst (p.first []) → AnswersFor becomes stamp a p a r IsFirst
answers-at-once becomes stays stamp a p r IsFirst is found = record { last = p; goes = goes-nowhere becomes stays stamp a p p refl; answers = λ plan. inl (is plan); found = inl found }

-- ---- a request is booked

-- what is told first of its reply
abbrev pub only-of : {G I : Type 0} → (G → RawMessage → Heard G I) → G → List RawMessage → First (Unit {0}) I
only-of hears giving more = told_only (first_told hears giving more)

-- the same where items are read
abbrev pub only-untold : {G I : Type 0} → (G → RawMessage → Heard G I) → Items G → List RawMessage → First (Unit {0}) I
only-untold hears items more = told_only (untold hears items more)

pub asks-opened : {D G I W : Type 0} (becomes : D → List Event → D → Type 0) (stamp : Stamp) (a b : D) (d : Dialogue W) (n : ℕ) (frame : List ℕ) (close : Option (List ℕ)) (tells : G → List RawMessage → Option (Result W Error)) (hears : G → RawMessage → Heard G I) (giving : G) (id : ℕ) (items : Items G) →
    d ≡ Ask false frame (closed_by close (reads false (tells giving))) → becomes a (call.Book stamp frame false (Ok id) ∷ []) b → items ≡ record { giving = giving; id = id; batch = []; close = close; over = false } →
    GoesFor becomes stamp a (alone (record { dialogue = d; reads = n }) (only-of hears giving)) b (alone (place_of tells items) (only-untold hears items))
asks-opened {W = W} becomes stamp a b d n frame close tells hears giving id items is ev same =
    subst (λ (x : Items _). GoesFor becomes stamp a (alone (record { dialogue = d; reads = n }) (only-of hears giving)) b (alone (place_of tells x) (only-untold hears x))) (sym same) (record {
      events = call.Book stamp frame false (Ok id) ∷ [];
      became = ev;
      walked = λ plan. subst (λ (x : Dialogue W). Walks stamp x n (call.Book stamp frame false (Ok id) ∷ []) (place_of tells (record { giving = giving; id = id; batch = []; close = close; over = false })).dialogue id) (sym is)
          (closed_by close (reads false (tells giving)), id, (refl, refl, refl, refl, refl), (collects-whole close (tells giving), refl));
      brought = refl;
    })

-- or refused
pub asks-refused : {D W G I : Type 0} (becomes : D → List Event → D → Type 0) (stamp : Stamp) (a b : D) (d next : Dialogue W) (n : ℕ) (frame : List ℕ) (fault : DeskFault) (e : Error) (first : List RawMessage → First G I) (IsFirst : First G I → Type 0) →
    d ≡ Ask false frame next → becomes a (call.Book stamp frame false (Err fault) ∷ []) b → e ≡ of_fault fault → IsFirst (first []) → AnswersFor becomes stamp a (alone (record { dialogue = d; reads = n }) first) b (λ plan. Err e) IsFirst
asks-refused {W = W} becomes stamp a b d next n frame fault e first IsFirst is ev same found = record {
  last = alone (record { dialogue = Answer (Err (of_fault fault)); reads = n }) first;
  goes = record {
    events = call.Book stamp frame false (Err fault) ∷ [];
    became = ev;
    walked = λ plan. subst (λ (x : Dialogue W). Walks stamp x n (call.Book stamp frame false (Err fault) ∷ []) (Answer (Err (of_fault fault))) n) (sym is)
        (Answer (Err (of_fault fault)), n, (refl, refl, refl, refl, refl), (refl, refl));
    brought = refl;
  };
  answers = λ plan. inl (ap (λ (x : Error). let y : Dialogue W = Answer (Err x) in y) (sym same));
  found = inl found;
}

-- where nothing is closed behind it
pub none-closed : {W : Type 0} (request : Result (List ℕ) Error) (R : List RawMessage → Option (Result W Error)) → closed_by None (asks_for request (reads false R)) ≡ asks_for request (reads false R)
none-closed {W} (Ok frame) R = λ i. Ask false frame (Read (Release ∷ []) (λ ms. is_some (R ms)) (λ ms. ends-so (R ms) i))
  where
    ends-so : (o : Option (Result W Error)) → behind (posts None) (ends false o) (posts_before None) ≡ ends false o
    ends-so None = refl
    ends-so (Some (Ok w)) = refl
    ends-so (Some (Err e)) = refl
none-closed (Err e) R = refl

-- ---- a poll, for one who has had nothing yet

-- what is told first of a family, and where one stands who has had nothing
abbrev pub whole-of : {W G I : Type 0} → Family (W → W) W G I → Family (Unit {0}) W (Unit {0}) I
whole-of p = alone (p.place (λ whole. whole)) (λ more. told_only (p.first more))

pub whole-goes : {D W G I : Type 0} {becomes : D → List Event → D → Type 0} {stamp : Stamp} {a b : D} (p q : Family (W → W) W G I) → GoesFor becomes stamp a p b q → GoesFor becomes stamp a (whole-of p) b (whole-of q)
whole-goes p q h = record { events = h.events; became = h.became; walked = λ plan. h.walked (λ whole. whole); brought = brings-only p.first q.first h.events h.brought }

pub pauses-whole : {D G I W : Type 0} {becomes : D → List Event → D → Type 0} (tells : G → List RawMessage → Option (Result W Error)) (hears : G → RawMessage → Heard G I) {stamp : Stamp} {a b : D} (old new : Items G) →
    Awaits becomes tells hears stamp a (family_of tells hears old) b new → PausesFor becomes stamp a (whole-of (family_of tells hears old)) b (whole-of (family_of tells hears new))
pauses-whole tells hears old new h = record {
  goes = record {
    events = h.pauses.goes.events;
    became = h.pauses.goes.became;
    walked = λ plan. h.pauses.goes.walked (λ whole. whole);
    brought = brings-only (untold hears old) (untold hears new) h.pauses.goes.events h.pauses.goes.brought;
  };
  waits = λ plan. h.pauses.waits (λ whole. whole);
}

-- no item is told first, for one alone
first-alone : {G I A T : Type 0} (new : Items G) (first : First G I) (r : A → Result T Error) (x : A) → NoItemFirst new first ⊎ ((plan : A) → r plan ≡ Err OutOfMemory) → IsNoItem first.told ⊎ ((plan : Unit {0}) → r x ≡ Err OutOfMemory)
first-alone new first r x (inl h) = inl h.0
first-alone new first r x (inr h) = inr (λ plan. h x)

pub errs-whole : {D W G I : Type 0} {becomes : D → List Event → D → Type 0} {stamp : Stamp} {a b : D} (p : Family (W → W) W G I) (e : Error) (new : Items G) → AnswersFor becomes stamp a p b (λ before. Err e) (NoItemFirst new) →
    AnswersFor becomes stamp a (whole-of p) b (λ plan. Err e) (λ first. IsNoItem first.told)
errs-whole {W = W} p e new h = record {
  last = whole-of h.last;
  goes = whole-goes p h.last h.goes;
  answers = λ plan. h.answers (λ whole. whole);
  found = first-alone new (h.last.first []) (λ before. let r : Result W Error = Err e in r) (λ whole. whole) h.found;
}

-- where memory lacks behind it
behind-lacks : {D G I W : Type 0} {becomes : D → List Event → D → Type 0} {stamp : Stamp} {a b : D} {p q : Family (W → W) W G I} (IsFirst : First (Unit {0}) I → Type 0) → GoesFor becomes stamp a p b q → AnswersFor becomes stamp a (whole-of p) b (λ plan. Err OutOfMemory) IsFirst
behind-lacks {p = p} {q = q} IsFirst h = record { last = whole-of q; goes = whole-goes p q h; answers = λ plan. inr refl; found = inr (λ plan. refl) }

pub poll-lacks : {D G I W : Type 0} {becomes : D → List Event → D → Type 0} {stamp : Stamp} {a b : D} (tells : G → List RawMessage → Option (Result W Error)) (hears : G → RawMessage → Heard G I) (with_item : I → W → W) (at_end : G → W) (old new : Items G) (r : Poll (Option (Result I Error))) →
    (IsFirst : First (Unit {0}) I → Type 0) → MatchPoll r (λ next. Gives becomes tells with_item at_end stamp a (family_of tells hears old) b new next) (Awaits becomes tells hears stamp a (family_of tells hears old) b new) →
    AnswersFor becomes stamp a (whole-of (family_of tells hears old)) b (λ plan. Err OutOfMemory) IsFirst
poll-lacks tells hears with_item at_end old new Pending IsFirst h = behind-lacks IsFirst h.pauses.goes
poll-lacks tells hears with_item at_end old new (Ready None) IsFirst h = behind-lacks IsFirst h.goes
poll-lacks tells hears with_item at_end old new (Ready (Some (Ok i))) IsFirst h = behind-lacks IsFirst h
poll-lacks tells hears with_item at_end old new (Ready (Some (Err e))) IsFirst h = behind-lacks IsFirst h.goes

-- what a state does behind what was done before
pub handed-on : {D S W G I : Type 0} {becomes : D → List Event → D → Type 0} (joins : Joins becomes) (stands : S → Family (Unit {0}) W G I) (is_open : S → Type 0) {stamp : Stamp} {a : D} {p : Family (Unit {0}) W G I} {b : D} {q : Family (Unit {0}) W G I} → GoesFor becomes stamp a p b q →
    (c : D) (end : Family (Unit {0}) W G I) (Live : Type 0) (r : Poll (Result S Error)) → MatchPoll r (λ x. HandsOn becomes stands is_open stamp b q c x) (PausesFor becomes stamp b q c end × Live) →
    MatchPoll r (λ x. HandsOn becomes stands is_open stamp a p c x) (PausesFor becomes stamp a p c end × Live)
handed-on joins stands is_open h c end Live (Ready (Ok stream)) k = (goes-joined joins h c (stands stream) k.0, k.1)
handed-on joins stands is_open h c end Live (Ready (Err e)) k = answers-joined joins h c (λ plan. Err e) (λ first. IsNoItem first.told) k
handed-on joins stands is_open h c end Live Pending k = (pauses-joined joins h c end k.0, k.1)

-- ---- nothing is left to do before a request

pub nothing-left : {D W : Type 0} (becomes : D → List Event → D → Type 0) → ((a : D) → becomes a [] a) → (stamp : Stamp) (a : D) (d : Dialogue W) (n : ℕ) → cleanup_of d ≡ [] →
    GoesToAnswer becomes stamp a (record { dialogue = cleaning (cleanup_of d); reads = n }) a (Ok tt)
nothing-left becomes stays stamp a d n is = record {
  last = record { dialogue = cleaning (cleanup_of d); reads = n };
  goes = record { events = []; became = stays a; walked = (refl, refl) };
  answers = inl (ap cleaning is);
}

pub asked-cleanup : {W : Type 0} (request : Result (List ℕ) Error) (d : Dialogue W) → cleanup_of (asks_for request d) ≡ []
asked-cleanup (Ok frame) d = refl
asked-cleanup (Err e) d = refl

by-frame : (r : Result (List ℕ) spec.FrameFault) → cleanup_of (asks_by r) ≡ []
by-frame (Ok frame) = refl
by-frame (Err fault) = refl

pub text-cleanup : (text : Option (List ℕ)) → cleanup_of (asks_text text) ≡ []
text-cleanup (Some text) = by-frame (query_frame text)
text-cleanup None = refl

-- ---- a text

-- it can't be sent
pub text-refused : {D G I : Type 0} (becomes : D → List Event → D → Type 0) → ((a : D) → becomes a [] a) → (stamp : Stamp) (a : D) (d : Dialogue _) (n : ℕ) (text : List ℕ) (e : Error) (first : List RawMessage → First G I) (IsFirst : First G I → Type 0) →
    d ≡ simple_query_raw text → IsFrameOf text (Err e) → IsFirst (first []) → AnswersFor becomes stamp a (alone (record { dialogue = d; reads = n }) first) a (λ plan. Err e) IsFirst
text-refused becomes stays stamp a d n text e first IsFirst is (inl lack) found =
    let p = alone (record { dialogue = d; reads = n }) first in
    subst (λ (x : Error). AnswersFor becomes stamp a p a (λ plan. Err x) IsFirst) (sym lack) (lacks becomes stays stamp a p IsFirst)
text-refused becomes stays stamp a d n text e first IsFirst is (inr h) found =
    answers-at-once becomes stays stamp a (alone (record { dialogue = d; reads = n }) first) (λ plan. Err e) IsFirst
    (λ plan. is ∙ ap asks_by h.1 ∙ ap (λ (x : Error). let y : Dialogue _ = Answer (Err x) in y) (sym h.2)) found
