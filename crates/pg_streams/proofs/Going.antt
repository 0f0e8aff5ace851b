-- Events of one call and of the next, for all plans.
use Rattle.std.proofs.Common.{◌≡◌, List, [], ◌∷◌, ◌++◌, Option, Some, None, Result, Ok, Err, refl, sym, ap, subst, inl, inr}
use Rattle.pg_spec.specs.RawMessages.{RawMessage}
use Rattle.pg_spec.specs.declared.stamps.Stamp.{Stamp}
use Rattle.pg_desk.specs.declared.event.DeskFault.{DeskFault}
use Rattle.pg_desk.specs.declared.event.Event.{Event}
use Rattle.pg_desk.specs.declared.event.Event.TheVariants as call
use Rattle.pg_desk.specs.declared.event.Take.TheVariants as taking
use Rattle.pg_types.specs.declared.error.Error.{Error}
use Rattle.pg_types.specs.declared.error.Error.TheVariants.{Closed, OutOfMemory}
use Rattle.pg_query.specs.Dialogue.{Dialogue, Answer, HangUp, feed, Walks}
use Rattle.pg_query.specs.Faults.{of_fault}
use Rattle.pg_query.specs.Meaning.{Place, Leaves, ForMessage, ForRoom, WaitsAt, left_by}
use Rattle.pg_query.specs.Scripts.{IsRead}
use Rattle.pg_query.proofs.Walking.{end-joined, walk-joined}
use Rattle.pg_streams.specs.Collecting.{Awaits, Comes, Gives, NoItemFirst, Reads, collects, family_behind, family_of, place_behind, untold}
use Rattle.pg_streams.specs.Families.{Family, GoesFor, AnswersFor, PausesFor}
use Rattle.pg_streams.specs.Hearing.{Brings, First, Heard, Takes, first_told, taken, told_only}
use Rattle.pg_streams.specs.Telling.{told_behind}
use Rattle.pg_streams.specs.declared.giving.Told.{Told}
use Rattle.pg_streams.specs.declared.items.Items.{Items}

-- events of two calls are events of a desk
abbrev pub Joins : {D : Type 0} → (D → List Event → D → Type 0) → Type 0
Joins {D} becomes = (a b c : D) (es fs : List Event) → becomes a es b → becomes b fs c → becomes a (es ++ fs) c

-- ---- what is told first

-- one event, and what comes of the others
taken-on : {G I : Type 0} (o : Option (List RawMessage)) (first : List RawMessage → First G I) (A B : (List RawMessage → First G I) → Type 0) → ((x : List RawMessage → First G I) → A x → B x) → Takes o first A → Takes o first B
taken-on (Some ms) first A B go h = (h.0, go (λ more. first (ms ++ more)) h.1)
taken-on None first A B go h = go first h

-- one list of events, and then another
pub brings-joined : {G I : Type 0} (first mid last : List RawMessage → First G I) (es fs : List Event) → Brings first es mid → Brings mid fs last → Brings first (es ++ fs) last
brings-joined first mid last [] fs h k = subst (λ (x : List RawMessage → First _ _). Brings x fs last) h k
brings-joined first mid last (e ∷ es) fs h k =
    taken-on (taken e) first (λ later. Brings later es mid) (λ later. Brings later (es ++ fs) last) (λ later l. brings-joined later mid last es fs l k) h

-- no event of them takes messages
abbrev pub TakesNone : List Event → Type 0
TakesNone [] = Unit {0}
TakesNone (e ∷ es) = (taken e ≡ None) × TakesNone es

-- so what is told first stays
pub brings-none : {G I : Type 0} (first : List RawMessage → First G I) (es : List Event) → TakesNone es → Brings first es first
brings-none first [] h = refl
brings-none first (e ∷ es) h = subst (λ (o : Option (List RawMessage)). Takes o first (λ later. Brings later es first)) (sym h.0) (brings-none first es h.1)

-- what is true of it at first, whatever comes, stays so
kept-on : {G I : Type 0} (IsFirst : First G I → Type 0) (o : Option (List RawMessage)) (first : List RawMessage → First G I) (A : (List RawMessage → First G I) → Type 0) (B : Type 0) →
    ((x : List RawMessage → First G I) → ((more : List RawMessage) → IsFirst (x more)) → A x → B) → ((more : List RawMessage) → IsFirst (first more)) → Takes o first A → B
kept-on IsFirst (Some ms) first A B go k h = go (λ more. first (ms ++ more)) (λ more. k (ms ++ more)) h.1
kept-on IsFirst None first A B go k h = go first k h

pub brings-kept : {G I : Type 0} (IsFirst : First G I → Type 0) (first last : List RawMessage → First G I) (es : List Event) → ((more : List RawMessage) → IsFirst (first more)) → Brings first es last → (more : List RawMessage) → IsFirst (last more)
brings-kept IsFirst first last [] k h = subst (λ (x : List RawMessage → First _ _). (more : List RawMessage) → IsFirst (x more)) (sym h) k
brings-kept IsFirst first last (e ∷ es) k h =
    kept-on IsFirst (taken e) first (λ later. Brings later es last) ((more : List RawMessage) → IsFirst (last more)) (λ later l m. brings-kept IsFirst later last es l m) k h

-- the same, and not how far the reply was read
only-on : {G I : Type 0} (o : Option (List RawMessage)) (first : List RawMessage → First G I) (A : (List RawMessage → First G I) → Type 0) (B : (List RawMessage → First (Unit {0}) I) → Type 0) →
    ((x : List RawMessage → First G I) → A x → B (λ more. told_only (x more))) → Takes o first A → Takes o (λ more. told_only (first more)) B
only-on (Some ms) first A B go h = (h.0, go (λ more. first (ms ++ more)) h.1)
only-on None first A B go h = go first h

pub brings-only : {G I : Type 0} (first last : List RawMessage → First G I) (es : List Event) → Brings first es last → Brings (λ more. told_only (first more)) es (λ more. told_only (last more))
brings-only first last [] h = λ i. λ more. told_only (h i more)
brings-only first last (e ∷ es) h = only-on (taken e) first (λ later. Brings later es last) (λ later. Brings later es (λ more. told_only (last more))) (λ later l. brings-only later last es l) h

-- ---- events of two calls

-- where one waits behind what was done before
waits-on : {W : Type 0} (q : Place W) (es fs : List Event) → WaitsAt q fs → WaitsAt q (es ++ fs)
waits-on q es fs (ForMessage is last) = ForMessage is (end-joined es fs _ last)
waits-on q es fs (ForRoom is part last) = ForRoom is part (end-joined es fs _ last)

-- nothing was done yet
pub goes-nowhere : {D P T G I : Type 0} (becomes : D → List Event → D → Type 0) → ((a : D) → becomes a [] a) → (stamp : Stamp) (a : D) (p q : Family P T G I) → q ≡ p → GoesFor becomes stamp a p a q
goes-nowhere becomes stays stamp a p q same = record {
  events = [];
  became = stays a;
  walked = λ plan. (ap (λ (x : Family _ _ _ _). (x.place plan).dialogue) same, ap (λ (x : Family _ _ _ _). (x.place plan).reads) same);
  brought = ap (λ (x : Family _ _ _ _). x.first) same;
}

module _ {D P T G I : Type 0} {becomes : D → List Event → D → Type 0} (joins : Joins becomes) {stamp : Stamp} {a : D} {p : Family P T G I} {b : D} {q : Family P T G I} (h : GoesFor becomes stamp a p b q) where
  -- then further
  pub goes-joined : (c : D) (r : Family P T G I) → GoesFor becomes stamp b q c r → GoesFor becomes stamp a p c r
  goes-joined c r k = record {
    events = h.events ++ k.events;
    became = joins a b c h.events k.events h.became k.became;
    walked = λ plan. walk-joined stamp (p.place plan).dialogue (p.place plan).reads h.events k.events (q.place plan).dialogue (r.place plan).dialogue (q.place plan).reads (r.place plan).reads (h.walked plan) (k.walked plan);
    brought = brings-joined p.first q.first r.first h.events k.events h.brought k.brought;
  }

  -- to where one waits
  pub pauses-joined : (c : D) (r : Family P T G I) → PausesFor becomes stamp b q c r → PausesFor becomes stamp a p c r
  unfolding goes-joined
  pauses-joined c r k = record { goes = goes-joined c r k.goes; waits = λ plan. waits-on (r.place plan) h.events k.goes.events (k.waits plan) }

  -- to an answer
  pub answers-joined : (c : D) (r : P → Result T Error) (IsFirst : First G I → Type 0) → AnswersFor becomes stamp b q c r IsFirst → AnswersFor becomes stamp a p c r IsFirst
  answers-joined c r IsFirst k = record { last = k.last; goes = goes-joined c k.last k.goes; answers = k.answers; found = k.found }

-- want of memory may be the answer wherever they led
pub lacks-behind : {D P T G I : Type 0} {becomes : D → List Event → D → Type 0} {stamp : Stamp} {a : D} {p : Family P T G I} {b : D} {q : Family P T G I} → GoesFor becomes stamp a p b q → (e : Error) (IsFirst : First G I → Type 0) → e ≡ OutOfMemory →
    AnswersFor becomes stamp a p b (λ plan. Err e) IsFirst
lacks-behind {T = T} {q = q} h e IsFirst is =
    let lacks : (let r : Result T Error = Err e in r) ≡ Err OutOfMemory = ap (λ (x : Error). let r : Result T Error = Err x in r) is in
    record { last = q; goes = h; answers = λ plan. inr lacks; found = inr (λ plan. lacks) }

-- what is given behind what was done before
pub gives-joined : {D G I W : Type 0} {becomes : D → List Event → D → Type 0} (joins : Joins becomes) (tells : G → List RawMessage → Option (Result W Error)) (with_item : I → W → W) (at_end : G → W) (stamp : Stamp) (a : D) (p : Family (W → W) W G I) (b : D) (q : Family (W → W) W G I) →
    GoesFor becomes stamp a p b q → (c : D) (new : Items G) (r : Option (Result I Error)) → Gives becomes tells with_item at_end stamp b q c new r → Gives becomes tells with_item at_end stamp a p c new r
gives-joined joins tells with_item at_end stamp a p b q h c new (Some (Ok i)) k = goes-joined joins h c _ k
gives-joined joins tells with_item at_end stamp a p b q h c new None k = answers-joined joins h c _ _ k
gives-joined joins tells with_item at_end stamp a p b q h c new (Some (Err e)) k = answers-joined joins h c _ _ k

-- ---- a take, where all that came was read

-- All that came was read, and some events led there.
pub record ReadOut {D G I W : Type 0} (becomes : D → List Event → D → Type 0) (tells : G → List RawMessage → Option (Result W Error)) (hears : G → RawMessage → Heard G I) (stamp : Stamp) (a : D) (from : Family (W → W) W G I) (b : D) (s : Items G) : Type 0 where
  pub goes : GoesFor becomes stamp a from b (family_of tells hears s)
  pub empty : s.batch ≡ []

-- where all was read that came
pub out-of : {D G I W : Type 0} (becomes : D → List Event → D → Type 0) (tells : G → List RawMessage → Option (Result W Error)) (hears : G → RawMessage → Heard G I) (with_item : I → W → W) (at_end : G → W) (stamp : Stamp) (a : D) (from : Family (W → W) W G I) (b : D) (s t : Items G) →
    GoesFor becomes stamp a from b (family_of tells hears s) → (o : Option (Told I)) → o ≡ None → Reads tells hears with_item at_end s t (Ok o) → ReadOut becomes tells hears stamp a from b t
out-of becomes tells hears with_item at_end stamp a from b s t h o is r =
    let k : Reads tells hears with_item at_end s t (Ok None) = subst (λ (x : Option (Told _)). Reads tells hears with_item at_end s t (Ok x)) is r in
    record { goes = subst (λ (q : Family _ _ _ _). GoesFor becomes stamp a from b q) (sym k.0) h; empty = k.1 }

-- where something was told
pub told-of : {D G I W : Type 0} (becomes : D → List Event → D → Type 0) (tells : G → List RawMessage → Option (Result W Error)) (hears : G → RawMessage → Heard G I) (with_item : I → W → W) (at_end : G → W) (stamp : Stamp) (a : D) (from : Family (W → W) W G I) (b : D) (s t : Items G) →
    GoesFor becomes stamp a from b (family_of tells hears s) → (o : Option (Told I)) (told : Told I) → o ≡ Some told → Reads tells hears with_item at_end s t (Ok o) → GoesFor becomes stamp a from b (family_behind tells with_item at_end told t)
told-of becomes tells hears with_item at_end stamp a from b s t h o told is r =
    let k : Reads tells hears with_item at_end s t (Ok (Some told)) = subst (λ (x : Option (Told _)). Reads tells hears with_item at_end s t (Ok x)) is r in
    subst (λ (q : Family _ _ _ _). GoesFor becomes stamp a from b q) (sym k) h

-- what came is told
pub comes-told : {D G I W : Type 0} (becomes : D → List Event → D → Type 0) (tells : G → List RawMessage → Option (Result W Error)) (with_item : I → W → W) (at_end : G → W) (stamp : Stamp) (a : D) (from : Family (W → W) W G I) (b : D) (s : Items G) →
    (r : Result (Told I) Error) (told : Told I) → r ≡ Ok told → Comes becomes tells with_item at_end stamp a from b s r → GoesFor becomes stamp a from b (family_behind tells with_item at_end told s)
comes-told becomes tells with_item at_end stamp a from b s r told is h = subst (λ (x : Result (Told _) Error). Comes becomes tells with_item at_end stamp a from b s x) is h

module _ {D G I W : Type 0} {becomes : D → List Event → D → Type 0} {tells : G → List RawMessage → Option (Result W Error)} {hears : G → RawMessage → Heard G I} {stamp : Stamp} {a : D} {from : Family (W → W) W G I} {b : D} {s : Items G}
    (joins : Joins becomes) (out : ReadOut becomes tells hears stamp a from b s) where
  -- what is read there
  abbrev reading : (W → W) → Dialogue W
  reading before = collects s.close (λ ms. told_behind before (tells s.giving ms))

  same : (before : W → W) → reading before ≡ (place_behind tells s before).dialogue
  same before = sym (ap (λ (l : List RawMessage). feed l (reading before)) out.empty)

  -- nothing is told there
  nothing : (untold hears s []).told ≡ None
  nothing = ap (λ (l : List RawMessage). (first_told hears s.giving (l ++ [])).told) out.empty

  none-first : NoItemFirst s (untold hears s [])
  none-first = subst (λ (l : List RawMessage). NoItemFirst s (first_told hears s.giving (l ++ []))) (sym out.empty) (tt, refl)

  -- further events lead on from there
  goes-on : (c : D) (es : List Event) → becomes b es c → (q : Family (W → W) W G I) → ((before : W → W) → Walks stamp (reading before) s.id es (q.place before).dialogue (q.place before).reads) → Brings (untold hears s) es q.first → GoesFor becomes stamp a from c q
  goes-on c es ev q w f = goes-joined joins out.goes c q (record {
    events = es;
    became = ev;
    walked = λ before. subst (λ (d : Dialogue W). Walks stamp d s.id es (q.place before).dialogue (q.place before).reads) (same before) (w before);
    brought = f;
  })

  -- or to an error
  ends-on : (c : D) (es : List Event) → becomes b es c → (e x : Error) → x ≡ e → ((before : W → W) → Walks stamp (reading before) s.id es (Answer (Err e)) s.id) → Brings (untold hears s) es (untold hears s) →
      AnswersFor becomes stamp a from c (λ before. Err x) (NoItemFirst s)
  ends-on c es ev e x is w f =
      let last : Family (W → W) W G I = record { place = λ before. record { dialogue = Answer (Err e); reads = s.id }; first = untold hears s } in
      record {
        last = last;
        goes = goes-on c es ev last w f;
        answers = λ before. inl (ap (λ (y : Error). let d : Dialogue W = Answer (Err y) in d) (sym is));
        found = inl none-first;
      }

  -- a batch came, which is read next
  pub batch-came : (c : D) (ms : List RawMessage) → becomes b (call.Take s.id (Ok (taking.Batch ms)) ∷ []) c → (next : Items G) → next ≡ record s { batch = ms } → GoesFor becomes stamp a from c (family_of tells hears next)
  batch-came c ms ev next is = subst (λ (x : Items G). GoesFor becomes stamp a from c (family_of tells hears x)) (sym is)
      (goes-on c (call.Take s.id (Ok (taking.Batch ms)) ∷ []) ev (family_of tells hears (record s { batch = ms })) (λ before. (feed ms (reading before), s.id, (refl, refl, refl), (refl, refl)))
      (nothing, ap (λ (l : List RawMessage). let f : List RawMessage → First G I = λ more. first_told hears s.giving (l ++ (ms ++ more)) in f) (sym out.empty)))

  -- none will come any more
  pub all-came : (c : D) → becomes b (call.Take s.id (Ok taking.Over) ∷ []) c → AnswersFor becomes stamp a from c (λ before. Err Closed) (NoItemFirst s)
  all-came c ev = ends-on c (call.Take s.id (Ok taking.Over) ∷ []) ev Closed Closed refl (λ before. (Answer (Err Closed), s.id, (refl, refl, refl), (refl, refl))) (nothing, refl)

  gone : (answer : Result (Unit {0}) DeskFault) (before : W → W) → Walks stamp (reading before) s.id (call.Take s.id (Ok taking.Gone) ∷ call.HangUp s.id answer ∷ []) (Answer (Err (left_by answer))) s.id
  gone (Ok x) before = (HangUp (Answer (Err Closed)), s.id, (refl, refl, refl), (Answer (Err Closed), s.id, (refl, refl, refl), (refl, refl)))
  gone (Err e) before = (HangUp (Answer (Err Closed)), s.id, (refl, refl, refl), (Answer (Err (of_fault e)), s.id, (refl, refl, refl), (refl, refl)))

  -- the request is gone, and was hung up
  pub request-gone : (c d : D) → becomes b (call.Take s.id (Ok taking.Gone) ∷ []) c → (e : Error) → Leaves becomes c s.id d e → AnswersFor becomes stamp a from d (λ before. Err e) (NoItemFirst s)
  request-gone c d ev e left =
      ends-on d (call.Take s.id (Ok taking.Gone) ∷ call.HangUp s.id left.answer ∷ []) (joins b c d (call.Take s.id (Ok taking.Gone) ∷ []) (call.HangUp s.id left.answer ∷ []) ev left.became)
      (left_by left.answer) e left.says (gone left.answer) (nothing, refl)

  -- the desk refused the take
  pub refused-take : (c : D) (fault : DeskFault) → becomes b (call.Take s.id (Err fault) ∷ []) c → (e : Error) → e ≡ of_fault fault → AnswersFor becomes stamp a from c (λ before. Err e) (NoItemFirst s)
  refused-take c fault ev e is = ends-on c (call.Take s.id (Err fault) ∷ []) ev (of_fault fault) e is (λ before. (Answer (Err (of_fault fault)), s.id, (refl, refl, refl), (refl, refl))) (nothing, refl)

  -- none came yet
  pub none-came : (c : D) → becomes b (call.Take s.id (Ok taking.Empty) ∷ []) c → Awaits becomes tells hears stamp a from c s
  unfolding goes-on goes-joined
  none-came c ev = record {
    pauses = record {
      goes = goes-on c (call.Take s.id (Ok taking.Empty) ∷ []) ev (family_of tells hears s) (λ before. (reading before, s.id, (refl, refl, refl), (sym (same before), refl))) (nothing, refl);
      waits = λ before. ForMessage (subst IsRead (same before) tt) (record { before = out.goes.events; are = refl });
    };
    empty = out.empty;
  }
