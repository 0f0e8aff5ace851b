-- How the ends of the small steps of reading are those of the larger ones.
use Rattle.std.proofs.Common.{◌≡◌, ℕ, Bool, true, false, ◌||◌, List, [], ◌∷◌, ◌++◌, length, Option, Some, None, Result, Ok, Err, refl, sym, ap, subst, ◌∙◌, arith, inl, inr, append-nil, append_assoc}
use Rattle.pg_spec.specs.Links.{LinkView}
use Rattle.pg_spec.specs.RawMessages.{RawMessage, messages, has_bad_header}
use Rattle.pg_wire.specs.LinkCalls.{Keeps}
use Rattle.pg_desk.specs.declared.event.Event.{Event}
use Rattle.pg_wire.specs.declared.body.ErrorResponseBody.{ErrorResponseBody}
use Rattle.pg_errors.specs.declared.async_message.AsyncMessage.{AsyncMessage}
use Rattle.pg_types.specs.declared.cause.Cause.{Cause}
use Rattle.pg_types.specs.declared.error.Error.{Error}
use Rattle.pg_connect.specs.declared.fault.ConnectionFault.{ConnectionFault}
use Rattle.pg_connect.specs.declared.fault.ConnectionFault.TheVariants as fault
use Rattle.pg_connect.specs.declared.ends.Off.{Off}
use Rattle.pg_connect.specs.declared.ends.Step.{Step}
use Rattle.pg_connect.specs.declared.ends.Step.TheVariants as step
use Rattle.pg_connect.specs.declared.ends.ReadEnd.{ReadEnd}
use Rattle.pg_connect.specs.declared.ends.ReadEnd.TheVariants as ending
use Rattle.pg_connect.specs.declared.streams.Streams.{Streams}
use Rattle.pg_connect.specs.Passes.{Passes, PassesOn, Goes, Hands, Untouched, delayed_in, waiting}
use Rattle.pg_connect.specs.Ends.{last_is, some_is}
use Rattle.pg_connect.specs.Reads.{HandedOff, OffEnds, DeliverEnds, PassEnds, AllEnds, PieceEnds, ReadEnds, HandedIn, HandedAll, AllDecoded, EndsAt, LastGivesBack, MeetsFull, MeetsNoRequest, NoneFull, WasDry, LeavesDelayed, RefusesFirst, is_full}
use Rattle.pg_connect.proofs.Joining.{calls-then, none_lost, passes-joined, promised_still, rose_later, unmoved_before}
use Rattle.pg_connect.proofs.Parts.{Joins}

-- ---- joining

-- nothing was handed out
pub none_handed : (s t : Streams) (l m : LinkView) (es : List Event) → PassesOn s t l m es (λ handed. handed ≡ []) → Passes s t l m es []
none_handed s t l m es on = subst (λ (h : List RawMessage). Passes s t l m es h) on.is on.passes

pub no_hands : {H : Type 0} (becomes : H → List Event → H → Type 0) (h i : H) (s t : Streams) (l m : LinkView) (E : List Event → Type 0) →
    Hands becomes h i s t l m (λ handed. handed ≡ []) E → Goes becomes h i s t l m [] E
no_hands becomes h i s t l m E hands = subst (λ (x : List RawMessage). Goes becomes h i s t l m x E) hands.is hands.goes

-- calls without events come first
pub goes-behind : {H : Type 0} (becomes : H → List Event → H → Type 0) (h i : H) (a b c : Streams) (l m n : LinkView)
    (hs js : List RawMessage) (E F : List Event → Type 0) →
    Passes a b l m [] hs → Goes becomes h i b c m n js E → ((es : List Event) → E es → F es) → Goes becomes h i a c l n (hs ++ js) F
goes-behind becomes h i a b c l m n hs js E F passes goes ends = record {
  events = goes.events;
  calls = goes.calls;
  became = goes.became;
  passes = passes-joined a b c l m n [] goes.events hs js passes goes.passes;
  ended = ends goes.events goes.ended;
}

pub goes-both : {H : Type 0} (becomes : H → List Event → H → Type 0) → Joins becomes → (h i k : H) (a b c : Streams) (l m n : LinkView)
    (hs js : List RawMessage) (E F G : List Event → Type 0) →
    Goes becomes h i a b l m hs E → Goes becomes i k b c m n js F → ((es fs : List Event) → E es → F fs → G (es ++ fs)) → Goes becomes h k a c l n (hs ++ js) G
goes-both becomes joins h i k a b c l m n hs js E F G first more ends = record {
  events = first.events ++ more.events;
  calls = calls-then first.events more.events first.calls more.calls;
  became = joins h i k first.events more.events first.became more.became;
  passes = passes-joined a b c l m n first.events more.events hs js first.passes more.passes;
  ended = ends first.events more.events first.ended more.ended;
}

-- the same, where the later calls hand out
pub hands-both : {H : Type 0} (becomes : H → List Event → H → Type 0) → Joins becomes → (h i k : H) (a b c : Streams) (l m n : LinkView)
    (W V : List RawMessage → Type 0) (E F G : List Event → Type 0) →
    Goes becomes h i a b l m [] E → Hands becomes i k b c m n W F → ((handed : List RawMessage) → W handed → V handed) →
    ((es fs : List Event) → E es → F fs → G (es ++ fs)) → Hands becomes h k a c l n V G
hands-both becomes joins h i k a b c l m n W V E F G first more which ends = record {
  handed = more.handed;
  is = which more.handed more.is;
  goes = goes-both becomes joins h i k a b c l m n [] more.handed E F G first more.goes ends;
}

-- no event at all
pub goes-quietly : {H : Type 0} (becomes : H → List Event → H → Type 0) (h : H) → becomes h [] h → (a b : Streams) (l m : LinkView)
    (hs : List RawMessage) (F : List Event → Type 0) → Passes a b l m [] hs → F [] → Goes becomes h h a b l m hs F
goes-quietly becomes h stays a b l m hs F passes ends = record { events = []; calls = tt; became = stays; passes = passes; ended = ends }

pub hands-quietly : {H : Type 0} (becomes : H → List Event → H → Type 0) (h : H) → becomes h [] h → (a b : Streams) (l m : LinkView)
    (W V : List RawMessage → Type 0) (F : List Event → Type 0) → PassesOn a b l m [] W → ((handed : List RawMessage) → W handed → V handed) → F [] →
    Hands becomes h h a b l m V F
hands-quietly becomes h stays a b l m W V F on which ends = record {
  handed = on.handed;
  is = which on.handed on.is;
  goes = goes-quietly becomes h stays a b l m on.handed F on.passes ends;
}

last_cons : (p : Event → Bool) (x : Event) (fs : List Event) → last_is p fs ≡ true → last_is p (x ∷ fs) ≡ true
last_cons p x [] is = absurd cc
last_cons p x (y ∷ ys) is = is

pub last_behind : (p : Event → Bool) (es fs : List Event) → last_is p fs ≡ true → last_is p (es ++ fs) ≡ true
last_behind p [] fs is = is
last_behind p (x ∷ es) fs is = last_cons p x (es ++ fs) (last_behind p es fs is)

neither : (a b : Bool) → a ≡ false → b ≡ false → (a || b) ≡ false
neither true b one other = absurd cc
neither false b one other = other

neither_first : (a b : Bool) → (a || b) ≡ false → a ≡ false
neither_first true b none = absurd cc
neither_first false b none = refl

neither_last : (a b : Bool) → (a || b) ≡ false → b ≡ false
neither_last true b none = absurd cc
neither_last false b none = none

some_is-append : (p : Event → Bool) (es fs : List Event) → some_is p es ≡ false → some_is p fs ≡ false → some_is p (es ++ fs) ≡ false
some_is-append p [] fs first then = then
some_is-append p (e ∷ es) fs first then =
    neither (p e) (some_is p (es ++ fs)) (neither_first (p e) (some_is p es) first) (some_is-append p es fs (neither_last (p e) (some_is p es) first) then)

pub none_full-then : (es fs : List Event) → NoneFull es → NoneFull fs → NoneFull (es ++ fs)
none_full-then es fs first then = some_is-append is_full es fs first then

last_back_cons : (held : List RawMessage) (x : Event) (fs : List Event) → LastGivesBack held fs → LastGivesBack held (x ∷ fs)
last_back_cons held x [] is = absurd is
last_back_cons held x (y ∷ ys) is = is

pub last_back_behind : (held : List RawMessage) (es fs : List Event) → LastGivesBack held fs → LastGivesBack held (es ++ fs)
last_back_behind held [] fs is = is
last_back_behind held (x ∷ es) fs is = last_back_cons held x (es ++ fs) (last_back_behind held es fs is)

-- a mailbox that was full in the later calls
pub full_behind : (t : Streams) (es fs : List Event) → MeetsFull t fs → MeetsFull t (es ++ fs)
full_behind t es fs is = (last_behind _ es fs is.0, last_back_behind (waiting t.held) es fs is.1)

-- a batch that nobody asked for in the later calls
pub unasked_behind : (t : Streams) (e : Error) (es fs : List Event) → MeetsNoRequest t e fs → MeetsNoRequest t e (es ++ fs)
unasked_behind t e es fs is = (last_behind _ es fs is.0, is.1, last_back_behind (waiting t.held) es fs is.2)

-- ---- passing on

pub off_refused : (s t : Streams) (e : ConnectionFault) (events : List Event) → OffEnds s t (Err e) → PassEnds s t (Err e) events
off_refused s t fault.BadLength events is = is
off_refused s t fault.Layout events is = is
off_refused s t (fault.Unreadable c) events is = is
off_refused s t fault.OutOfMemory events is = tt
off_refused s t _ events is = absurd is

pub deliver_refused : (s t : Streams) (e : ConnectionFault) (events : List Event) → DeliverEnds t (Err e) events → PassEnds s t (Err e) events
deliver_refused s t (fault.Unasked e) events is = is
deliver_refused s t fault.OutOfMemory events is = tt
deliver_refused s t _ events is = absurd is

pub pass_refused : (old s t : Streams) (e : ConnectionFault) (es fs : List Event) → PassEnds s t (Err e) fs → AllEnds old t (Err e) (es ++ fs)
pass_refused old s t fault.BadLength es fs is = is
pass_refused old s t fault.Layout es fs is = is
pass_refused old s t (fault.Unreadable c) es fs is = is
pass_refused old s t (fault.Unasked e) es fs is = unasked_behind t e es fs is
pass_refused old s t fault.OutOfMemory es fs is = tt
pass_refused old s t _ es fs is = absurd is

pub handed_same : (x : Step) (handed : List RawMessage) → HandedIn (Ok (Some x)) handed → HandedAll (Ok x) handed
handed_same (step.Handed message) handed is = is
handed_same step.Full handed is = is
handed_same step.Nothing handed is = is

-- messages that came off before
abbrev pub CameBefore : Streams → Streams → Type 0
CameBefore old s = (read : List RawMessage) × (messages old.buffer.items ≡ read ++ messages s.buffer.items)

pub ends_later : (bytes mid left : List ℕ) (read : List RawMessage) (message : AsyncMessage) → messages bytes ≡ read ++ messages mid → EndsAt mid left message → EndsAt bytes left message
ends_later bytes mid left read message came at = record {
  front = read ++ at.front;
  raw = at.raw;
  is = came ∙ ap (λ (x : List RawMessage). read ++ x) at.is ∙ sym (append_assoc read at.front (at.raw ∷ messages left));
  means = at.means;
}

pub pass_stopped : (old s t : Streams) (x : Step) (es fs : List Event) → CameBefore old s → NoneFull es → PassEnds s t (Ok (Some x)) fs → AllEnds old t (Ok x) (es ++ fs)
pass_stopped old s t (step.Handed message) es fs came so is = ends_later old.buffer.items s.buffer.items t.buffer.items came.0 message came.1 is
pass_stopped old s t step.Full es fs came so is = full_behind t es fs is
pass_stopped old s t step.Nothing es fs came so is = (is.0, is.1, none_full-then es fs so is.2)

-- ---- the read step

pub all_refused : (s t : Streams) (a b : LinkView) (e : ConnectionFault) (es fs : List Event) → delayed_in t ≡ [] → AllEnds s t (Err e) fs → ReadEnds t a b (Err e) (es ++ fs)
all_refused s t a b fault.BadLength es fs late is = is
all_refused s t a b fault.Layout es fs late is = is
all_refused s t a b (fault.Unreadable c) es fs late is = inl is
all_refused s t a b (fault.Unasked e) es fs late is = (unasked_behind t e es fs is, late)
all_refused s t a b fault.OutOfMemory es fs late is = tt
all_refused s t a b fault.Link es fs late is = absurd is
all_refused s t a b fault.Closed es fs late is = absurd is
all_refused s t a b fault.Ended es fs late is = absurd is
all_refused s t a b (fault.LimitReached given most) es fs late is = absurd is

pub held_refused : (t : Streams) (a b : LinkView) (e : ConnectionFault) (events : List Event) → delayed_in t ≡ [] → DeliverEnds t (Err e) events → ReadEnds t a b (Err e) events
held_refused t a b (fault.Unasked e) events late is = (is, late)
held_refused t a b fault.OutOfMemory events late is = tt
held_refused t a b fault.BadLength events late is = absurd is
held_refused t a b fault.Layout events late is = absurd is
held_refused t a b (fault.Unreadable c) events late is = absurd is
held_refused t a b fault.Link events late is = absurd is
held_refused t a b fault.Closed events late is = absurd is
held_refused t a b fault.Ended events late is = absurd is
held_refused t a b (fault.LimitReached given most) events late is = absurd is

pub decoded_same : (s t : Streams) → t.buffer.items ≡ s.buffer.items → AllDecoded s → AllDecoded t
decoded_same s t same was = record { none_whole = ap messages same ∙ was.none_whole; no_bad_header = ap has_bad_header same ∙ was.no_bad_header }

pub piece_refused : (s t : Streams) (a b c : LinkView) (e : ConnectionFault) (events : List Event) → Keeps a b → AllDecoded s → t.held ≡ None → delayed_in t ≡ [] → t.unread ≡ None → PieceEnds s t b c (Err e) → ReadEnds t a c (Err e) events
piece_refused s t a b c fault.Link events keeps decoded none late read is = rose_later a.faults b.faults c.faults keeps.counts.faults is
piece_refused s t a b c fault.Closed events keeps decoded none late read is = (rose_later a.ends b.ends c.ends keeps.counts.ends is.0, is.1, ap waiting none, late, read)
piece_refused s t a b c fault.Ended events keeps decoded none late read is = record {
  rose = rose_later a.ends b.ends c.ends keeps.counts.ends is.0;
  some = is.1;
  decoded = decoded_same s t is.2 decoded;
  held = ap waiting none;
  delayed = late;
  unread = read;
}
piece_refused s t a b c (fault.LimitReached given most) events keeps decoded none late read is = (is.0, is.1, is.2, record { piece = is.3; undecoded = is.4; held = ap waiting none; delayed = late; unread = read })
piece_refused s t a b c fault.OutOfMemory events keeps decoded none late read is = tt
piece_refused s t a b c fault.BadLength events keeps decoded none late read is = absurd is
piece_refused s t a b c fault.Layout events keeps decoded none late read is = absurd is
piece_refused s t a b c (fault.Unreadable cause) events keeps decoded none late read is = absurd is
piece_refused s t a b c (fault.Unasked e) events keeps decoded none late read is = absurd is

-- what was taken off, at the arm's own value
pub record TakenOff (s t : Streams) (x : Off) : Type 0 where
  pub passes : (l : LinkView) → PassesOn s t l l [] (HandedOff (Ok x))
  pub ends : OffEnds s t (Ok x)

pub taken_off : (s t : Streams) (x y : Off) → y ≡ x → ((l : LinkView) → PassesOn s t l l [] (HandedOff (Ok y))) → OffEnds s t (Ok y) → TakenOff s t x
taken_off s t x y is passes ends = subst (TakenOff s t) is (record { passes = passes; ends = ends })

-- a link that gave and gives nothing
abbrev pub any_link : LinkView
any_link = record {
  given = Some [];
  taken = None;
  plan = None;
  course = None;
  due = None;
  steady = false;
  promised = false;
  flushed = false;
  shut = false;
  faults = 0;
  quiet = 0;
  dry = 0;
  blocked = 0;
  lulls = 0;
  ends = 0;
}

-- no byte is read where the link is as it was
pub given_same : (s t : Streams) (es : List Event) (hs : List RawMessage) → Passes s t any_link any_link es hs → t.given ≡ s.given
given_same s t es hs passes =
    let none : passes.got ≡ [] = cc passes.given in
    omega (arith, passes.count, ap length none)

-- the same with the calls of the hub
pub given_in : {H : Type 0} (becomes : H → List Event → H → Type 0) (h i : H) (s t : Streams) (F : List Event → Type 0) →
    Goes becomes h i s t any_link any_link [] F → t.given ≡ s.given
given_in becomes h i s t F goes = given_same s t goes.events [] goes.passes

-- the same where something may have been handed out
pub given_of : {H : Type 0} (becomes : H → List Event → H → Type 0) (h i : H) (s t : Streams) (W : List RawMessage → Type 0) (F : List Event → Type 0) →
    Hands becomes h i s t any_link any_link W F → t.given ≡ s.given
given_of becomes h i s t W F hands = given_same s t hands.goes.events hands.handed hands.goes.passes

-- what came off where the link is as it was, and no message was lost
pub came_before : (s t : Streams) (es : List Event) (hs : List RawMessage) → Passes s t any_link any_link es hs → t.unread ≡ None → CameBefore s t
came_before s t es hs p unread =
    let none : p.got ≡ [] = cc p.given in (
      p.read,
      ap messages (sym (append-nil s.buffer.items) ∙ ap (λ (x : List ℕ). s.buffer.items ++ x) (sym none)) ∙ p.came_off
          ∙ ap (λ (x : List RawMessage). p.read ++ (x ++ messages t.buffer.items)) (none_lost t.unread p.lost unread p.unread),
    )

-- it went on
pub went_on : {H : Type 0} (becomes : H → List Event → H → Type 0) (h i : H) (s t : Streams) (l m : LinkView) (x : Option Step) → x ≡ None →
    Hands becomes h i s t l m (HandedIn (Ok x)) (PassEnds s t (Ok x)) → Goes becomes h i s t l m [] (PassEnds s t (Ok None))
went_on becomes h i s t l m x is hands =
    no_hands becomes h i s t l m (PassEnds s t (Ok None))
    (subst (λ (y : Option Step). Hands becomes h i s t l m (HandedIn (Ok y)) (PassEnds s t (Ok y))) is hands)

-- it stopped, at the arm's own value
pub stopped : {H : Type 0} (becomes : H → List Event → H → Type 0) (h i : H) (s t : Streams) (l m : LinkView) (x : Option Step) (y : Step) → x ≡ Some y →
    Hands becomes h i s t l m (HandedIn (Ok x)) (PassEnds s t (Ok x)) → Hands becomes h i s t l m (HandedIn (Ok (Some y))) (PassEnds s t (Ok (Some y)))
stopped becomes h i s t l m x y is hands = subst (λ (z : Option Step). Hands becomes h i s t l m (HandedIn (Ok z)) (PassEnds s t (Ok z))) is hands

-- where passing on stopped, at the arm's own value
pub settled : {H : Type 0} (becomes : H → List Event → H → Type 0) (h i : H) (s t : Streams) (l m : LinkView) (x y : Step) → y ≡ x →
    Hands becomes h i s t l m (HandedAll (Ok y)) (AllEnds s t (Ok y)) → Hands becomes h i s t l m (HandedAll (Ok x)) (AllEnds s t (Ok x))
settled becomes h i s t l m x y is hands = subst (λ (z : Step). Hands becomes h i s t l m (HandedAll (Ok z)) (AllEnds s t (Ok z))) is hands

-- nothing more is buffered
pub record Idle (s t : Streams) : Type 0 where
  pub decoded : AllDecoded t
  pub held : t.held ≡ None
  pub given : t.given ≡ s.given
  pub limit : t.max_bytes ≡ s.max_bytes

pub idle : {H : Type 0} (becomes : H → List Event → H → Type 0) (h i : H) (s t : Streams) (x : Step) → x ≡ step.Nothing →
    Hands becomes h i s t any_link any_link (HandedAll (Ok x)) (AllEnds s t (Ok x)) → Idle s t
idle becomes h i s t x is hands =
    let end = (settled becomes h i s t any_link any_link step.Nothing x is hands).goes.ended in
    record { decoded = end.0; held = end.1; given = given_same s t hands.goes.events hands.handed hands.goes.passes; limit = hands.goes.passes.limit }

-- the same, over the link, where nothing was handed out and no mailbox was full
pub idle_goes : {H : Type 0} (becomes : H → List Event → H → Type 0) (h i : H) (s t : Streams) (l m : LinkView) (x : Step) → x ≡ step.Nothing →
    Hands becomes h i s t l m (HandedAll (Ok x)) (AllEnds s t (Ok x)) → Goes becomes h i s t l m [] NoneFull
idle_goes becomes h i s t l m x is hands =
    let goes = no_hands becomes h i s t l m (AllEnds s t (Ok step.Nothing)) (settled becomes h i s t l m step.Nothing x is hands) in
    record { events = goes.events; calls = goes.calls; became = goes.became; passes = goes.passes; ended = goes.ended.2 }

pub dry_later : (moved : Bool) (a b c : LinkView) → Keeps a b → (moved ≡ false → Untouched a b) → WasDry moved b c → WasDry moved a c
dry_later moved a b c keeps still was = record {
  rose = rose_later a.dry b.dry c.dry keeps.counts.dry was.rose;
  quiet = rose_later a.quiet b.quiet c.quiet keeps.counts.quiet was.quiet;
  nothing_due = λ steady. was.nothing_due (keeps.steady steady);
  empty = λ steady. was.empty (keeps.steady steady);
  lulls = λ none promised. rose_later a.lulls b.lulls c.lulls keeps.counts.lulls (was.lulls none (promised_still a b (still none) promised));
}

-- where nothing moved up to the end of later calls, the link is untouched behind the earlier ones
pub untouched_first : (a b c : Streams) (l m n : LinkView) (es fs : List Event) (hs js : List RawMessage) →
    Passes a b l m es hs → Passes b c m n fs js → c.moved ≡ false → Untouched l m
untouched_first a b c l m n es fs hs js p q none = p.still (unmoved_before b.moved c.moved _ q.moved none)

-- no delayed notice is left unread where none is delayed
never_late : {P : Type 0} (t : Streams) (c : Cause) → t.delayed.items ≡ [] → LeavesDelayed t c → P
never_late t c none late = let no : ◌≡◌ {A = List ErrorResponseBody} [] (late.notice ∷ late.others) = sym none ∙ late.first in cc

-- how the step ended doesn't depend on the events before, where no notice is delayed
pub ends_behind : (t : Streams) (a b : LinkView) (r : Result ReadEnd ConnectionFault) (es fs : List Event) → t.delayed.items ≡ [] → ReadEnds t a b r fs → ReadEnds t a b r (es ++ fs)
ends_behind t a b (Ok (ending.Handed message)) es fs none is = tt
ends_behind t a b (Ok ending.Full) es fs none is = (full_behind t es fs is.0, is.1)
ends_behind t a b (Ok ending.Dry) es fs none is = is
ends_behind t a b (Err (fault.Unasked e)) es fs none is = (unasked_behind t e es fs is.0, is.1)
ends_behind t a b (Err fault.Link) es fs none is = is
ends_behind t a b (Err fault.Closed) es fs none is = is
ends_behind t a b (Err fault.Ended) es fs none is = is
ends_behind t a b (Err fault.BadLength) es fs none is = is
ends_behind t a b (Err fault.Layout) es fs none is = is
ends_behind t a b (Err (fault.Unreadable c)) es fs none (inl is) = inl is
ends_behind t a b (Err (fault.Unreadable c)) es fs none (inr is) = never_late t c none is.0
ends_behind t a b (Err (fault.LimitReached given most)) es fs none is = is
ends_behind t a b (Err fault.OutOfMemory) es fs none is = tt

pub late_refused : (t : Streams) (a b : LinkView) (e : ConnectionFault) → RefusesFirst t e → ReadEnds t a b (Err e) []
late_refused t a b (fault.Unreadable c) is = inr (is, refl)
late_refused t a b fault.OutOfMemory is = tt
late_refused t a b fault.BadLength is = absurd is
late_refused t a b fault.Layout is = absurd is
late_refused t a b (fault.Unasked e) is = absurd is
late_refused t a b fault.Link is = absurd is
late_refused t a b fault.Closed is = absurd is
late_refused t a b fault.Ended is = absurd is
late_refused t a b (fault.LimitReached given most) is = absurd is
