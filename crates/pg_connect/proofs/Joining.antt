-- What passed in some calls, and then in others, passed in all of them.
use Rattle.std.proofs.Common.{◌≡◌, ℕ, ◌+◌, ◌≤◌, Bool, true, false, not, ◌||◌, ◌&&◌, IsTrue, List, [], ◌∷◌, ◌++◌, length, Option, Some, None, option_map, Err, refl, sym, ap, subst, ◌∙◌, arith, append_assoc, length-append, inl, inr}
use Rattle.std.specs.List.{list_all, list_any}
use Rattle.std.proofs.lemmas.List.{append-nil}
use Rattle.std.proofs.lemmas.List.Elements.{filter-append, filter_map-append}
use Rattle.std.proofs.lemmas.List.Folds.{list_all-append, list_any-append}
use Rattle.std.proofs.lemmas.List.Sums.{fold-append}
use Rattle.pg_spec.specs.Batches.{is_nothing}
use Rattle.pg_spec.specs.Asides.{is_readable}
use Rattle.pg_spec.specs.Frames.{terminate_frame}
use Rattle.pg_spec.specs.Links.{LinkView, Grew, Rose}
use Rattle.pg_spec.specs.Parameters.{parameter_reports}
use Rattle.pg_spec.specs.RawMessages.{RawMessage, messages, bytes_left, sync_of, async_of}
use Rattle.pg_spec.proofs.MessageLaws.{messages-append, bytes_left-append}
use Rattle.pg_wire.specs.LinkCalls.{Keeps}
use Rattle.pg_wire.proofs.KeepLaws.{keeps-same, keeps-then}
use Rattle.pg_wire.specs.declared.message.Message.{Message}
use Rattle.pg_desk.specs.declared.event.DeskFault.{DeskFault}
use Rattle.pg_desk.specs.declared.event.DeskFault.TheVariants as desk
use Rattle.pg_desk.specs.declared.event.Event.{Event}
use Rattle.pg_desk.specs.declared.event.Event.TheVariants.{NextOut}
use Rattle.pg_desk.specs.declared.event.Out.{Out}
use Rattle.pg_desk.specs.Answers.{NotEncode}
use Rattle.pg_connect.specs.declared.fault.ConnectionFault.{ConnectionFault}
use Rattle.pg_connect.specs.declared.fault.ConnectionFault.TheVariants as fault
use Rattle.pg_connect.specs.declared.streams.Streams.{Streams}
use Rattle.pg_connect.specs.Faults.{of_desk}
use Rattle.pg_connect.specs.Kept.{keep, keep_all}
use Rattle.pg_connect.specs.Passed.{AllEngineCalls, delivered_in, delivered_by, bytes_out_in, bytes_out_by, moves_in}
use Rattle.pg_connect.specs.Passes.{Passes, Goes, HoldsLast, Untouched, waiting, delayed_in, IsUnread, goodbye, moves, risen}
use Rattle.pg_connect.specs.Ends.{WasBlocked, last_is, is_closed_out, OfferEnds, PartsEnds}
use Rattle.pg_connect.proofs.LastParts.{rest-then}

-- ---- lists

-- what one call leaves the next one goes on with
pub relay : {X : Type 0} (a p b c q d e : List X) → a ++ p ≡ b ++ c → c ++ q ≡ d ++ e → a ++ (p ++ q) ≡ (b ++ d) ++ e
relay a p b c q d e first then =
    sym (append_assoc a p q) ∙ ap (λ x. x ++ q) first ∙ append_assoc b c q ∙ ap (λ x. b ++ x) then ∙ sym (append_assoc b d e)

pub delivered_by-append : (es fs : List Event) → delivered_by (es ++ fs) ≡ delivered_by es ++ delivered_by fs
delivered_by-append [] fs = refl
delivered_by-append (e ∷ es) fs = ap (λ x. delivered_in e ++ x) (delivered_by-append es fs) ∙ sym (append_assoc (delivered_in e) (delivered_by es) (delivered_by fs))

pub bytes_out_by-append : (es fs : List Event) → bytes_out_by (es ++ fs) ≡ bytes_out_by es ++ bytes_out_by fs
bytes_out_by-append [] fs = refl
bytes_out_by-append (e ∷ es) fs = ap (λ x. bytes_out_in e ++ x) (bytes_out_by-append es fs) ∙ sym (append_assoc (bytes_out_in e) (bytes_out_by es) (bytes_out_by fs))

-- ---- the link

pub keeps_same : (l : LinkView) → Keeps l l
keeps_same l = keeps-same l

pub keeps_then : (a b c : LinkView) → Keeps a b → Keeps b c → Keeps a c
keeps_then a b c first then = keeps-then a b c first then

pub untouched_same : (l : LinkView) → Untouched l l
untouched_same l = record { bytes = record { given = refl; taken = refl; due = refl }; promised = refl }

pub untouched_then : (a b c : LinkView) → Untouched a b → Untouched b c → Untouched a c
untouched_then a b c h k = record {
  bytes = record { given = k.bytes.given ∙ h.bytes.given; taken = k.bytes.taken ∙ h.bytes.taken; due = k.bytes.due ∙ h.bytes.due };
  promised = k.promised ∙ h.promised;
}

-- a link that was promised still is
pub promised_still : (a b : LinkView) → Untouched a b → IsTrue a.promised → IsTrue b.promised
promised_still a b h is = h.promised ∙ is

pub grew_none : (o : Option (List ℕ)) → Grew o o []
grew_none None = refl
grew_none (Some told) = ap (λ x. Some x) (sym (append-nil told))

pub grew_same : (o p : Option (List ℕ)) → p ≡ o → Grew o p []
grew_same o p same = subst (λ (x : Option (List ℕ)). Grew o x []) (sym same) (grew_none o)

grew_twice : (o : Option (List ℕ)) (p q : List ℕ) →
    option_map (λ told. told ++ q) (option_map (λ told. told ++ p) o) ≡ option_map (λ told. told ++ (p ++ q)) o
grew_twice None p q = refl
grew_twice (Some told) p q = ap (λ x. Some x) (append_assoc told p q)

pub grew_then : (a b c : Option (List ℕ)) (p q : List ℕ) → Grew a b p → Grew b c q → Grew a c (p ++ q)
grew_then a b c p q first then = then ∙ ap (option_map (λ told. told ++ q)) first ∙ grew_twice a p q

-- a count that rose in a later call rose in both, and so did one that rose in an earlier call
pub rose_later : (a b c : ℕ) → a ≤ b → Rose b c → Rose a c
rose_later a b c up rose = omega arith

pub rose_before : (a b c : ℕ) → Rose a b → b ≤ c → Rose a c
rose_before a b c rose up = omega arith

-- the end was given in the first calls or in the others
ends_then : (o p : Bool) (a b c : ℕ) → (o ≡ true → Rose a b) → (p ≡ true → Rose b c) → a ≤ b → b ≤ c → (o || p) ≡ true → Rose a c
ends_then true p a b c first then up more is = rose_before a b c (first refl) more
ends_then false p a b c first then up more is = rose_later a b c up (then is)

-- ---- messages and bytes

pub came_off_then : (x y g h : List ℕ) (r s z : List RawMessage) → messages (x ++ g) ≡ r ++ messages y → bytes_left (x ++ g) ≡ bytes_left y →
    messages (y ++ h) ≡ s ++ z → messages (x ++ (g ++ h)) ≡ (r ++ s) ++ z
came_off_then x y g h r s z first rest then =
    ap messages (sym (append_assoc x g h)) ∙ messages-append (x ++ g) h
    ∙ ap (λ (l : List RawMessage). l ++ messages (bytes_left (x ++ g) ++ h)) first
    ∙ ap (λ (l : List ℕ). (r ++ messages y) ++ messages (l ++ h)) rest
    ∙ append_assoc r (messages y) (messages (bytes_left y ++ h))
    ∙ ap (λ (l : List RawMessage). r ++ l) (sym (messages-append y h) ∙ then)
    ∙ sym (append_assoc r s z)

pub rest_then : (x y z g h : List ℕ) → bytes_left (x ++ g) ≡ bytes_left y → bytes_left (y ++ h) ≡ bytes_left z → bytes_left (x ++ (g ++ h)) ≡ bytes_left z
rest_then x y z g h first then =
    ap bytes_left (sym (append_assoc x g h)) ∙ bytes_left-append (x ++ g) h ∙ ap (λ (l : List ℕ). bytes_left (l ++ h)) first
    ∙ sym (bytes_left-append y h) ∙ then

-- where the connection went on, no message was lost
pub none_lost : (o : Option Message) (lost : List RawMessage) → o ≡ None → IsUnread o lost → lost ≡ []
none_lost o lost none is = subst (λ (x : Option Message). IsUnread x lost) none is

-- ---- what goes out

pub goodbye_same : (c : Bool) → goodbye c c ≡ []
goodbye_same true = refl
goodbye_same false = refl

out_before : (u o s v p t w g : List ℕ) → (u ++ o) ++ [] ≡ s ++ v → (v ++ p) ++ g ≡ t ++ w → (u ++ (o ++ p)) ++ g ≡ (s ++ t) ++ w
out_before u o s v p t w g first then =
    ap (λ x. x ++ g) (sym (append_assoc u o p)) ∙ append_assoc (u ++ o) p g
    ∙ relay (u ++ o) [] s v (p ++ g) t w first (sym (append_assoc v p g) ∙ then)

out_after : (u o s v p t w g : List ℕ) → p ≡ [] → (u ++ o) ++ g ≡ s ++ v → (v ++ p) ++ [] ≡ t ++ w → (u ++ (o ++ p)) ++ g ≡ (s ++ t) ++ w
out_after u o s v p t w g none first then =
    ap (λ x. (u ++ (o ++ x)) ++ g) none ∙ ap (λ x. (u ++ x) ++ g) (append-nil o) ∙ sym (append-nil ((u ++ o) ++ g)) ∙ append_assoc (u ++ o) g []
    ∙ relay (u ++ o) g s v [] t w first (sym (ap (λ x. (v ++ x) ++ []) none ∙ append-nil (v ++ [])) ∙ then)

pub out_then : (c d e : Bool) (u o s v p t w : List ℕ) → (IsTrue c → IsTrue d) → (IsTrue d → IsTrue e) → (IsTrue d → p ≡ []) →
    (u ++ o) ++ goodbye c d ≡ s ++ v → (v ++ p) ++ goodbye d e ≡ t ++ w → (u ++ (o ++ p)) ++ goodbye c e ≡ (s ++ t) ++ w
out_then true true true u o s v p t w st su none first then = out_after u o s v p t w [] (none refl) first then
out_then false true true u o s v p t w st su none first then = out_after u o s v p t w terminate_frame (none refl) first then
out_then false false e u o s v p t w st su none first then = out_before u o s v p t w (goodbye false e) first then
out_then true false e u o s v p t w st su none first then = let no : false ≡ true = st refl in cc
out_then c true false u o s v p t w st su none first then = let no : false ≡ true = su refl in cc

-- ---- what moved

is_nothing-append : {X : Type 0} (xs ys : List X) → is_nothing (xs ++ ys) ≡ (is_nothing xs && is_nothing ys)
is_nothing-append [] ys = refl
is_nothing-append (x ∷ xs) ys = refl

not_and : (a b : Bool) → not (a && b) ≡ (not a || not b)
not_and true b = refl
not_and false b = refl

some-append : {X : Type 0} (xs ys : List X) → not (is_nothing (xs ++ ys)) ≡ (not (is_nothing xs) || not (is_nothing ys))
some-append xs ys = ap not (is_nothing-append xs ys) ∙ not_and (is_nothing xs) (is_nothing ys)

or_four : (a b c d e f g h : Bool) → (((a || e) || (b || f)) || ((c || g) || (d || h))) ≡ (((a || b) || (c || d)) || ((e || f) || (g || h)))
or_four true b c d e f g h = refl
or_four false true c d true f g h = refl
or_four false true c d false f g h = refl
or_four false false true d true f g h = refl
or_four false false true d false true g h = refl
or_four false false true d false false g h = refl
or_four false false false true true f g h = refl
or_four false false false true false true g h = refl
or_four false false false true false false true h = refl
or_four false false false true false false false h = refl
or_four false false false false e f g h = refl

moves-append : (g i s t : List ℕ) (hs js : List RawMessage) (es fs : List Event) →
    moves (g ++ i) (s ++ t) (hs ++ js) (es ++ fs) ≡ (moves g s hs es || moves i t js fs)
moves-append g i s t hs js es fs =
    ap (λ (x : Bool). (x || not (is_nothing (s ++ t))) || (not (is_nothing (hs ++ js)) || list_any moves_in (es ++ fs))) (some-append g i)
    ∙ ap (λ (x : Bool). ((not (is_nothing g) || not (is_nothing i)) || x) || (not (is_nothing (hs ++ js)) || list_any moves_in (es ++ fs))) (some-append s t)
    ∙ ap (λ (x : Bool). ((not (is_nothing g) || not (is_nothing i)) || (not (is_nothing s) || not (is_nothing t))) || (x || list_any moves_in (es ++ fs))) (some-append hs js)
    ∙ ap (λ (x : Bool). ((not (is_nothing g) || not (is_nothing i)) || (not (is_nothing s) || not (is_nothing t))) || ((not (is_nothing hs) || not (is_nothing js)) || x)) (list_any-append moves_in es fs)
    ∙ or_four (not (is_nothing g)) (not (is_nothing s)) (not (is_nothing hs)) (list_any moves_in es) (not (is_nothing i)) (not (is_nothing t)) (not (is_nothing js)) (list_any moves_in fs)

or_moved : (a m o n p : Bool) → ((a || (m || o)) || (n || p)) ≡ (a || ((m || n) || (o || p)))
or_moved true m o n p = refl
or_moved false true o n p = refl
or_moved false false true true p = refl
or_moved false false true false p = refl
or_moved false false false n p = refl

moved_then : (a b c m o n p q : Bool) → b ≡ (a || (m || o)) → c ≡ (b || (n || p)) → q ≡ (m || n) → c ≡ (a || (q || (o || p)))
moved_then a b c m o n p q first then both =
    then ∙ ap (λ (x : Bool). x || (n || p)) first ∙ or_moved a m o n p ∙ ap (λ (x : Bool). a || (x || (o || p))) (sym both)

ended_then : (a b c o p : Bool) → b ≡ (a || o) → c ≡ (b || p) → c ≡ (a || (o || p))
ended_then true b c o p first then = then ∙ ap (λ (x : Bool). x || p) first
ended_then false b c o p first then = then ∙ ap (λ (x : Bool). x || p) first

-- what had moved before a call has moved behind it
pub unmoved_before : (a b m : Bool) → b ≡ (a || m) → b ≡ false → a ≡ false
unmoved_before true b m is none = let no : true ≡ false = sym is ∙ none in cc
unmoved_before false b m is none = refl

pub risen_then : (a b c x y z : ℕ) → b ≡ risen a x → c ≡ risen b y → z ≡ x + y → c ≡ risen a z
risen_then a b c x y z first then both = omega arith

-- ---- what can be read

both_true : (a b : Bool) → a ≡ true → b ≡ true → (a && b) ≡ true
both_true true b one other = other
both_true false b one other = absurd cc

-- what holds of all in two lists
pub all_then : {X : Type 0} (p : X → Bool) (xs ys : List X) → list_all p xs ≡ true → list_all p ys ≡ true → list_all p (xs ++ ys) ≡ true
all_then p xs ys first then = list_all-append p xs ys ∙ both_true (list_all p xs) (list_all p ys) first then

-- ---- what is held

holds_then : (u v w r s : List RawMessage) → HoldsLast u v r → HoldsLast v w s → HoldsLast u w (r ++ s)
holds_then u v w r s (inl first) (inl then) = inl (then.0 ∙ first.0, ap (λ (x : List RawMessage). x ++ s) first.1 ∙ then.1)
holds_then u v w r s (inr first) (inl then) =
    inr (first.0, ap (λ (x : List RawMessage). r ++ x) then.1 ∙ append-nil r ∙ first.1 ∙ ap (λ (x : List RawMessage). first.0 ++ x) (sym then.0))
holds_then u v w r s first (inr then) = inr (r ++ then.0, ap (λ (x : List RawMessage). r ++ x) then.1 ∙ sym (append_assoc r then.0 w))

-- ---- all together

pub passes-joined : (a b c : Streams) (l m n : LinkView) (es fs : List Event) (hs js : List RawMessage) →
    Passes a b l m es hs → Passes b c m n fs js → Passes a c l n (es ++ fs) (hs ++ js)
passes-joined a b c l m n es fs hs js p q = record {
  got = p.got ++ q.got;
  sent = p.sent ++ q.sent;
  read = p.read ++ q.read;
  lost = q.lost;
  over = p.over || q.over;
  given = grew_then l.given m.given n.given p.got q.got p.given q.given;
  taken = grew_then l.taken m.taken n.taken p.sent q.sent p.taken q.taken;
  came_off = came_off_then a.buffer.items b.buffer.items p.got q.got p.read q.read (q.lost ++ messages c.buffer.items)
      (p.came_off ∙ ap (λ (x : List RawMessage). p.read ++ (x ++ messages b.buffer.items)) (none_lost b.unread p.lost q.all_read p.unread)) p.rest q.came_off;
  rest = rest_then a.buffer.items b.buffer.items c.buffer.items p.got q.got p.rest q.rest;
  all_read = p.all_read;
  unread = q.unread;
  readable = all_then is_readable p.read q.read p.readable q.readable;
  delivered = ap (λ x. waiting a.held ++ x) (filter-append _ p.read q.read)
      ∙ relay (waiting a.held) (sync_of p.read) (delivered_by es) (waiting b.held) (sync_of q.read) (delivered_by fs) (waiting c.held) p.delivered q.delivered
      ∙ ap (λ x. x ++ waiting c.held) (sym (delivered_by-append es fs));
  held_last = subst (λ (x : List RawMessage). HoldsLast (waiting a.held) (waiting c.held) x) (sym (append_assoc p.read q.read q.lost))
      (holds_then (waiting a.held) (waiting b.held) (waiting c.held) p.read (q.read ++ q.lost)
      (subst (λ (x : List RawMessage). HoldsLast (waiting a.held) (waiting b.held) x)
      (ap (λ (x : List RawMessage). p.read ++ x) (none_lost b.unread p.lost q.all_read p.unread) ∙ append-nil p.read) p.held_last)
      q.held_last);
  handed_out = ap (λ x. delayed_in a ++ x) (filter-append _ p.read q.read)
      ∙ relay (delayed_in a) (async_of p.read) hs (delayed_in b) (async_of q.read) js (delayed_in c) p.handed_out q.handed_out;
  kept = q.kept ∙ ap (λ x. keep_all x (parameter_reports q.read)) p.kept
      ∙ sym (fold-append keep a.parameters (parameter_reports p.read) (parameter_reports q.read))
      ∙ ap (keep_all a.parameters) (sym (filter_map-append _ p.read q.read));
  out = ap (λ x. (a.unsent ++ x) ++ goodbye a.closing c.closing) (bytes_out_by-append es fs)
      ∙ out_then a.closing b.closing c.closing a.unsent (bytes_out_by es) p.sent b.unsent (bytes_out_by fs) q.sent c.unsent
      p.still_closing q.still_closing (λ x. q.nothing_more x) p.out q.out;
  one_part = rest-then a.closing b.closing c.closing a.unsent b.unsent c.unsent es fs p.still_closing q.still_closing q.nothing_more p.one_part q.one_part;
  still_closing = λ x. q.still_closing (p.still_closing x);
  nothing_more = λ x. bytes_out_by-append es fs ∙ ap (λ y. y ++ bytes_out_by fs) (p.nothing_more x) ∙ q.nothing_more (p.still_closing x);
  count = omega (arith, p.count, q.count, length-append p.got q.got);
  delivered_count = risen_then a.delivered b.delivered c.delivered (length (delivered_by es)) (length (delivered_by fs)) _ p.delivered_count q.delivered_count
      (ap length (delivered_by-append es fs) ∙ length-append (delivered_by es) (delivered_by fs));
  limit = q.limit ∙ p.limit;
  flag = q.flag ∙ p.flag;
  moved = moved_then a.moved b.moved c.moved (moves p.got p.sent hs es) p.over (moves q.got q.sent js fs) q.over _ p.moved q.moved
      (moves-append p.got q.got p.sent q.sent hs js es fs);
  at_end = ended_then a.at_end b.at_end c.at_end p.over q.over p.at_end q.at_end;
  ended_there = λ is. ends_then p.over q.over l.ends m.ends n.ends p.ended_there q.ended_there p.link.counts.ends q.link.counts.ends is;
  still = λ none. untouched_then l m n (p.still (unmoved_before b.moved c.moved _ q.moved none)) (q.still none);
  link = keeps_then l m n p.link q.link;
}

-- what was given in both
pub joined-got : (a b c : Streams) (l m n : LinkView) (es fs : List Event) (hs js : List RawMessage) (p : Passes a b l m es hs) (q : Passes b c m n fs js) →
    (passes-joined a b c l m n es fs hs js p q).got ≡ p.got ++ q.got
unfolding passes-joined
joined-got a b c l m n es fs hs js p q = refl

-- ---- with the events of the hub

pub calls-then : (es fs : List Event) → AllEngineCalls es → AllEngineCalls fs → AllEngineCalls (es ++ fs)
calls-then [] fs first more = more
calls-then (e ∷ es) fs first more = (first.0, calls-then es fs first.1 more)

pub goes-then : {H : Type 0} (becomes : H → List Event → H → Type 0)
    (joins : (a b c : H) (es fs : List Event) → becomes a es b → becomes b fs c → becomes a (es ++ fs) c)
    (h i k : H) (a b c : Streams) (l m n : LinkView) (hs js : List RawMessage) (fs : List Event) (E F : List Event → Type 0) →
    Goes becomes h i a b l m hs E → AllEngineCalls fs → becomes i fs k → Passes b c m n fs js → ((es : List Event) → E es → F (es ++ fs)) →
    Goes becomes h k a c l n (hs ++ js) F
goes-then becomes joins h i k a b c l m n hs js fs E F first calls became passes ends = record {
  events = first.events ++ fs;
  calls = calls-then first.events fs first.calls calls;
  became = joins h i k first.events fs first.became became;
  passes = passes-joined a b c l m n first.events fs hs js first.passes passes;
  ended = ends first.events first.ended;
}

-- no event
pub goes-also : {H : Type 0} (becomes : H → List Event → H → Type 0) (h i : H) (a b c : Streams) (l m n : LinkView)
    (hs js : List RawMessage) (E F : List Event → Type 0) →
    Goes becomes h i a b l m hs E → Passes b c m n [] js → ((es : List Event) → E es → F es) → Goes becomes h i a c l n (hs ++ js) F
goes-also becomes h i a b c l m n hs js E F first passes ends = record {
  events = first.events;
  calls = first.calls;
  became = first.became;
  passes = subst (λ (x : List Event). Passes a c l n x (hs ++ js)) (append-nil first.events) (passes-joined a b c l m n first.events [] hs js first.passes passes);
  ended = ends first.events first.ended;
}

pub last_of : (p : Event → Bool) (es : List Event) (e : Event) → last_is p (es ++ e ∷ []) ≡ p e
last_of p [] e = refl
last_of p (x ∷ []) e = refl
last_of p (x ∷ y ∷ es) e = last_of p (y ∷ es) e

pub blocked_later : (moved : Bool) (a b c : LinkView) → Keeps a b → (moved ≡ false → Untouched a b) → WasBlocked moved b c → WasBlocked moved a c
blocked_later moved a b c keeps still was = record {
  rose = rose_later a.blocked b.blocked c.blocked keeps.counts.blocked was.rose;
  quiet = rose_later a.quiet b.quiet c.quiet keeps.counts.quiet was.quiet;
  not_steady = λ steady. was.not_steady (keeps.steady steady);
  lulls = λ none promised. rose_later a.lulls b.lulls c.lulls keeps.counts.lulls (was.lulls none (promised_still a b (still none) promised));
}

pub parts_refused : (s : Streams) (a b c : LinkView) (e : ConnectionFault) (events : List Event) → Keeps a b → OfferEnds s b c (Err e) → PartsEnds s a c (Err e) events
parts_refused s a b c fault.Link events keeps was = rose_later a.faults b.faults c.faults keeps.counts.faults was
parts_refused s a b c fault.OutOfMemory events keeps was = tt
parts_refused s a b c _ events keeps was = absurd was

pub parts_closed : (s : Streams) (a c : LinkView) (f : DeskFault) (es : List Event) → NotEncode {T = Out} (Err f) →
    PartsEnds s a c (Err (of_desk f)) (es ++ NextOut (Err f) ∷ [])
parts_closed s a c desk.Closed es never = last_of is_closed_out es (NextOut (Err desk.Closed))
parts_closed s a c desk.OutOfMemory es never = tt
parts_closed s a c desk.Encode es never = absurd never
