-- A read step and then the write and flush steps, as one turn.
use Rattle.std.proofs.Common.{◌≡◌, ℕ, Bool, true, false, not, ◌||◌, List, [], ◌∷◌, ◌++◌, Option, None, Result, Ok, Err, refl, sym, ap, subst, ◌∙◌, inl, inr, ◌⊎◌}
use Rattle.std.specs.Prelude.{IfSome, OnOk}
use Rattle.std.proofs.lemmas.List.{append-nil}
use Rattle.pg_spec.specs.Links.{LinkView, Plan, due_by}
use Rattle.pg_spec.specs.RawMessages.{RawMessage}
use Rattle.pg_wire.specs.LinkCalls.{Keeps}
use Rattle.pg_desk.specs.declared.event.Event.{Event}
use Rattle.pg_errors.specs.declared.async_message.AsyncMessage.{AsyncMessage}
use Rattle.pg_connect.specs.declared.fault.ConnectionFault.{ConnectionFault}
use Rattle.pg_connect.specs.declared.fault.ConnectionFault.TheVariants as fault
use Rattle.pg_connect.specs.declared.ends.FlushEnd.{FlushEnd}
use Rattle.pg_connect.specs.declared.ends.FlushEnd.TheVariants as flushing
use Rattle.pg_connect.specs.declared.ends.ReadEnd.{ReadEnd}
use Rattle.pg_connect.specs.declared.ends.ReadEnd.TheVariants as ending
use Rattle.pg_connect.specs.declared.ends.SendEnd.{SendEnd}
use Rattle.pg_connect.specs.declared.ends.SendEnd.TheVariants as sending
use Rattle.pg_connect.specs.declared.ends.TurnEnd.{TurnEnd}
use Rattle.pg_connect.specs.declared.ends.TurnEnd.TheVariants as turn
use Rattle.pg_connect.specs.declared.ends.WriteEnd.{WriteEnd}
use Rattle.pg_connect.specs.declared.ends.WriteEnd.TheVariants as writes
use Rattle.pg_connect.specs.declared.streams.Held.{Held}
use Rattle.pg_connect.specs.declared.streams.Streams.{Streams}
use Rattle.pg_connect.specs.Passes.{Passes, Goes, OnlyReads, OnlySends, Untouched, waiting}
use Rattle.pg_connect.specs.Ends.{IsFlushedFrom, WasBlocked, last_is, some_is, has_no_more, Closes, Written, WriteEnds}
use Rattle.pg_connect.specs.Reads.{EndsAt, ReadsOn, ReadStops, StopsAt, ReadEnds, LastGivesBack, NothingDue, WasDry, AllDecoded, IsCleared, HandedBy, is_full}
use Rattle.pg_connect.specs.Polls.{Shuts, SomeGivesBack, TurnStops, is_last_turn, is_over_sent, is_shut_down, ClosesThen, FlushEnds, SendEnds, Sends, StopsWriting, TurnEnds, TurnFails, ClosesBy, Turns, HandedTurn, Waits, WasDue, ReadDry, BeganToClose, NothingDueBefore}
use Rattle.pg_connect.proofs.Clearing.{still_cleared}
use Rattle.pg_connect.proofs.Joining.{calls-then, passes-joined, goes-also, rose_later, rose_before, blocked_later, unmoved_before}
use Rattle.pg_connect.proofs.Dues.{none_due, was_due}
use Rattle.pg_connect.proofs.Sends.{passes_nothing}
use Rattle.pg_connect.proofs.Pacing.{paced_later, paced_none, no_more, got_before, handed-as}
use Rattle.pg_connect.proofs.Parts.{Joins}
use Rattle.pg_connect.proofs.Passing.{last_behind, decoded_same, untouched_first}

-- ---- sending

on_any : {A E : Type 0} (r : Result A E) (P : Type 0) → P → OnOk r P
on_any (Ok x) P p = p
on_any (Err e) P p = tt

-- a write step that took all, and a flush step behind it
pub flushed : {H : Type 0} (becomes : H → List Event → H → Type 0) (h i : H) (s t : Streams) (l m n : LinkView) (may : Bool) (w : WriteEnd) (r : Result SendEnd ConnectionFault) →
    t.unread ≡ None → w ≡ writes.AllTaken → Goes becomes h i s t l m [] (Written s t l m may (Ok w)) → Untouched m n → Keeps m n → Shuts (is_over_sent r) l n →
    ((es : List Event) → Keeps l m → (t.moved ≡ false → Untouched l m) → WriteEnds t l m (Ok writes.AllTaken) es → SendEnds t l n r es) →
    Goes becomes h i s t l n [] (Sends s t l n may r)
flushed becomes h i s t l m n may w r read all goes same keeps shuts ends =
    goes-also becomes h i s t t l m n [] [] (Written s t l m may (Ok w)) (Sends s t l n may r) goes (passes_nothing t m n [] read same keeps refl refl refl refl)
    (λ es was. record {
      end = ends es goes.passes.link goes.passes.still (subst (λ (x : WriteEnd). WriteEnds t l m (Ok x) es) all was.end);
      shut = shuts;
      closes = was.closes;
      must = on_any r (ClosesThen t l n may es) (λ allowed none. inl (was.must (ap Ok all) allowed none));
    })

pub flush_blocked : (t : Streams) (l m n : LinkView) (closing : Bool) (f : FlushEnd) (es : List Event) → f ≡ flushing.Blocked → FlushEnds closing m n (Ok f) → Keeps l m →
    (t.moved ≡ false → Untouched l m) → SendEnds t l n (Ok sending.Waits) es
flush_blocked t l m n closing f es is ends keeps still =
    let was : WasBlocked false m n = subst (λ (x : FlushEnd). FlushEnds closing m n (Ok x)) is ends in
    let blocked : WasBlocked t.moved l n = blocked_later t.moved l m n keeps still (record { rose = was.rose; quiet = was.quiet; not_steady = was.not_steady; lulls = λ none. was.lulls refl }) in
    record { writing = inl blocked; closing = λ x. blocked }

not_both : (b : Bool) → b ≡ true → b ≡ false → ⊥
not_both b one other = let e : true ≡ false = sym one ∙ other in cc

pub flush_done : (t : Streams) (l m n : LinkView) (f : FlushEnd) (es : List Event) → f ≡ flushing.Flushed → FlushEnds t.closing m n (Ok f) → m.shut ≡ l.shut →
    WriteEnds t l m (Ok writes.AllTaken) es → SendEnds t l n (Ok sending.Waits) es
flush_done t l m n f es is ends same was =
    let done : (t.closing ≡ false) × IsFlushedFrom m n = subst (λ (x : FlushEnd). FlushEnds t.closing m n (Ok x)) is ends in
    record { writing = inr (was.0, was.1 done.0, λ open_. done.1 (same ∙ open_)); closing = λ x. absurd (not_both t.closing x done.0) }

pub flush_over : (t : Streams) (l m n : LinkView) (f : FlushEnd) (es : List Event) → f ≡ flushing.ShutDown → FlushEnds t.closing m n (Ok f) → m.shut ≡ l.shut →
    WriteEnds t l m (Ok writes.AllTaken) es → SendEnds t l n (Ok sending.Over) es
flush_over t l m n f es is ends same was =
    let done : (t.closing ≡ true) × IsFlushedFrom m n = subst (λ (x : FlushEnd). FlushEnds t.closing m n (Ok x)) is ends in
    (done.0, was.0, λ open_. done.1 (same ∙ open_))

-- what a flush step says of the shutdown, at the arm's own value, and what the whole sending says then
pub flush_shuts : (l m n : LinkView) (x y : FlushEnd) (r : Result SendEnd ConnectionFault) → y ≡ x → m.shut ≡ l.shut → is_shut_down (Ok x) ≡ is_over_sent r → Shuts (is_shut_down (Ok y)) m n → Shuts (is_over_sent r) l n
flush_shuts l m n x y r is same told shuts =
    subst (λ (b : Bool). Shuts b l n) (ap (λ (z : FlushEnd). is_shut_down (Ok z)) is ∙ told) (by (is_shut_down (Ok y)) shuts)
  where
    by : (b : Bool) → Shuts b m n → Shuts b l n
    by true shut = shut
    by false shut = shut ∙ same

pub flush_error : (t : Streams) (closing : Bool) (l m n : LinkView) (e : ConnectionFault) (events : List Event) → Keeps l m → FlushEnds closing m n (Err e) → SendEnds t l n (Err e) events
flush_error t closing l m n fault.Link events keeps is = rose_later l.faults m.faults n.faults keeps.counts.faults is
flush_error t closing l m n fault.Closed events keeps is = absurd is
flush_error t closing l m n fault.OutOfMemory events keeps is = absurd is
flush_error t closing l m n _ events keeps is = absurd is

-- ---- a turn

some_first : (a b : Bool) → a ≡ true → (a || b) ≡ true
some_first true b is = refl
some_first false b is = absurd cc

some_later : (a b : Bool) → b ≡ true → (a || b) ≡ true
some_later true b is = refl
some_later false b is = is

some_of_last : (p : Event → Bool) (es fs : List Event) → last_is p es ≡ true → some_is p (es ++ fs) ≡ true
some_of_last p [] fs is = absurd cc
some_of_last p (e ∷ []) fs is = some_first (p e) (some_is p fs) is
some_of_last p (e ∷ f ∷ es) fs is = some_later (p e) (some_is p ((f ∷ es) ++ fs)) (some_of_last p (f ∷ es) fs is)

back_of_last : (held : List RawMessage) (es fs : List Event) → LastGivesBack held es → SomeGivesBack held (es ++ fs)
back_of_last held [] fs is = absurd is
back_of_last held (e ∷ []) fs is = inl is
back_of_last held (e ∷ f ∷ es) fs is = inr (back_of_last held (f ∷ es) fs is)

-- by its parts: what the plan lets come was given
abbrev due : Option Plan → Option (List ℕ) → Option (List ℕ) → Type 0
due p g t = IfSome p (λ plan. IfSome g (λ given. IfSome t (λ taken. due_by plan given taken ≡ [])))

due_before : (l m n : LinkView) → m.taken ≡ l.taken → n.given ≡ m.given → n.plan ≡ m.plan → NothingDue m → NothingDueBefore l n
due_before l m n taken given plan is =
    subst (λ (t : Option (List ℕ)). due n.plan n.given t) taken
    (subst (λ (g : Option (List ℕ)). due n.plan g m.taken) (sym given)
    (subst (λ (p : Option Plan). due p m.given m.taken) (sym plan) is))

written_later : (t : Streams) (l m n : LinkView) (es fs : List Event) → Keeps l m → m.shut ≡ l.shut → (t.moved ≡ false → Untouched l m) → StopsWriting t m n fs →
    StopsWriting t l n (es ++ fs)
written_later t l m n es fs keeps same still was = elim was [
  | inl blocked ↦ inl (blocked_later t.moved l m n keeps still blocked)
  | inr none ↦ inr (none.0, last_behind _ es fs none.1, λ open_. none.2 (same ∙ open_))
]

-- what the read step says of the link, at the end of the turn
dry_turn : (s mid t : Streams) (l m n : LinkView) (fs : List Event) → Passes mid t m n fs [] → OnlyReads s mid l m → OnlySends mid t m n →
    WasDry mid.moved l m × AllDecoded mid × IsCleared mid → ReadDry t l n
dry_turn s mid t l m n fs more reads sends (dry, decoded, cleared) = record {
  rose = rose_before l.dry m.dry n.dry dry.rose more.link.counts.dry;
  quiet = rose_before l.quiet m.quiet n.quiet dry.quiet more.link.counts.quiet;
  decoded = decoded_same mid t sends.buffer decoded;
  cleared = still_cleared mid t m n sends cleared;
  nothing_due = λ steady. due_before l m n reads.taken sends.given more.link.plan (dry.nothing_due steady);
  empty = λ none steady. (more.still none).bytes.due ∙ dry.empty steady;
  lulls = λ none promised. rose_before l.lulls m.lulls n.lulls (dry.lulls (unmoved_before mid.moved t.moved _ more.moved none) promised) more.link.counts.lulls;
}

-- an active connection that may not close goes on so
stays_open : (s mid t : Streams) (fs : List Event) → s.closing ≡ false → mid.closing ≡ s.closing → Closes mid t false fs → t.closing ≡ false
stays_open s mid t fs active same closes = pick t.closing (λ x. never (closes x))
  where
    never : (mid.closing ≡ true) ⊎ ((false ≡ true) × (last_is has_no_more fs ≡ true)) → ⊥
    never (inl closing) = not_both mid.closing closing (same ∙ active)
    never (inr may) = let no : false ≡ true = may.0 in cc

    pick : (b : Bool) → (b ≡ true → ⊥) → b ≡ false
    pick true fails = absurd (fails refl)
    pick false fails = refl

not_full : (b : Bool) → b ≡ true → not b ≡ true → ⊥
not_full true full none = let no : false ≡ true = none in cc
not_full false full none = let no : false ≡ true = full in cc

last_there : (p q : Event → Bool) (es fs : List Event) → last_is q fs ≡ true → last_is p (es ++ fs) ≡ true → last_is p fs ≡ true
last_there p q es [] some is = absurd (let no : false ≡ true = some in cc)
last_there p q [] (f ∷ fs) some is = is
last_there p q (e ∷ []) (f ∷ fs) some is = is
last_there p q (e ∷ e2 ∷ es) (f ∷ fs) some is = last_there p q (e2 ∷ es) (f ∷ fs) some is

-- where it may close and nothing more will come, it does so, unless the link takes no more
must_close : (t : Streams) (l m n : LinkView) (es fs : List Event) → Keeps l m → (t.moved ≡ false → Untouched l m) → StopsWriting t m n fs →
    ClosesThen t m n true fs → last_is has_no_more (es ++ fs) ≡ true → (t.closing ≡ true) ⊎ WasBlocked t.moved l n
must_close t l m n es fs keeps still (inl blocked) must none = inr (blocked_later t.moved l m n keeps still blocked)
must_close t l m n es fs keeps still (inr all) must none = elim (must refl (last_there has_no_more _ es fs all.1 none)) [
  | inl closing ↦ inl closing
  | inr blocked ↦ inr (blocked_later t.moved l m n keeps still blocked)
]

-- where it begins to close, reading ended dry
closes_dry : (s mid t : Streams) (l n : LinkView) (es fs : List Event) → mid.closing ≡ s.closing → ReadDry t l n → Closes mid t true fs → BeganToClose s t l n (es ++ fs)
closes_dry s mid t l n es fs same dry closes x = elim (closes x) [
  | inl closing ↦ inl (sym same ∙ closing)
  | inr may ↦ inr (dry, last_behind _ es fs may.1)
]

send_error : (s t : Streams) (l m n : LinkView) (e : ConnectionFault) (es fs : List Event) → Keeps l m → SendEnds t m n (Err e) fs → TurnFails s t l n e (es ++ fs)
send_error s t l m n fault.Link es fs keeps is = rose_later l.faults m.faults n.faults keeps.counts.faults is
send_error s t l m n fault.Closed es fs keeps is = inr (last_behind _ es fs is)
send_error s t l m n fault.OutOfMemory es fs keeps is = tt
send_error s t l m n _ es fs keeps is = absurd is

-- sending never meets the limit
stops_sent : (s t : Streams) (l m : LinkView) (e : ConnectionFault) (es : List Event) (got piece : List ℕ) → SendEnds t l m (Err e) es → TurnStops s t (Err e) got piece
stops_sent s t l m (fault.LimitReached given limit) es got piece is = absurd is
stops_sent s t l m _ es got piece is = tt

-- where it closes, it did so before, or began by what the hub said last
closes_by : (s mid t : Streams) (may : Bool) (es fs : List Event) → mid.closing ≡ s.closing → Closes mid t may fs → ClosesBy s t (es ++ fs)
closes_by s mid t may es fs same closes x = elim (closes x) [
  | inl closing ↦ inl (sym same ∙ closing)
  | inr began ↦ inr (last_behind _ es fs began.1)
]

read_fails : (s t : Streams) (l n : LinkView) (e : ConnectionFault) (es : List Event) → s.closing ≡ false → t.closing ≡ s.closing → ReadEnds t l n (Err e) es → TurnFails s t l n e es
read_fails s t l n fault.Link es active same is = is
read_fails s t l n fault.Closed es active same is = inl (record { rose = is.0; buffer = is.1; held = is.2; delayed = is.3; unread = is.4; active = active; stays = same ∙ active })
read_fails s t l n fault.Ended es active same is = is
read_fails s t l n fault.BadLength es active same is = is
read_fails s t l n fault.Layout es active same is = is
read_fails s t l n (fault.Unreadable c) es active same is = is
read_fails s t l n (fault.Unasked e) es active same is = (is.0.0, is.0.1, same ∙ active, is.0.2, is.1)
read_fails s t l n (fault.LimitReached given limit) es active same is = is
read_fails s t l n fault.OutOfMemory es active same is = tt

pub read_error : (s t : Streams) (l n : LinkView) (e : ConnectionFault) (es : List Event) → s.closing ≡ false → t.closing ≡ s.closing → ReadEnds t l n (Err e) es → TurnEnds s t l n (Err e) es
read_error s t l n e es active same is = (λ x. inl (sym same ∙ x), read_fails s t l n e es active same is, λ x. absurd (not_both s.closing x active))

-- a write step leaves what was read
handed_stops : (a b c : Streams) (message : AsyncMessage) (got : List ℕ) → c.buffer.items ≡ b.buffer.items → c.held ≡ b.held → StopsAt a b message got → StopsAt a c message got
handed_stops a b c message got same held (inl was) =
    inl (record { delayed = was.delayed; none_read = was.none_read; buffer = same ∙ was.buffer; held = ap waiting held ∙ was.held })
handed_stops a b c message got same held (inr was) = inr (subst (λ (x : List ℕ). EndsAt (a.buffer.items ++ got) x message) (sym same) was)

-- where nothing was handed out
handed_none : (e : ConnectionFault) (handed : List RawMessage) → handed ≡ [] → HandedTurn (Err e) handed
handed_none fault.Link handed none = tt
handed_none fault.Closed handed none = tt
handed_none fault.OutOfMemory handed none = tt
handed_none _ handed none = none

-- where sending failed
handed_sent : (t : Streams) (l m : LinkView) (e : ConnectionFault) (es : List Event) (handed : List RawMessage) → SendEnds t l m (Err e) es → HandedTurn (Err e) handed
handed_sent t l m fault.Link es handed is = tt
handed_sent t l m fault.Closed es handed is = tt
handed_sent t l m fault.OutOfMemory es handed is = tt
handed_sent t l m _ es handed is = absurd is

-- where a read step failed
stops_read : (s t : Streams) (e : ConnectionFault) (got piece : List ℕ) → ReadStops s t (Err e) got piece → TurnStops s t (Err e) got piece
stops_read s t (fault.LimitReached given limit) got piece was = was
stops_read s t _ got piece was = tt

-- a turn whose read step failed
pub turned_read : {H : Type 0} (becomes : H → List Event → H → Type 0) (h i : H) (s t : Streams) (l m : LinkView) (e : ConnectionFault) → s.closing ≡ false → t.closing ≡ s.closing →
    ReadsOn becomes h i s t l m (HandedBy (Err e)) (ReadEnds t l m (Err e)) (ReadStops s t (Err e)) → m.shut ≡ l.shut → Turns becomes h i s t l m (Err e)
turned_read becomes h i s t l m e active same first shuts =
    let goes = first.hands.goes in
    record {
      handed = first.hands.handed;
      which = handed_none e first.hands.handed first.hands.is;
      goes = record {
        events = goes.events;
        calls = goes.calls;
        became = goes.became;
        passes = goes.passes;
        ended = read_error s t l m e goes.events active same goes.ended;
      };
      paced = first.paced;
      stops = stops_read s t e goes.passes.got first.paced.piece first.stops_there;
      reads_first = was_due l.due m.due goes.passes.got first.due;
      shut = shuts;
    }

-- both steps, with what each says of its events, as one turn
turns-all : {H : Type 0} (becomes : H → List Event → H → Type 0) → Joins becomes → (h i k : H) (a b c : Streams) (l m n : LinkView)
    (W : List RawMessage → Type 0) (E F : List Event → Type 0) (S : (got piece : List ℕ) → Type 0) (r : Result TurnEnd ConnectionFault) →
    (first : ReadsOn becomes h i a b l m W E S) → Goes becomes i k b c m n [] F → c.given ≡ b.given → HandedTurn r first.hands.handed →
    ((es fs : List Event) → E es → F fs → TurnEnds a c l n r (es ++ fs)) → ((got piece : List ℕ) → S got piece → TurnStops a c r got piece) → Shuts (is_last_turn r) l n → Turns becomes h k a c l n r
turns-all becomes joins h i k a b c l m n W E F S r first more same which ends stops shuts =
    let hs = first.hands.handed in
    let goes = first.hands.goes in
    let es = goes.events in
    let fs = more.events in
    let passes : Passes a c l n (es ++ fs) (hs ++ []) = passes-joined a b c l m n es fs hs [] goes.passes more.passes in
    let all : passes.got ≡ goes.passes.got = got_before a b c l m n es fs hs [] goes.passes more.passes same in
    record {
      handed = hs;
      which = which;
      goes = record {
        events = es ++ fs;
        calls = calls-then es fs goes.calls more.calls;
        became = joins h i k es fs goes.became more.became;
        passes = handed-as a c l n (es ++ fs) (hs ++ []) hs (append-nil hs) passes;
        ended = ends es fs goes.ended more.ended;
      };
      paced = paced_later a goes.passes.got passes.got es fs all first.paced;
      stops = subst (λ (x : List ℕ). TurnStops a c r x first.paced.piece) (sym all) (stops goes.passes.got first.paced.piece first.stops_there);
      reads_first = subst (λ (x : List ℕ). WasDue l x) (sym all) (was_due l.due m.due goes.passes.got first.due);
      shut = shuts;
    }

-- what the read step did, at the arm's own value
pub at_read : {H : Type 0} (becomes : H → List Event → H → Type 0) (h i : H) (s t : Streams) (l m : LinkView) (x y : ReadEnd) → y ≡ x →
    ReadsOn becomes h i s t l m (HandedBy (Ok y)) (ReadEnds t l m (Ok y)) (ReadStops s t (Ok y)) → ReadsOn becomes h i s t l m (HandedBy (Ok x)) (ReadEnds t l m (Ok x)) (ReadStops s t (Ok x))
at_read becomes h i s t l m x y is hands = subst (λ (z : ReadEnd). ReadsOn becomes h i s t l m (HandedBy (Ok z)) (ReadEnds t l m (Ok z)) (ReadStops s t (Ok z))) is hands

pub at_send : {H : Type 0} (becomes : H → List Event → H → Type 0) (h i : H) (s t : Streams) (l m : LinkView) (may : Bool) (x y : SendEnd) → y ≡ x →
    Goes becomes h i s t l m [] (Sends s t l m may (Ok y)) → Goes becomes h i s t l m [] (Sends s t l m may (Ok x))
at_send becomes h i s t l m may x y is goes = subst (λ (z : SendEnd). Goes becomes h i s t l m [] (Sends s t l m may (Ok z))) is goes

pub turned_handed : {H : Type 0} (becomes : H → List Event → H → Type 0) → Joins becomes → (h i k : H) (a b c : Streams) (l m n : LinkView) (message : AsyncMessage) →
    a.closing ≡ false → OnlyReads a b l m → OnlySends b c m n → ReadsOn becomes h i a b l m (HandedBy (Ok (ending.Handed message))) (ReadEnds b l m (Ok (ending.Handed message))) (ReadStops a b (Ok (ending.Handed message))) →
    Goes becomes i k b c m n [] (Sends b c m n false (Ok sending.Waits)) → Turns becomes h k a c l n (Ok (turn.Handed message))
turned_handed becomes joins h i k a b c l m n message active reads sends first more =
    turns-all becomes joins h i k a b c l m n (HandedBy (Ok (ending.Handed message))) (ReadEnds b l m (Ok (ending.Handed message))) (Sends b c m n false (Ok sending.Waits)) (ReadStops a b (Ok (ending.Handed message))) (Ok (turn.Handed message)) first more sends.count first.hands.is
    (λ es fs e f. record {
      active = active;
      stays = stays_open a b c fs active reads.closing f.closes;
      writing = written_later c l m n es fs first.hands.goes.passes.link reads.shut (untouched_first a b c l m n _ _ _ _ first.hands.goes.passes more.passes) f.end.writing;
    }) (λ got piece was. handed_stops a b c message got sends.buffer sends.held was) (more.ended.shut ∙ reads.shut)

pub turned_full : {H : Type 0} (becomes : H → List Event → H → Type 0) → Joins becomes → (h i k : H) (a b c : Streams) (l m n : LinkView) →
    a.closing ≡ false → OnlyReads a b l m → OnlySends b c m n → ReadsOn becomes h i a b l m (HandedBy (Ok ending.Full)) (ReadEnds b l m (Ok ending.Full)) (ReadStops a b (Ok ending.Full)) →
    Goes becomes i k b c m n [] (Sends b c m n false (Ok sending.Waits)) → Turns becomes h k a c l n (Ok turn.Waits)
turned_full becomes joins h i k a b c l m n active reads sends first more =
    turns-all becomes joins h i k a b c l m n (HandedBy (Ok ending.Full)) (ReadEnds b l m (Ok ending.Full)) (Sends b c m n false (Ok sending.Waits)) (ReadStops a b (Ok ending.Full)) (Ok turn.Waits) first more sends.count first.hands.is
    (λ es fs e f. record {
      reading = inr (inl (some_of_last is_full es fs e.0.0, subst (λ (x : Option Held). SomeGivesBack (waiting x) (es ++ fs)) (sym sends.held) (back_of_last (waiting b.held) es fs e.0.1)));
      no_delayed = λ x. sends.delayed ∙ e.1;
      writing = written_later c l m n es fs first.hands.goes.passes.link reads.shut (untouched_first a b c l m n _ _ _ _ first.hands.goes.passes more.passes) f.end.writing;
      closing = λ x. absurd (not_both c.closing x (stays_open a b c fs active reads.closing f.closes));
      began = λ x. absurd (not_both c.closing x (stays_open a b c fs active reads.closing f.closes));
      must = λ allowed none. absurd (not_full (some_is is_full (es ++ fs)) (some_of_last is_full es fs e.0.0) allowed);
      still = λ x. absurd (not_both a.closing x active);
    }) (λ got piece was. tt) (more.ended.shut ∙ reads.shut)

pub turned_dry : {H : Type 0} (becomes : H → List Event → H → Type 0) → Joins becomes → (h i k : H) (a b c : Streams) (l m n : LinkView) →
    a.closing ≡ false → OnlyReads a b l m → OnlySends b c m n → ReadsOn becomes h i a b l m (HandedBy (Ok ending.Dry)) (ReadEnds b l m (Ok ending.Dry)) (ReadStops a b (Ok ending.Dry)) →
    Goes becomes i k b c m n [] (Sends b c m n true (Ok sending.Waits)) → Turns becomes h k a c l n (Ok turn.Waits)
turned_dry becomes joins h i k a b c l m n active reads sends first more =
    turns-all becomes joins h i k a b c l m n (HandedBy (Ok ending.Dry)) (ReadEnds b l m (Ok ending.Dry)) (Sends b c m n true (Ok sending.Waits)) (ReadStops a b (Ok ending.Dry)) (Ok turn.Waits) first more sends.count first.hands.is
    (λ es fs e f.
    let dry = dry_turn a b c l m n more.events more.passes reads sends e in
    record {
      reading = inr (inr dry);
      no_delayed = λ x. dry.cleared.delayed;
      writing = written_later c l m n es fs first.hands.goes.passes.link reads.shut (untouched_first a b c l m n _ _ _ _ first.hands.goes.passes more.passes) f.end.writing;
      closing = λ x. blocked_later c.moved l m n first.hands.goes.passes.link (untouched_first a b c l m n _ _ _ _ first.hands.goes.passes more.passes) (f.end.closing x);
      began = closes_dry a b c l n es fs reads.closing dry f.closes;
      must = λ allowed none. must_close c l m n es fs first.hands.goes.passes.link (untouched_first a b c l m n _ _ _ _ first.hands.goes.passes more.passes) f.end.writing f.must none;
      still = λ x. absurd (not_both a.closing x active);
    }) (λ got piece was. tt) (more.ended.shut ∙ reads.shut)

pub turned_over : {H : Type 0} (becomes : H → List Event → H → Type 0) → Joins becomes → (h i k : H) (a b c : Streams) (l m n : LinkView) →
    a.closing ≡ false → OnlyReads a b l m → OnlySends b c m n → ReadsOn becomes h i a b l m (HandedBy (Ok ending.Dry)) (ReadEnds b l m (Ok ending.Dry)) (ReadStops a b (Ok ending.Dry)) →
    Goes becomes i k b c m n [] (Sends b c m n true (Ok sending.Over)) → Turns becomes h k a c l n (Ok turn.Over)
turned_over becomes joins h i k a b c l m n active reads sends first more =
    turns-all becomes joins h i k a b c l m n (HandedBy (Ok ending.Dry)) (ReadEnds b l m (Ok ending.Dry)) (Sends b c m n true (Ok sending.Over)) (ReadStops a b (Ok ending.Dry)) (Ok turn.Over) first more sends.count first.hands.is
    (λ es fs e f. record {
      closing = f.end.0;
      sent = f.end.1;
      flushed = λ open_. f.end.2 (reads.shut ∙ open_);
      shut = f.shut;
      began = closes_dry a b c l n es fs reads.closing (dry_turn a b c l m n more.events more.passes reads sends e) f.closes;
      still = λ x. absurd (not_both a.closing x active);
    }) (λ got piece was. tt) more.ended.shut

-- a connection that may not close isn't over
pub never_over : {H R : Type 0} (becomes : H → List Event → H → Type 0) (i k : H) (a b c : Streams) (l m n : LinkView) → a.closing ≡ false → OnlyReads a b l m →
    Goes becomes i k b c m n [] (Sends b c m n false (Ok sending.Over)) → R
never_over becomes i k a b c l m n active reads more =
    absurd (not_both c.closing more.ended.end.0 (stays_open a b c more.events active reads.closing more.ended.closes))

pub turned_error : {H : Type 0} (becomes : H → List Event → H → Type 0) → Joins becomes → (h i k : H) (a b c : Streams) (l m n : LinkView) (may : Bool)
    (W : List RawMessage → Type 0) (E : List Event → Type 0) (S : (got piece : List ℕ) → Type 0) (e : ConnectionFault) →
    a.closing ≡ false → OnlyReads a b l m → OnlySends b c m n → ReadsOn becomes h i a b l m W E S → Goes becomes i k b c m n [] (Sends b c m n may (Err e)) → Turns becomes h k a c l n (Err e)
turned_error becomes joins h i k a b c l m n may W E S e active reads sends first more =
    turns-all becomes joins h i k a b c l m n W E (Sends b c m n may (Err e)) S (Err e) first more sends.count (handed_sent c m n e more.events first.hands.handed more.ended.end)
    (λ es fs x f. (closes_by a b c may es fs reads.closing f.closes, send_error a c l m n e es fs first.hands.goes.passes.link f.end, λ x. absurd (not_both a.closing x active)))
    (λ got piece was. stops_sent a c m n e more.events got piece more.ended.end) (more.ended.shut ∙ reads.shut)

-- a turn that reads nothing
pub turned_closing : {H : Type 0} (becomes : H → List Event → H → Type 0) (h i : H) (s t : Streams) (l m : LinkView) (x : SendEnd) (r : Result TurnEnd ConnectionFault) →
    ((handed : List RawMessage) → handed ≡ [] → HandedTurn r handed) → ((got piece : List ℕ) → TurnStops s t r got piece) → OnlySends s t l m → Goes becomes h i s t l m [] (Sends s t l m false (Ok x)) →
    ((es : List Event) → Sends s t l m false (Ok x) es → TurnEnds s t l m r es) → is_over_sent (Ok x) ≡ is_last_turn r → Turns becomes h i s t l m r
turned_closing becomes h i s t l m x r none stops only goes ends told = record {
  handed = [];
  which = none [] refl;
  goes = record { events = goes.events; calls = goes.calls; became = goes.became; passes = goes.passes; ended = ends goes.events goes.ended };
  paced = paced_none s goes.passes.got goes.events (no_more s t l m goes.events [] goes.passes only.count);
  stops = stops goes.passes.got [];
  reads_first = none_due l.due goes.passes.got (no_more s t l m goes.events [] goes.passes only.count);
  shut = subst (λ (b : Bool). Shuts b l m) told goes.ended.shut;
}

pub closing_waits : (s t : Streams) (l m : LinkView) (es : List Event) → s.closing ≡ true → t.closing ≡ true → OnlySends s t l m → Sends s t l m false (Ok sending.Waits) es → TurnEnds s t l m (Ok turn.Waits) es
closing_waits s t l m es closing stays only was = record {
  reading = inl closing;
  no_delayed = λ x. absurd (not_both s.closing closing x);
  writing = was.end.writing;
  closing = was.end.closing;
  began = λ x. inl closing;
  must = λ allowed none. inl stays;
  still = λ x. only;
}

pub closing_over : (s t : Streams) (l m : LinkView) (es : List Event) → s.closing ≡ true → OnlySends s t l m → Sends s t l m false (Ok sending.Over) es → TurnEnds s t l m (Ok turn.Over) es
closing_over s t l m es closing only was = record { closing = was.end.0; sent = was.end.1; flushed = was.end.2; shut = was.shut; began = λ x. inl closing; still = λ x. only }

closing_failed : (s t : Streams) (l m : LinkView) (e : ConnectionFault) (es : List Event) → SendEnds t l m (Err e) es → TurnFails s t l m e es
closing_failed s t l m fault.Link es is = is
closing_failed s t l m fault.Closed es is = inr is
closing_failed s t l m fault.OutOfMemory es is = tt
closing_failed s t l m _ es is = absurd is

pub closing_error : {H : Type 0} (becomes : H → List Event → H → Type 0) (h i : H) (s t : Streams) (l m : LinkView) (e : ConnectionFault) →
    s.closing ≡ true → OnlySends s t l m → Goes becomes h i s t l m [] (Sends s t l m false (Err e)) → Turns becomes h i s t l m (Err e)
closing_error becomes h i s t l m e closing only goes = record {
  handed = [];
  which = handed_none e [] refl;
  goes = record { events = goes.events; calls = goes.calls; became = goes.became; passes = goes.passes; ended = (λ x. inl closing, closing_failed s t l m e goes.events goes.ended.end, λ x. only) };
  paced = paced_none s goes.passes.got goes.events (no_more s t l m goes.events [] goes.passes only.count);
  stops = stops_sent s t l m e goes.events goes.passes.got [] goes.ended.end;
  reads_first = none_due l.due goes.passes.got (no_more s t l m goes.events [] goes.passes only.count);
  shut = goes.ended.shut;
}
