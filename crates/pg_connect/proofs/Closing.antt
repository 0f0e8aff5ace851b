-- What is offered behind Terminate.
use Rattle.std.proofs.Common.{◌≡◌, inl, inr, Bool, true, false, List, [], ◌∷◌, refl, sym, ◌∙◌, Result, Ok, Err}
use Rattle.pg_spec.specs.Links.{LinkView}
use Rattle.pg_wire.specs.LinkCalls.{Keeps}
use Rattle.pg_desk.specs.declared.event.Out.TheVariants.{NoMore}
use Rattle.pg_desk.specs.declared.event.Event.{Event}
use Rattle.pg_desk.specs.declared.event.Event.TheVariants.{NextOut}
use Rattle.pg_connect.specs.declared.fault.ConnectionFault.{ConnectionFault}
use Rattle.pg_connect.specs.declared.fault.ConnectionFault.TheVariants as fault
use Rattle.pg_connect.specs.declared.ends.WriteEnd.{WriteEnd}
use Rattle.pg_connect.specs.declared.ends.WriteEnd.TheVariants as writes
use Rattle.pg_connect.specs.declared.ends.PartsEnd.TheVariants as parts
use Rattle.pg_connect.specs.declared.streams.Streams.{Streams}
use Rattle.pg_connect.specs.Passes.{Goes, Untouched}
use Rattle.pg_connect.specs.Ends.{Written, WriteEnds, PartsEnds, has_none, has_no_more, last_is}
use Rattle.pg_connect.proofs.Joining.{rose_later, blocked_later}

pub writes_later : (s : Streams) (a b c : LinkView) (r : Result WriteEnd ConnectionFault) (events : List Event) → Keeps a b → (s.moved ≡ false → Untouched a b) → s.closing ≡ true →
    WriteEnds s b c r [] → WriteEnds s a c r events
writes_later s a b c (Ok writes.Blocked) events keeps still closing was = blocked_later s.moved a b c keeps still was
writes_later s a b c (Ok writes.AllTaken) events keeps still closing was = (was.0, λ active. let no : true ≡ false = sym closing ∙ active in cc)
writes_later s a b c (Err fault.Link) events keeps still closing was = rose_later a.faults b.faults c.faults keeps.counts.faults was
writes_later s a b c (Err fault.OutOfMemory) events keeps still closing was = tt
writes_later s a b c (Err fault.Closed) events keeps still closing was = let no : false ≡ true = was in cc
writes_later s a b c (Err _) events keeps still closing was = absurd was

no_more_is_none : (e : Event) → has_no_more e ≡ true → has_none e ≡ true
no_more_is_none (NextOut (Ok NoMore)) is = refl
no_more_is_none _ is = cc

pub last_has_none : (es : List Event) → last_is has_no_more es ≡ true → last_is has_none es ≡ true
last_has_none [] is = is
last_has_none (e ∷ []) is = no_more_is_none e is
last_has_none (e ∷ f ∷ es) is = last_has_none (f ∷ es) is

pub goes-ends : {H : Type 0} (becomes : H → List Event → H → Type 0) (h i : H) (a b : Streams) (l m : LinkView) (hs : List _) (E F : List Event → Type 0) →
    Goes becomes h i a b l m hs E → ((es : List Event) → E es → F es) → Goes becomes h i a b l m hs F
goes-ends becomes h i a b l m hs E F goes ends = record { events = goes.events; calls = goes.calls; became = goes.became; passes = goes.passes; ended = ends goes.events goes.ended }

-- what a write step says where the connection was closing already
pub written_closing : (s t : Streams) (a b : LinkView) (may : Bool) (r : Result WriteEnd ConnectionFault) → s.closing ≡ true → t.closing ≡ true →
    Written s t a b false r [] → Written s t a b may r []
written_closing s t a b may r closing stays was = record { end = was.end; closes = λ x. inl closing; must = λ all allowed none. stays }

-- what was offered behind Terminate, as the write step that queued it
pub written_goodbye : (s m t : Streams) (a b c : LinkView) (may : Bool) (r : Result WriteEnd ConnectionFault) (events : List Event) → Keeps a b → (t.moved ≡ false → Untouched a b) → may ≡ true →
    t.closing ≡ true → last_is has_no_more events ≡ true → Written m t b c false r [] → Written s t a c may r events
written_goodbye s m t a b c may r events keeps still allowed closing none was = record {
  end = writes_later t a b c r events keeps still closing was.end;
  closes = λ x. inr (allowed, none);
  must = λ all may no_more. closing;
}

-- nothing more will come, and the connection may not close yet
pub written_open : (s t : Streams) (a b : LinkView) (may : Bool) (events : List Event) → may ≡ false → t.closing ≡ false →
    PartsEnds t a b (Ok parts.NoMore) events → Written s t a b may (Ok writes.AllTaken) events
written_open s t a b may events barred active was = record {
  end = (was.0, λ x. last_has_none events was.1);
  closes = λ x. let no : false ≡ true = sym active ∙ x in cc;
  must = λ all allowed none. let no : true ≡ false = sym allowed ∙ barred in cc;
}

-- the hub has no part now
pub written_waits : (s t : Streams) (a b : LinkView) (may : Bool) (events : List Event) → t.closing ≡ false →
    PartsEnds t a b (Ok parts.Waits) events → Written s t a b may (Ok writes.AllTaken) events
written_waits s t a b may events active was = record {
  end = (was.0, λ x. was.1);
  closes = λ x. let no : false ≡ true = sym active ∙ x in cc;
  must = λ all allowed none. let no : true ≡ false = sym none ∙ was.2 in cc;
}

-- the link took no more
pub written_blocked : (s t : Streams) (a b : LinkView) (may : Bool) (events : List Event) → t.closing ≡ false →
    PartsEnds t a b (Ok parts.Blocked) events → Written s t a b may (Ok writes.Blocked) events
written_blocked s t a b may events active was = record {
  end = was;
  closes = λ x. let no : false ≡ true = sym active ∙ x in cc;
  must = λ all allowed none. absurd cc;
}
