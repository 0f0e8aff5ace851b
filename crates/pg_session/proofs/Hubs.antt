-- Turns over a hub, as turns over the states that it stands for.
use Rattle.std.proofs.Common.{◌≡◌, ℕ, ◌≤◌, ◌<◌, List, [], ◌∷◌, length, Bool, Ok, Err, refl, sym, ap, subst, ◌∙◌, arith}
use Rattle.pg_spec.specs.declared.stamps.Stamp.{Stamp}
use Rattle.pg_connect.specs.Passed.{AllEngineCalls, IsEngineCall}
use Rattle.pg_desk.specs.declared.event.Deliver.TheVariants as delivering
use Rattle.pg_desk.specs.declared.event.Out.TheVariants as out
use Rattle.pg_desk.specs.declared.event.Event.{Event}
use Rattle.pg_desk.specs.declared.event.Event.TheVariants.{Book, Put as PutEvent, EndCopy, Take as TakeEvent, HangUp, NextStatement, NextPortal, Catalog as CatalogEvent, NextOut, Deliver as DeliverEvent, CloseRequests, Fail}
use Rattle.pg_desk.specs.History.{State, after, after_all, given, IsLegal}
use Rattle.pg_desk.specs.Kept.{legal-if-exact}
use Rattle.pg_hub.specs.Fits.{Fits, HubBecomes}
use Rattle.pg_hub.specs.Standing.{Standing}
use Rattle.pg_query.specs.Lives.{Deed}
use Rattle.pg_query.specs.declared.desk_call.DeskCall.{DeskCall}
use Rattle.pg_query.specs.declared.desk_call.Reply.{Reply}
use Rattle.pg_spec.specs.Courses.{Course}
use Rattle.pg_core.specs.Lists.{SparesAll, events_of}
use Rattle.pg_core.specs.Times.{HangsUpNone}
use Rattle.pg_core.proofs.Polls.{under_stamp}
use Rattle.pg_session.specs.Speeches.{Speech}
use Rattle.pg_session.specs.Handles.{HandleState}
use Rattle.pg_session.specs.HandleTurns.{Answers, Waits}
use Rattle.pg_session.specs.Kept.{NoneFrom, Now}
use Rattle.pg_session.proofs.AllKept.{AreNobodys}
use Rattle.pg_session.proofs.HandleTurn.{StateBecomes}

-- a hub's events are legal, and lead to a state that it stands for
pub record Becomes (s : State) (es : List Event) (b : Standing) : Type 0 where
  pub legal : IsLegal s es
  pub fits : Fits (after_all s es) b

pub becomes : (s : State) (a b : Standing) (es : List Event) → Fits s a → HubBecomes a es b → Becomes s es b
becomes s a b es f h = let k = h.stands s f in record { legal = legal-if-exact s es k.0; fits = k.1 }

abbrev pub waits-state : {C T A E : Type 0} (speech : Speech C T A E) (script : List C) (stamp : Stamp) (s : State) (a : Standing) (old : HandleState T A E) (b : Standing) (new : HandleState T A E) (begins : Bool) → Fits s a →
    (h : Waits HubBecomes speech script stamp a old b new begins) → Waits StateBecomes speech script stamp s old (after_all s h.pauses.goes.events) new begins
waits-state speech script stamp s a old b new begins f h = record {
  from = h.from;
  starts = h.starts;
  to = h.to;
  pauses = record {
    goes = record { events = h.pauses.goes.events; became = ((becomes s a b h.pauses.goes.events f h.pauses.goes.became).legal, refl); walked = h.pauses.goes.walked };
    waits = h.pauses.waits;
  };
  handle = h.handle;
}

abbrev pub answers-state : {C T A E : Type 0} (speech : Speech C T A E) (script : List C) (stamp : Stamp) (s : State) (a : Standing) (old : HandleState T A E) (b : Standing) (new : HandleState T A E) → Fits s a →
    (h : Answers HubBecomes speech script stamp a old b new) → Answers StateBecomes speech script stamp s old (after_all s h.goes.goes.events) new
answers-state speech script stamp s a old b new f h = record {
  begins = h.begins;
  from = h.from;
  starts = h.starts;
  command = h.command;
  stands = h.stands;
  answer = h.answer;
  goes = record {
    last = h.goes.last;
    goes = record { events = h.goes.goes.events; became = ((becomes s a b h.goes.goes.events f h.goes.goes.became).legal, refl); walked = h.goes.goes.walked };
    answers = h.goes.answers;
  };
  memory = h.memory;
  handle = h.handle;
}

-- nothing came for a request that isn't booked
pub none-given : (s : State) (h : Standing) → Fits s h → (k : ℕ) → length s.book ≤ k → given k s.deliveries ≡ []
none-given s h f k le =
    f.none_given k (let a = f.standing.out.started in let b = f.parts.started in let c = ap length f.book in omega (arith, a, b, c, le))

-- ---- a connection's calls are nobody's

record Quiet (s t : State) (e : Event) : Type 0 where
  spares : (n : ℕ) → SparesAll n (record { stamp = record { owner = 0; command = 0; turn = 0 }; event = e } ∷ []) × HangsUpNone n (record { stamp = record { owner = 0; command = 0; turn = 0 }; event = e } ∷ [])
  book : t.book ≡ s.book
  statements : t.statements ≡ s.statements
  portals : t.portals ≡ s.portals
  catalog : t.catalog ≡ s.catalog

engine-quiet : (s : State) (e : Event) → IsEngineCall e → Quiet s (after s e) e
engine-quiet s (NextOut (Ok (out.Part part))) h = record { spares = λ n. ((tt, tt), (tt, tt)); book = refl; statements = refl; portals = refl; catalog = refl }
engine-quiet s (NextOut (Ok out.CopyWaits)) h = record { spares = λ n. ((tt, tt), (tt, tt)); book = refl; statements = refl; portals = refl; catalog = refl }
engine-quiet s (NextOut (Ok out.Nothing)) h = record { spares = λ n. ((tt, tt), (tt, tt)); book = refl; statements = refl; portals = refl; catalog = refl }
engine-quiet s (NextOut (Ok out.NoMore)) h = record { spares = λ n. ((tt, tt), (tt, tt)); book = refl; statements = refl; portals = refl; catalog = refl }
engine-quiet s (NextOut (Err e)) h = record { spares = λ n. ((tt, tt), (tt, tt)); book = refl; statements = refl; portals = refl; catalog = refl }
engine-quiet s (DeliverEvent batch complete delivering.Taken) h = record { spares = λ n. ((tt, tt), (tt, tt)); book = refl; statements = refl; portals = refl; catalog = refl }
engine-quiet s (DeliverEvent batch complete (delivering.Full back)) h = record { spares = λ n. ((tt, tt), (tt, tt)); book = refl; statements = refl; portals = refl; catalog = refl }
engine-quiet s (DeliverEvent batch complete (delivering.NoRequest back)) h = record { spares = λ n. ((tt, tt), (tt, tt)); book = refl; statements = refl; portals = refl; catalog = refl }
engine-quiet s (DeliverEvent batch complete (delivering.OutOfMemory back)) h = record { spares = λ n. ((tt, tt), (tt, tt)); book = refl; statements = refl; portals = refl; catalog = refl }
engine-quiet s (Book stamp part copying r) h = absurd h
engine-quiet s (PutEvent id part r) h = absurd h
engine-quiet s (EndCopy id part r) h = absurd h
engine-quiet s (TakeEvent id r) h = absurd h
engine-quiet s (HangUp id r) h = absurd h
engine-quiet s (NextStatement r) h = absurd h
engine-quiet s (NextPortal r) h = absurd h
engine-quiet s (CatalogEvent call) h = absurd h
engine-quiet s (CloseRequests r) h = absurd h
engine-quiet s (Fail r) h = absurd h

-- the calls, under a stamp that nobody has
abbrev pub nobodys : List Event → List Deed
nobodys es = under_stamp (record { owner = 0; command = 0; turn = 0 }) es

pub nobodys-events : (es : List Event) → events_of (nobodys es) ≡ es
nobodys-events [] = refl
nobodys-events (e ∷ es) = ap (λ (l : List Event). e ∷ l) (nobodys-events es)

record QuietAll (s t : State) (es : List Event) : Type 0 where
  spares : (n : ℕ) → SparesAll n (nobodys es) × HangsUpNone n (nobodys es)
  book : t.book ≡ s.book
  statements : t.statements ≡ s.statements
  portals : t.portals ≡ s.portals
  catalog : t.catalog ≡ s.catalog

engine-all-quiet : (s : State) (es : List Event) → AllEngineCalls es → QuietAll s (after_all s es) es
engine-all-quiet s [] h = record { spares = λ n. (tt, tt); book = refl; statements = refl; portals = refl; catalog = refl }
engine-all-quiet s (e ∷ es) h =
    let one = engine-quiet s e h.0 in
    let more = engine-all-quiet (after s e) es h.1 in
    record {
      spares = λ n. (((one.spares n).0.0, (more.spares n).0), ((one.spares n).1.0, (more.spares n).1));
      book = more.book ∙ one.book;
      statements = more.statements ∙ one.statements;
      portals = more.portals ∙ one.portals;
      catalog = more.catalog ∙ one.catalog;
    }

pub engine-nobodys : (course : Course DeskCall Reply) (handles : ℕ) (now : Now) (es : List Event) (turns : ℕ) → now.turns ≤ turns → ((i : ℕ) → i < handles → NoneFrom course i now.turns turns) → IsLegal now.state es → AllEngineCalls es →
    AreNobodys course handles now (nobodys es) turns
engine-nobodys course handles now es turns le none legal calls =
    let q = engine-all-quiet now.state es calls in
    let same = nobodys-events es in
    record {
      no_fewer = le;
      none = none;
      legal = subst (λ (xs : List Event). IsLegal now.state xs) (sym same) legal;
      spares = q.spares;
      book = ap (λ (xs : List Event). (after_all now.state xs).book) same ∙ q.book;
      statements = ap (λ (xs : List Event). (after_all now.state xs).statements) same ∙ q.statements;
      portals = ap (λ (xs : List Event). (after_all now.state xs).portals) same ∙ q.portals;
      catalog = ap (λ (xs : List Event). (after_all now.state xs).catalog) same ∙ q.catalog;
    }

-- so is a closing
pub closing-nobodys : (course : Course DeskCall Reply) (handles : ℕ) (now : Now) → AreNobodys course handles now (nobodys (CloseRequests (Ok tt) ∷ [])) now.turns
closing-nobodys course handles now = record {
  no_fewer = omega arith;
  none = λ i lt place ge below own. omega (arith, ge, below);
  legal = (tt, tt);
  spares = λ n. ((tt, tt), (tt, tt));
  book = refl;
  statements = refl;
  portals = refl;
  catalog = refl;
}
