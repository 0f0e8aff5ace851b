-- What the calls of a command's polls and of a connection's do to a hub's state.
use Rattle.std.proofs.Common.{◌≡◌, ℕ, List, [], ◌∷◌, length, map, Bool, true, false, Ok, Err, refl, sym, ◌∙◌, if◌then◌else◌}
use Rattle.pg_desk.specs.declared.event.Deliver.TheVariants as delivering
use Rattle.pg_desk.specs.declared.event.Out.TheVariants as out
use Rattle.pg_desk.specs.declared.event.Take.TheVariants as taking
use Rattle.pg_desk.specs.declared.event.Event.{Event}
use Rattle.pg_desk.specs.declared.event.Event.TheVariants.{Book, Put as PutEvent, EndCopy, Take as TakeEvent, HangUp, NextStatement, NextPortal, Catalog as CatalogEvent, NextOut, Deliver as DeliverEvent, CloseRequests, Fail}
use Rattle.pg_spec.specs.declared.stamps.Stamp.{Stamp}
use Rattle.pg_desk.specs.History.{State, has_open, last_out, out_answer, after, after_all, Allows, IsExact}
use Rattle.pg_desk.proofs.Outs.{Stands, Whole, Waits, Part, stands}
use Rattle.pg_query.specs.Lives.{Deed, IsOf, AllOf}
use Rattle.pg_connect.specs.Ends.{last_is, has_no_more}
use Rattle.pg_connect.specs.Passed.{IsEngineCall, AllEngineCalls}

-- nothing was booked, and requests are as open as they were
pub record SameBook (s t : State) : Type 0 where
  pub book : t.book ≡ s.book
  pub closed : t.closed ≡ s.closed
  pub failed : t.failed ≡ s.failed

same-here : (s : State) → SameBook s s
same-here s = record { book = refl; closed = refl; failed = refl }

same-then : (s t u : State) → SameBook s t → SameBook t u → SameBook s u
same-then s t u h k = record { book = k.book ∙ h.book; closed = k.closed ∙ h.closed; failed = k.failed ∙ h.failed }

-- ---- a connection's calls

engine-keeps : (s : State) (e : Event) → IsEngineCall e → SameBook s (after s e)
engine-keeps s (NextOut (Ok (out.Part part))) h = record { book = refl; closed = refl; failed = refl }
engine-keeps s (NextOut (Ok out.CopyWaits)) h = same-here s
engine-keeps s (NextOut (Ok out.Nothing)) h = same-here s
engine-keeps s (NextOut (Ok out.NoMore)) h = same-here s
engine-keeps s (NextOut (Err e)) h = same-here s
engine-keeps s (DeliverEvent batch complete delivering.Taken) h = record { book = refl; closed = refl; failed = refl }
engine-keeps s (DeliverEvent batch complete (delivering.Full back)) h = same-here s
engine-keeps s (DeliverEvent batch complete (delivering.NoRequest back)) h = same-here s
engine-keeps s (DeliverEvent batch complete (delivering.OutOfMemory back)) h = same-here s
engine-keeps s (Book stamp part copying r) h = absurd h
engine-keeps s (TakeEvent id r) h = absurd h
engine-keeps s (HangUp id r) h = absurd h
engine-keeps s (NextStatement r) h = absurd h
engine-keeps s (NextPortal r) h = absurd h
engine-keeps s (CatalogEvent call) h = absurd h
engine-keeps s (PutEvent which part r) h = absurd h
engine-keeps s (EndCopy which part r) h = absurd h
engine-keeps s (CloseRequests r) h = absurd h
engine-keeps s (Fail r) h = absurd h

pub engine-all : (s : State) (es : List Event) → AllEngineCalls es → SameBook s (after_all s es)
engine-all s [] h = same-here s
engine-all s (e ∷ es) h = same-then s (after s e) (after_all s (e ∷ es)) (engine-keeps s e h.0) (engine-all (after s e) es h.1)

-- nothing more comes only where requests are closed
rest-closed : (s : State) → out.NoMore ≡ out_answer s → s.closed ≡ true
rest-closed s h = by_stands (stands (last_out s) out.NoMore (length s.gone_out) s.book s.copying h)
  where
    by : (b c : Bool) → out.NoMore ≡ (if b then out.Nothing else (if c then out.NoMore else out.Nothing)) → c ≡ true
    by true c h = absurd cc
    by false true h = refl
    by false false h = absurd cc

    by_stands : Stands (last_out s) (length s.gone_out) s.book s.copying out.NoMore → s.closed ≡ true
    by_stands (Whole w) = by (has_open s) s.closed w.is
    by_stands (Waits is w) = absurd cc
    by_stands (Part part is) = absurd cc

last-closed : (s : State) (e : Event) → Allows s e → has_no_more e ≡ true → s.closed ≡ true
last-closed s (NextOut (Ok out.NoMore)) h k = rest-closed s h.1
last-closed s (NextOut (Ok (out.Part part))) h k = absurd cc
last-closed s (NextOut (Ok out.CopyWaits)) h k = absurd cc
last-closed s (NextOut (Ok out.Nothing)) h k = absurd cc
last-closed s (NextOut (Err e)) h k = absurd cc
last-closed s (DeliverEvent batch complete r) h k = absurd cc
last-closed s (Book stamp part copying r) h k = absurd cc
last-closed s (TakeEvent id r) h k = absurd cc
last-closed s (HangUp id r) h k = absurd cc
last-closed s (NextStatement r) h k = absurd cc
last-closed s (NextPortal r) h k = absurd cc
last-closed s (CatalogEvent call) h k = absurd cc
last-closed s (PutEvent which part r) h k = absurd cc
last-closed s (EndCopy which part r) h k = absurd cc
last-closed s (CloseRequests r) h k = absurd cc
last-closed s (Fail r) h k = absurd cc

pub no-more-closed : (s : State) (es : List Event) → IsExact s es → AllEngineCalls es → last_is has_no_more es ≡ true → s.closed ≡ true
no-more-closed s [] x h k = absurd cc
no-more-closed s (e ∷ []) x h k = last-closed s e x.0 k
no-more-closed s (e ∷ f ∷ es) x h k = sym (engine-keeps s e h.0).closed ∙ no-more-closed (after s e) (f ∷ es) x.2 h.1 k

-- ---- a command's calls behind its booking

own-keeps : (s : State) (id : ℕ) (e : Event) → IsOf id e → SameBook s (after s e)
own-keeps s id (TakeEvent k (Ok (taking.Batch ms))) h = record { book = refl; closed = refl; failed = refl }
own-keeps s id (TakeEvent k (Ok taking.Empty)) h = same-here s
own-keeps s id (TakeEvent k (Ok taking.Over)) h = same-here s
own-keeps s id (TakeEvent k (Ok taking.Gone)) h = same-here s
own-keeps s id (TakeEvent k (Err e)) h = same-here s
own-keeps s id (HangUp k (Ok x)) h = record { book = refl; closed = refl; failed = refl }
own-keeps s id (HangUp k (Err e)) h = same-here s
own-keeps s id (Book stamp part copying r) h = absurd h
own-keeps s id (NextStatement r) h = absurd h
own-keeps s id (NextPortal r) h = absurd h
own-keeps s id (CatalogEvent call) h = absurd h
own-keeps s id (PutEvent which part r) h = absurd h
own-keeps s id (EndCopy which part r) h = absurd h
own-keeps s id (NextOut r) h = absurd h
own-keeps s id (DeliverEvent batch complete r) h = absurd h
own-keeps s id (CloseRequests r) h = absurd h
own-keeps s id (Fail r) h = absurd h

-- the events of one poll, under its stamp
abbrev pub stamped : Stamp → List Event → List Deed
stamped stamp es = map (λ e. record { stamp = stamp; event = e }) es

pub own-all : (s : State) (stamp : Stamp) (id : ℕ) (es : List Event) → AllOf id (stamped stamp es) → SameBook s (after_all s es)
own-all s stamp id [] h = same-here s
own-all s stamp id (e ∷ es) h = same-then s (after s e) (after_all s (e ∷ es)) (own-keeps s id e h.0) (own-all (after s e) stamp id es h.1)
