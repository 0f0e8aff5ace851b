-- The states that a session's hub stands for, from its first event on.
use Rattle.std.proofs.Common.{◌≡◌, List, [], ◌∷◌, ◌++◌, false, sym, subst}
use Rattle.pg_desk.proofs.Soundness.{AllCut}
use Rattle.pg_desk.specs.declared.event.Event.{Event}
use Rattle.pg_desk.specs.History.{State, start, after, after_all, IsExact}
use Rattle.pg_hub.specs.Becomes.{after-joined, exact-joined, fits-touched}
use Rattle.pg_hub.specs.Fits.{Fits, HubBecomes}
use Rattle.pg_hub.specs.Standing.{Standing}
use Rattle.pg_session.proofs.Takes.{all-cut}
use Rattle.pg_session.specs.Turns.{untouched}

-- the hub stands for what these events led to
pub record Reached (hub : Standing) : Type 0 where
  pub events : List Event
  pub exact : IsExact (start 0 0) events
  pub fits : Fits (after_all (start 0 0) events) hub

-- the state that it stands for
abbrev pub state_of : {hub : Standing} → Reached hub → State
state_of r = after_all (start 0 0) r.events

abbrev pub reached-more : (a b : Standing) (es : List Event) → Reached a → HubBecomes a es b → Reached b
reached-more a b es r h =
    let more = h.stands (after_all (start 0 0) r.events) r.fits in
    record {
      events = r.events ++ es;
      exact = exact-joined (start 0 0) r.events es r.exact more.0;
      fits = subst (λ (s : State). Fits s b) (sym (after-joined (start 0 0) r.events es)) more.1;
    }

abbrev pub reached-untouched : (a : Standing) → Reached a → Reached (untouched a)
reached-untouched a r = record { events = r.events; exact = r.exact; fits = fits-touched (after_all (start 0 0) r.events) a false r.fits }

-- the state then
pub state-more : (a b : Standing) (es : List Event) (r : Reached a) (h : HubBecomes a es b) → state_of (reached-more a b es r h) ≡ after_all (state_of r) es
state-more a b es r h = after-joined (start 0 0) r.events es

-- each batch that came is of one reply
pub reached-cut : (hub : Standing) (r : Reached hub) → AllCut (state_of r).deliveries
reached-cut hub r = all-cut (start 0 0) r.events r.exact tt

pub exact-back : (s : State) (es fs : List Event) → IsExact s (es ++ fs) → IsExact (after_all s es) fs
exact-back s [] fs x = x
exact-back s (e ∷ es) fs x = exact-back (after s e) es fs x.2
